-- No root, the named root, another root's fault, another root.
use Rattle.check_pool.proofs.roots.RootsBySteps.{slot_no_root, slot_named, slot_stop, slot_other, lent_nothing}
use Rattle.check_pool.proofs.roots.walk_slot.Goals as goal

pub returns-then-state-ne2 : goal.returns-then-state-ne2
returns-then-state-ne2 c = search slot_no_root

pub returns-then-eq : goal.returns-then-eq
returns-then-eq c = search slot_named

pub returns-in_default : goal.returns-in_default
returns-in_default c = search slot_stop

pub returns : goal.returns
returns c = search (slot_other, lent_nothing) fits 4000
