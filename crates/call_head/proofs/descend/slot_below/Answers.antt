-- `call_head::descend::slot_below` meets its contract: the last two heights are `below` unfolded twice, and those above are `near_below`, which has the same contract.
use Rattle.laws.proofs.Editions.{digit_below}
use Rattle.call_head.proofs.descend.Descended.{at_root, one_below, two_lower}
use borrow.Author.Rules.{rules}
use Rattle.call_head.proofs.descend.slot_below.Goals as goal

pub returns-then-d-eq0 : goal.returns-then-d-eq0
returns-then-d-eq0 c = search at_root

pub child_at-requires : goal.child_at-requires
child_at-requires c = record { proper = search rules; i_lt_fan = search digit_below }

pub returns-then-d-eq1 : goal.returns-then-d-eq1
returns-then-d-eq1 c = search one_below

pub returns : goal.returns
returns c = search two_lower
