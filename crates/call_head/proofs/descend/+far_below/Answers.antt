-- `call_head::descend::far_below` meets its contract: one step of the code is one unfolding of `below`, and the heights left fall.
use Rattle.laws.proofs.Editions.{digit_below}
use Rattle.call_head.proofs.descend.Descended.{at_root, one_lower}
use borrow.Author.Rules.{rules}
use Rattle.call_head.proofs.descend.+far_below.Goals as goal

pub returns-then-d-eq0 : goal.returns-then-d-eq0
returns-then-d-eq0 t c = search at_root

pub child_at-requires : goal.child_at-requires
child_at-requires t c = record { proper = search rules; i_lt_fan = search digit_below }

pub returns : goal.returns
returns t c = search one_lower
