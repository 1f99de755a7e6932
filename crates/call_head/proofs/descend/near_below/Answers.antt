-- `call_head::descend::near_below` meets its contract: one height and two are `below` unfolded once and twice; deeper is `far_below`, which has the same contract.
use Rattle.laws.proofs.Editions.{digit_below}
use Rattle.call_head.proofs.descend.Descended.{at_root, one_below, two_only}
use borrow.Author.Rules.{rules}
use Rattle.call_head.proofs.descend.near_below.Goals as goal

pub returns-then-d-eq0 : goal.returns-then-d-eq0
returns-then-d-eq0 c = search at_root

pub child_at-requires : goal.child_at-requires
child_at-requires c = record { proper = search rules; i_lt_fan = search digit_below }

pub returns-then-d-eq1 : goal.returns-then-d-eq1
returns-then-d-eq1 c = search one_below

pub returns-then-d-eq2 : goal.returns-then-d-eq2
returns-then-d-eq2 c = search two_only
