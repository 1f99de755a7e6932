-- `call_head::descend::two_below` meets its contract: two steps of the code are two unfoldings of `below`.
use Rattle.laws.proofs.Editions.{digit_below}
use Rattle.call_head.proofs.descend.Descended.{two_below}
use borrow.Author.Rules.{rules}
use Rattle.call_head.proofs.descend.two_below.Goals as goal

pub child_at-upper-requires : goal.child_at-upper-requires
child_at-upper-requires c = record { proper = search rules; i_lt_fan = search digit_below }

pub child_at-requires : goal.child_at-requires
child_at-requires c = record { proper = search rules; i_lt_fan = search digit_below }

pub returns : goal.returns
returns c = search two_below
