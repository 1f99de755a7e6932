-- What is left from the leaf's start on, and a full leaf at most.
use Rattle.plan_slot.proofs.payload.Copies.{start_small, share_is}
use borrow.Author.Rules.{rules}
use Rattle.plan_slot.proofs.payload.share_of.Goals as goal

pub overflow_mul-start : goal.overflow_mul-start
overflow_mul-start c = search start_small

pub returns : goal.returns
returns c = (search share_is, search rules)
