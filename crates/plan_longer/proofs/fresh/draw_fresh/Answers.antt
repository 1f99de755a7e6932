-- A leaf of zeros, or an inner block, one higher than the lower function's number.
use Rattle.plan_tree.proofs.subtrees.SubtreesFromBelow.{low_power}
use Rattle.plan_longer.proofs.fresh.NewBlocksDrawn.{fresh_leaf, fresh_higher}
use borrow.Author.Rules.{rules}
use Rattle.plan_longer.proofs.fresh.draw_fresh.Goals as goal

pub returns-then-h-eq0 : goal.returns-then-h-eq0
returns-then-h-eq0 c = search fresh_leaf

pub fresh_inner-requires : goal.fresh_inner-requires
fresh_inner-requires c = record { proper = search rules; grows = search rules; payload_len = (search rules, search rules, search low_power, search rules) }

pub returns : goal.returns
returns c = search fresh_higher
