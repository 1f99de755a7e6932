-- A leaf or an inner block, one higher than the lower function's number.
use Rattle.laws.proofs.Checks.{inner_most}
use Rattle.plan_tree.proofs.subtrees.SubtreesFromBelow.{low_power}
use Rattle.plan_longer.proofs.extended.RowContinued.{grown_lowest, grown_higher, low_share}
use borrow.Author.Rules.{rules}
use Rattle.plan_longer.proofs.extended.draw_grown.Goals as goal

pub grown_leaf-requires : goal.grown_leaf-requires
grown_leaf-requires c = record { proper = search rules; payload_len = (search rules, search rules); block_len = (search rules, search low_share) }

pub returns-then-h-eq0 : goal.returns-then-h-eq0
returns-then-h-eq0 c = search grown_lowest

pub grown_inner-requires : goal.grown_inner-requires
grown_inner-requires c = record {
  proper = search rules;
  grows = search rules;
  payload_len = (search rules, search rules, search low_power);
  block_len = (search rules, search inner_most);
}

pub returns : goal.returns
returns c = search grown_higher
