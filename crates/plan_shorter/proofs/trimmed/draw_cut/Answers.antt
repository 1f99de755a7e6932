-- A leaf or an inner block, one higher than the lower function's number.
use Rattle.laws.proofs.Checks.{leaf_fits, inner_most}
use Rattle.plan_tree.proofs.subtrees.SubtreesFromBelow.{low_power}
use Rattle.plan_shorter.proofs.trimmed.RowCut.{cut_lowest, cut_higher}
use borrow.Author.Rules.{rules}
use Rattle.plan_shorter.proofs.trimmed.draw_cut.Goals as goal

pub cut_leaf-requires : goal.cut_leaf-requires
cut_leaf-requires c = search leaf_fits

pub returns-then-h-eq0 : goal.returns-then-h-eq0
returns-then-h-eq0 c = search cut_lowest

pub cut_inner-requires : goal.cut_inner-requires
cut_inner-requires c = record {
  proper = search rules;
  payload_len = (search rules, search rules, search low_power, search rules);
  block_len = (search rules, search inner_most);
}

pub returns : goal.returns
returns c = search cut_higher
