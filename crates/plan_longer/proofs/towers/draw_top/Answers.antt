-- `plan_longer::towers::draw_top` meets its contract: at its old height the root has its own row, filled; above it the child that took its row, and new ones.
use borrow.Author.Rules.{rules}
use Rattle.plan_longer.proofs.towers.Sizes.{own_low, own_power, own_most, own_share, below_low, below_power, below_leaves, below_blocks}
use Rattle.plan_longer.proofs.towers.RootDrawn.{root_own, root_above}
use Rattle.plan_longer.proofs.towers.draw_top.Goals as goal

pub draw_grown-requires : goal.draw_grown-requires
draw_grown-requires c = record {
  proper = search rules;
  grows = search rules;
  payload_len = (search rules, search own_low, search own_power, search rules);
  block_len = (search rules, search own_most, search own_share);
}

pub returns-then-level-t : goal.returns-then-level-t
returns-then-level-t c = search root_own

pub power-requires : goal.power-requires
power-requires c = (search rules, search below_power)

pub overflow_sub-j : goal.overflow_sub-j
overflow_sub-j c = search below_leaves

pub bulk-requires : goal.bulk-requires
bulk-requires c = (search rules, search below_power)

pub overflow_sub-b : goal.overflow_sub-b
overflow_sub-b c = search below_blocks

pub draw_above-requires : goal.draw_above-requires
draw_above-requires c = record { proper = search rules; grows = search rules; payload_len = (search rules, search below_low, search below_power, search rules) }

pub returns : goal.returns
returns c =
    let x = c.args in
    root_above x.e x.g x.t _ _ x.level _ _ _ _
    c.requires.grows c.if-level-t.false c.requires.payload_len.1 c.power.ensures c.bulk.ensures.0
    c.draw_above.ensures
