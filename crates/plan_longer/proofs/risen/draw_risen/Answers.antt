-- `plan_longer::risen::draw_risen` meets its contract: the height at which the block is made is found; the first block there takes the root's row, and the
-- others stand beside it.
use borrow.Author.Rules.{rules}
use Rattle.plan_longer.proofs.towers.Sizes.{top_above}
use Rattle.plan_longer.proofs.risen.Sizes.{top_fits, level_power, level_leaves, level_room, number_within}
use Rattle.plan_longer.proofs.risen.Sizes.{new_small, side_small, side_first, seat_low, seat_power}
use Rattle.plan_longer.proofs.risen.RisenDrawn.{new_moved, new_side}
use Rattle.plan_longer.proofs.risen.draw_risen.Goals as goal

pub level_of-level-requires : goal.level_of-level-requires
level_of-level-requires c = record { le_fan = (search rules, search top_fits, search top_above); h_bound = (search rules, search number_within) }

pub bulk-full-requires : goal.bulk-full-requires
bulk-full-requires c = (search rules, search level_power)

pub draw_top-requires : goal.draw_top-requires
draw_top-requires c = record {
  proper = search rules;
  grows = search rules;
  towers = search rules;
  root_block = search rules;
  payload_len = (search rules, search rules, search rules);
}

pub returns-then-number-full : goal.returns-then-number-full
returns-then-number-full c = search new_moved

pub power-requires : goal.power-requires
power-requires c = (search rules, search level_power)

pub overflow_sub-j : goal.overflow_sub-j
overflow_sub-j c = search level_leaves

pub in_row-s-requires : goal.in_row-s-requires
in_row-s-requires c = (search rules, search level_power, search level_room, search side_small)

pub draw_fresh-requires : goal.draw_fresh-requires
draw_fresh-requires c = record {
  proper = search rules;
  grows = search rules;
  payload_len = (search rules, search seat_low, search seat_power, search side_first, search new_small);
}

pub returns : goal.returns
returns c =
    let x = c.args in
    let at = c.level_of-level.ensures in
    new_side x.e x.g x.t _ _ c.requires.proper c.requires.grows c.requires.towers x.p x.number _ _ _ _ _ _
    c.requires.payload_len.2 at.0 at.1 at.2 at.3 c.bulk-full.ensures.0 c.if-number-full.false c.power.ensures
    c.in_row-s.ensures.sits c.draw_fresh.ensures
