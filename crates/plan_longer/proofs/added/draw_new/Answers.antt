-- `plan_longer::added::draw_new` meets its contract: the block stands on the old right edge if a full tree of the old height has it, and is made as the root
-- rises if not.
use Prim.Native.Nat.{◌+◌, ◌^◌, ◌≤◌}
use native.Mathlib.Omega.{arith}
use borrow.Author.Rules.{rules}
use Rattle.plan_longer.proofs.risen.Sizes.{number_small, new_small}
use Rattle.plan_longer.proofs.added.Sizes.{own_fits, edge_low, edge_power, edge_first}
use Rattle.plan_longer.proofs.added.EdgeDrawn.{new_edge}
use Rattle.plan_longer.proofs.added.draw_new.Goals as goal

pub overflow_add-number : goal.overflow_add-number
overflow_add-number c =
    let x = c.args in
    let small : x.p + x.t.blocks ≤ 2 ^ 47 = search number_small in
    omega arith

pub bulk-requires : goal.bulk-requires
bulk-requires c = (search rules, search own_fits)

pub edge_seat-s-requires : goal.edge_seat-s-requires
edge_seat-s-requires c = (search rules, search own_fits, search rules, search new_small)

pub draw_fresh-requires : goal.draw_fresh-requires
draw_fresh-requires c = record {
  proper = search rules;
  grows = search rules;
  payload_len = (search rules, search edge_low, search edge_power, search edge_first, search new_small);
}

pub returns-then-number-bulk : goal.returns-then-number-bulk
returns-then-number-bulk c = search new_edge

pub draw_risen-requires : goal.draw_risen-requires
draw_risen-requires c = record {
  proper = search rules;
  grows = search rules;
  towers = search rules;
  root_block = search rules;
  payload_len = (search rules, search rules, search rules, search rules);
}
