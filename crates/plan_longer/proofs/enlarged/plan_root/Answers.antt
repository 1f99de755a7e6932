-- The root is drawn at its new height, and compared with its block as it was.
use native.Mathlib.Omega.{arith}
use Rattle.plan_longer.proofs.towers.Sizes.{top_above}
use Rattle.plan_longer.proofs.enlarged.OldBlocksPlanned.{redrawn_root}
use borrow.Author.Rules.{rules}
use Rattle.plan_longer.proofs.enlarged.plan_root.Goals as goal

pub draw_top-d-requires : goal.draw_top-d-requires
draw_top-d-requires c =
    let high = top_above _ _ _ c.requires.proper c.requires.grows c.requires.towers in
    record {
      proper = search rules;
      grows = search rules;
      towers = search rules;
      root_block = search rules;
      payload_len = (search rules, omega (arith, high), omega (arith, high));
    }

pub returns : goal.returns
returns c = search redrawn_root
