-- What is drawn of a block on the old right edge is what the new block holds.
use mathlib.Core.Path.{◌≡◌, ◌∙◌}
use mathlib.Core.List.{List}
use Prim.Native.Nat.{ℕ, ◌+◌, ◌-◌, ◌<◌}
use native.Mathlib.Omega.{arith}
use Rattle.meaning.specs.declared.Edition.{Edition}
use Rattle.meaning.specs.Edition.{Proper}
use Rattle.laws_resize.specs.growth.Forms.{bulk, seat, fresh_cell, new_bytes, grown_new}
use Rattle.plan_tree.specs.declared.seats.Seat.{Seat}
use Rattle.plan_tree.specs.seats.{Sits}
use Rattle.laws_resize.proofs.rising.Rises.{new_on_edge}
use Rattle.plan_slot.specs.declared.payload.Drawn.{Drawn}
use Rattle.plan_slot.specs.payload.{Draws}
use Rattle.plan_longer.specs.declared.fresh.Growth.{Growth}
use Rattle.plan_longer.specs.fresh.{Grows}
use Rattle.plan_longer.specs.declared.towers.Tower.{Tower}
use Rattle.plan_longer.specs.towers.{Towers}
use Rattle.plan_longer.proofs.towers.RootDrawn.{draws_as, new_leaves_lem, blocks_is}
use Rattle.plan_longer.proofs.risen.RisenDrawn.{new_at, fresh_at, new_is}

-- the new blocks of a blob that gets longer
module _ (e : Edition) (g : Growth) (t : Tower) (free row : List ℕ) (proper : Proper e) (grows : Grows e g) (towers : Towers e g t) where
  -- on the right edge
  edge_is : (p : ℕ) (s : Seat) → p + t.blocks < bulk e.fan t.height → Sits s (seat e.fan t.height g.leaves p)
      → new_at e g t free row p ≡ fresh_at e g free s.height s.first p
  edge_is p s low sits =
      let less = rw (blocks_is e g t towers, towers.height) at low in
      new_is e g t free row towers p ∙ new_on_edge e proper towers.blob towers.shaped g.length towers.long free row p less
      ∙ rw (sits.height, sits.first, ← new_leaves_lem e g free grows, towers.height, towers.leaves)

  -- as code has it: the block's number is that of the new block, after the old ones
  pub new_edge : (p b : ℕ) (s : Seat) (d : Drawn) (x : List ℕ) → b ≡ bulk e.fan t.height → p + t.blocks < b
      → Sits s (seat e.fan t.height g.leaves p)
      → Draws e (fresh_cell e.fan g.more (new_bytes e g.length g.leaves free) free s.height s.first p) d x
      → Draws e (grown_new e g.length g.leaves free (t.top - t.height) t.height row p) d x
  new_edge p b s d x whole low sits draws = draws_as (edge_is p s (omega arith) sits) draws
