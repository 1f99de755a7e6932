-- What is drawn of a block that is made as the root rises is what the new block holds: the root's row, or a place beside it. Values come with their
-- equations, `w ≡ fan ^ h`, as code has them.
use mathlib.Core.Path.{◌≡◌, sym, ◌∙◌}
use mathlib.Core.List.{List}
use Prim.Native.Nat.{ℕ, suc, ◌+◌, ◌-◌, ◌^◌, ◌≤◌, ◌<◌}
use native.Mathlib.Omega.{arith}
use lib.ListN.{length}
use Rattle.meaning.specs.declared.Edition.{Edition}
use Rattle.meaning.specs.Edition.{Proper}
use Rattle.meaning.specs.Bytes.{Cell}
use Rattle.meaning.specs.Tree.{leaves_of}
use Rattle.laws_resize.specs.growth.HeldAfter.{rise}
use Rattle.laws_resize.specs.growth.Forms.{bulk, in_row, fresh_cell, new_bytes, grown_new}
use Rattle.plan_tree.specs.declared.seats.Seat.{Seat}
use Rattle.plan_tree.specs.seats.{Sits}
use Rattle.laws_resize.specs.rising.{top_at}
use Rattle.laws_resize.proofs.rising.Rises.{new_top, new_beside}
use Rattle.plan_slot.specs.declared.payload.Drawn.{Drawn}
use Rattle.plan_slot.specs.payload.{Draws}
use Rattle.plan_longer.specs.declared.fresh.Growth.{Growth}
use Rattle.plan_longer.specs.fresh.{Grows}
use Rattle.plan_longer.specs.declared.towers.Tower.{Tower}
use Rattle.plan_longer.specs.towers.{Towers}
use Rattle.plan_longer.proofs.towers.RootDrawn.{draws_as, new_leaves_lem, root_at, blocks_is}

-- what the new block p holds
abbrev pub new_at : Edition → Growth → Tower → (free row : List ℕ) → ℕ → Cell
new_at e g t free row = grown_new e g.length g.leaves free (t.top - t.height) t.height row

-- what a new block of a height and a first leaf holds
abbrev pub fresh_at : Edition → Growth → (free : List ℕ) → (h j p : ℕ) → Cell
fresh_at e g free = fresh_cell e.fan g.more (new_bytes e g.length g.leaves free) free

-- named by the blob, and by its numbers
pub new_is : (e : Edition) (g : Growth) (t : Tower) (free row : List ℕ) (towers : Towers e g t) (p : ℕ) → new_at e g t free row p
    ≡ grown_new e g.length (length (leaves_of towers.blob)) free (rise e towers.blob g.length) towers.blob.height row p
unfolding rise
new_is e g t free row towers p = rw (towers.leaves, towers.top, towers.height)

-- the new blocks of a blob that gets longer
module _ (e : Edition) (g : Growth) (t : Tower) (free row : List ℕ) (proper : Proper e) (grows : Grows e g) (towers : Towers e g t) where
  -- with the root's row
  moved_is : (level p : ℕ) → t.height ≤ level → level < t.top → p + t.blocks ≡ bulk e.fan level
      → new_at e g t free row p ≡ root_at e g t free row level
  moved_is level p high low full =
      let high' = rw towers.height at high in
      let low' = rw towers.top at low in
      let full' = rw (blocks_is e g t towers) at full in
      new_is e g t free row towers p ∙ new_top e proper towers.blob towers.shaped g.length towers.long free row level p high' low' full'
      ∙ rw (blocks_is e g t towers, towers.height, towers.leaves)

  -- beside it
  beside_is : (level p : ℕ) (s : Seat) → t.height ≤ level → level < t.top
      → bulk e.fan level < p + t.blocks → p + t.blocks < bulk e.fan (suc level)
      → Sits s (in_row e.fan level (e.fan ^ level - g.leaves) (p + t.blocks - bulk e.fan level - 1))
      → new_at e g t free row p ≡ fresh_at e g free s.height s.first p
  beside_is level p s high low from to sits =
      let high' = rw towers.height at high in
      let low' = rw towers.top at low in
      let from' = rw (blocks_is e g t towers) at from in
      let to' = rw (blocks_is e g t towers) at to in
      new_is e g t free row towers p ∙ new_beside e proper towers.blob towers.shaped g.length towers.long free row level p high' low' from' to'
      ∙ rw (sits.height, sits.first, ← new_leaves_lem e g free grows, blocks_is e g t towers, towers.leaves)

  -- as code has it: the block's number is that of the new block, after the old ones
  pub new_moved : (p number level full : ℕ) (d : Drawn) (x : List ℕ) → number ≡ p + t.blocks → t.height ≤ level → level < t.top
      → full ≡ bulk e.fan level → number ≡ full
      → Draws e (top_at e g.length g.leaves t.blocks free t.height row level) d x
      → Draws e (grown_new e g.length g.leaves free (t.top - t.height) t.height row p) d x
  new_moved p number level full d x counted high low whole is draws = draws_as (moved_is level p high low (omega arith)) draws

  pub new_side : (p number level full w : ℕ) (s : Seat) (d : Drawn) (x : List ℕ) → number ≡ p + t.blocks → t.height ≤ level → level < t.top
      → bulk e.fan level ≤ number → number < bulk e.fan (suc level)
      → full ≡ bulk e.fan level → (number ≡ full → ⊥) → w ≡ e.fan ^ level
      → Sits s (in_row e.fan level (w - g.leaves) (number - full - 1))
      → Draws e (fresh_cell e.fan g.more (new_bytes e g.length g.leaves free) free s.height s.first p) d x
      → Draws e (grown_new e g.length g.leaves free (t.top - t.height) t.height row p) d x
  new_side p number level full w s d x counted high low from to whole other wide sits draws =
      let at = rw (counted, whole, wide) at sits in
      let more : bulk e.fan level < p + t.blocks = omega (arith, differ) in
      draws_as (beside_is level p s high low more (omega arith) at) draws
    where
      differ : number ≡ bulk e.fan level → ⊥
      differ same = other (same ∙ sym whole)
