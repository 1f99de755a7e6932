-- What is drawn of the root is what it holds, at its old height or above it. Values come with their equations, `w ≡ fan ^ h`, as code has them.
use mathlib.Core.Path.{◌≡◌, sym, ap, ◌∙◌}
use mathlib.Core.List.{List}
use Prim.Native.Nat.{ℕ, zero, suc, ◌-◌, ◌^◌, ◌≤◌}
use native.Mathlib.Omega.{arith}
use lib.ListN.{length}
use Rattle.meaning.specs.declared.Edition.{Edition}
use Rattle.meaning.specs.Bytes.{Cell}
use Rattle.meaning.specs.Tree.{leaves_of}
use Rattle.meaning.specs.Shape.{total}
use Rattle.laws.proofs.Codec.{items_of}
use Rattle.laws_resize.specs.growth.Forms.{bulk, above, new_leaves, new_bytes, grown_row, top_cell}
use Rattle.laws_resize.specs.rising.{top_at}
use Rattle.laws_resize.proofs.rising.RootByHeight.{top_own, top_next}
use Rattle.plan_slot.specs.declared.payload.Drawn.{Drawn}
use Rattle.plan_slot.specs.payload.{Draws}
use Rattle.plan_longer.specs.declared.fresh.Growth.{Growth}
use Rattle.plan_longer.specs.fresh.{Grows}
use Rattle.plan_longer.specs.declared.towers.Tower.{Tower}
use Rattle.plan_longer.specs.towers.{Towers}

-- what draws a cell draws an equal one
pub draws_as : {e : Edition} {c c' : Cell} {d : Drawn} {x : List ℕ} → c' ≡ c → Draws e c d x → Draws e c' d x
draws_as same draws = rw same draws

-- the new leaves are those that are counted
pub new_leaves_lem : (e : Edition) (g : Growth) (free : List ℕ) → Grows e g → new_leaves e g.length g.leaves free ≡ g.more
unfolding new_leaves
new_leaves_lem e g free grows = sym grows.more

-- what the root holds at a height
abbrev pub root_at : Edition → Growth → Tower → (free row : List ℕ) → ℕ → Cell
root_at e g t free row = top_at e g.length g.leaves t.blocks free t.height row

-- at its old height the root has its own row, filled
pub root_own : (e : Edition) (g : Growth) (t : Tower) (free kept : List ℕ) (level : ℕ) (d : Drawn) (x : List ℕ) → level ≡ t.height
    → Draws e (record { height = level; items = grown_row e g.length g.leaves free level 0 (items_of level kept) }) d x
    → Draws e (top_at e g.length g.leaves t.blocks free t.height (items_of t.height kept) level) d x
unfolding top_cell
root_own e g t free kept level d x is draws =
    let at = rw is at draws in
    rw is (draws_as (top_own e g.length g.leaves t.blocks free t.height (items_of t.height kept)) at)

-- above it the child that took its row, and new ones
root_next : (e : Edition) (g : Growth) (t : Tower) (free row : List ℕ) (level w b : ℕ) → Grows e g → (level ≡ t.height → ⊥) → t.height ≤ level
    → w ≡ e.fan ^ (level - 1) → b ≡ bulk e.fan (level - 1)
    → root_at e g t free row level
    ≡ above e.fan g.more (new_bytes e g.length g.leaves free) free (level - 1) (w - g.leaves) (b - t.blocks)
root_next e g t free row zero w b grows other high wide whole = absurd (other (omega arith))
root_next e g t free row (suc h) w b grows other high wide whole =
    let z : suc h - 1 ≡ h = omega arith in
    let low : t.height ≤ h = omega arith in
    top_next e g.length g.leaves t.blocks free t.height row h low
    ∙ rw (wide, whole, z, new_leaves_lem e g free grows)

pub root_above : (e : Edition) (g : Growth) (t : Tower) (free row : List ℕ) (level w b : ℕ) (d : Drawn) (x : List ℕ)
    → Grows e g → (level ≡ t.height → ⊥) → t.height ≤ level → w ≡ e.fan ^ (level - 1) → b ≡ bulk e.fan (level - 1)
    → Draws e (above e.fan g.more (new_bytes e g.length g.leaves free) free (level - 1) (w - g.leaves) (b - t.blocks)) d x
    → Draws e (top_at e g.length g.leaves t.blocks free t.height row level) d x
root_above e g t free row level w b d x grows other high wide whole draws =
    draws_as (root_next e g t free row level w b grows other high wide whole) draws

-- the blocks of a blob that gets longer are those of its leaves
pub blocks_is : (e : Edition) (g : Growth) (t : Tower) (towers : Towers e g t) → t.blocks ≡ total e.fan (length (leaves_of towers.blob))
blocks_is e g t towers = towers.blocks ∙ ap (total e.fan) towers.leaves
