-- What is known of a blob that gets longer, and of its root's block as it was.
use Rattle.std.specs.Prelude.{◌≡◌, List, ℕ, ◌≤◌, length}
use Rattle.meaning.specs.declared.Edition.{Edition}
use Rattle.meaning.specs.Bytes.{count_of}
use Rattle.meaning.specs.Tree.{Blob, leaves_of, length_of}
use Rattle.meaning.specs.Shape.{total, most_count, Shaped}
use Rattle.meaning.specs.Resize.{share}
use Rattle.laws_resize.specs.growth.Cuts.{height_of_length}
use Rattle.laws_resize.specs.growth.HeldAfter.{taken}
use Rattle.plan_longer.specs.declared.fresh.Growth.{Growth}
use Rattle.plan_longer.specs.declared.towers.Tower.{Tower}

-- g and t are the numbers of a blob of the shape that gets longer
pub record Towers (e : Edition) (g : Growth) (t : Tower) : Type 0 where
  pub blob : Blob
  pub shaped : Shaped e blob
  pub long : length_of blob ≤ g.length
  pub leaves : g.leaves ≡ length (leaves_of blob)
  pub height : t.height ≡ blob.height
  pub top : t.top ≡ height_of_length e g.length
  pub blocks : t.blocks ≡ total e.fan g.leaves
  pub taken : t.taken ≡ taken e blob g.length

-- the root's block as it was: not too full, and as a leaf within its share of the new length
pub record RootBlock (e : Edition) (g : Growth) (t : Tower) (kept : List ℕ) : Type 0 where
  pub size : length kept ≡ e.size
  pub most : count_of kept ≤ most_count e t.height
  pub share : t.height ≡ 0 → count_of kept ≤ share e g.length 0
