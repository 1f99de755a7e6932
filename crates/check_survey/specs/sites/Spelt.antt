-- The blob that a pool spells from a slot on, read with no checks: a leaf is its data bytes, an inner block the trees of its child slots.
-- A walk that goes well finds exactly this one.
use Rattle.std.specs.Prelude.{◌≡◌, List, map, ℕ, zero, suc, ◌-◌, ◌≤◌, ◌<◌, length}
use Rattle.meaning.specs.declared.Edition.{Edition}
use Rattle.meaning.specs.Lists.{joined}
use Rattle.meaning.specs.Bytes.{block, height_of, count_of, data_of, children_of}
use Rattle.meaning.specs.Tree.{Tree, Blob, leaves}
use Rattle.meaning.specs.Shape.{most_count}
use Rattle.laws.proofs.Codec.{items_of}
use Rattle.laws.proofs.Every.{Every}
use Rattle.laws_resize.specs.growth.Sites.{Site, counting, sites}

-- what a block that was visited as one of height h is: in the pool, of that height, and not too full
pub record Fit (e : Edition) (n : ℕ) (P : List ℕ) (h s : ℕ) : Type 0 where
  pub within : s < n
  pub height : height_of (block e P s) ≡ h
  pub most : count_of (block e P s) ≤ most_count e h

module _ (e : Edition) (P : List ℕ) where
  unfoldable pub tree_at : (h s : ℕ) → Tree h
  tree_at zero s = (s, data_of (block e P s))
  tree_at (suc h) s = (s, map (tree_at h) (children_of (block e P s)))

  -- from a root's slot on, by the height that its block has
  unfoldable pub blob_at : (r : ℕ) → Blob
  blob_at r = record { height = height_of (block e P r); tree = tree_at (height_of (block e P r)) r }

  -- each block of the tree fits
  unfoldable pub Inside : (n h s : ℕ) → Type 0
  Inside n zero s = Fit e n P zero s
  Inside n (suc h) s = Fit e n P (suc h) s × Every (Inside n h) (children_of (block e P s))

  -- where the blocks stand of a tree and of a row of trees, after k leaves
  unfoldable pub tree_sites : (h k s : ℕ) → List (ℕ × Site)
  tree_sites h k s = sites h k (tree_at h s)

  unfoldable pub row_sites : (h k : ℕ) → List ℕ → List (ℕ × Site)
  row_sites h k cs = counting (λ x. length (leaves h x)) (sites h) k (map (tree_at h) cs)

  -- and how many leaves those have
  unfoldable pub tree_leaves : (h s : ℕ) → ℕ
  tree_leaves h s = length (leaves h (tree_at h s))

  unfoldable pub row_leaves : (h : ℕ) → List ℕ → ℕ
  row_leaves h cs = length (joined (map (leaves h) (map (tree_at h) cs)))

  -- where the block of a slot stands, by what was noted of it: its height and one more, and its first leaf's number
  unfoldable pub site_at : (s tall first : ℕ) → Site
  site_at s tall first = record { height = tall - 1; first = first; items = items_of (tall - 1) (block e P s) }
