-- Shape of a blob, for any payload and fan-out.
use Rattle.std.specs.Prelude.{Bool, true, false, List, [], ◌∷◌, ℕ, zero, suc, ◌+◌, ◌-◌, ◌/◌, ◌^◌, ◌≤◌, leb, length}
use Rattle.meaning.specs.Lists.{pick}
use Rattle.meaning.specs.declared.Edition.{Edition}
use Rattle.meaning.specs.Tree.{Tree, Blob}

-- n / k rounded up
unfoldable pub up : ℕ → ℕ → ℕ
up n k = (n + (k - 1)) / k

-- length L has 1 leaf if L = 0, else L / leaf rounded up
unfoldable pub leaves_for : (leaf len : ℕ) → ℕ
leaves_for leaf len = pick (leb len 0) 1 (up len leaf)

-- the first d from this one on, of k, with fan to the power d at least n
unfoldable pub height_from : (k fan d n : ℕ) → ℕ
height_from zero fan d n = d
height_from (suc k) fan d n = pick (leb n (fan ^ d)) d (height_from k fan (suc d) n)

-- the root's height: the least d with fan to the power d at least n; it is below n + 1
unfoldable pub height_for : (fan n : ℕ) → ℕ
height_for fan n = height_from n fan 0 n

unfoldable pub total_within : (k fan n : ℕ) → ℕ
total_within zero fan n = n
total_within (suc k) fan n =
    let above = total_within k fan (up n fan) in
    pick (leb n 1) 1 (n + above)

-- the block total of n: 1 if n = 1, and otherwise n plus the block total of n / fan rounded up; n itself is fuel enough
unfoldable pub total : (fan n : ℕ) → ℕ
total fan n = total_within n fan n

-- the four ranges: the fewest that a block may hold, by its height, on the right edge or off it, as root or not; and the most
unfoldable pub least_count : Edition → ℕ → (edge root : Bool) → ℕ
least_count e zero edge root = pick edge (pick root 0 1) e.leaf
least_count e (suc h) edge root = pick edge (pick root 2 1) e.fan

unfoldable pub most_count : Edition → ℕ → ℕ
most_count e zero = e.leaf
most_count e (suc h) = e.fan

-- the last child of a block on the right edge is on it; no other child is
unfoldable pub InRow : {A : Type 0} → (Bool → A → Type 0) → Bool → List A → Type 0
InRow on edge [] = Unit {0}
InRow on edge (x ∷ []) = on edge x
InRow on edge (x ∷ (y ∷ ys)) = on false x × InRow on edge (y ∷ ys)

-- a block holds its least or more and its most or fewer, and so does each below it
unfoldable pub ShapedTree : Edition → (h : ℕ) → (root edge : Bool) → Tree h → Type 0
ShapedTree e zero root edge t = (least_count e zero edge root ≤ length t.1) × (length t.1 ≤ most_count e zero)
ShapedTree e (suc h) root edge t =
    (least_count e (suc h) edge root ≤ length t.1) × (length t.1 ≤ most_count e (suc h)) × InRow (ShapedTree e h false) edge t.1

-- a blob has its shape: the root is on the right edge
unfoldable pub Shaped : Edition → Blob → Type 0
Shaped e b = ShapedTree e b.height true true b.tree
