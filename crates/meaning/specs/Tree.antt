-- A blob as a tree of slots, all of whose leaves lie at height 0.
use Rattle.std.specs.Prelude.{List, [], ◌∷◌, map, ℕ, zero, suc, eqb, length}
use Rattle.meaning.specs.Lists.{pick, joined}
use Rattle.meaning.specs.Bytes.{Cell}

-- a leaf is its slot and its bytes, an inner block its slot and its children
abbrev pub Tree : ℕ → Type 0
Tree zero = ℕ × List ℕ
Tree (suc h) = ℕ × List (Tree h)

unfoldable pub slot_of : (h : ℕ) → Tree h → ℕ
slot_of zero t = t.0
slot_of (suc h) t = t.0

-- the same block in another slot
unfoldable pub at_slot : (h : ℕ) → ℕ → Tree h → Tree h
at_slot zero s t = (s, t.1)
at_slot (suc h) s t = (s, t.1)

unfoldable pub content : (h : ℕ) → Tree h → List ℕ
content zero t = t.1
content (suc h) t = joined (map (content h) t.1)

-- each leaf, from the left, with its bytes
unfoldable pub leaves : (h : ℕ) → Tree h → List (ℕ × List ℕ)
leaves zero t = t ∷ []
leaves (suc h) t = joined (map (leaves h) t.1)

-- each block, in walk order, with what it holds
unfoldable pub cells : (h : ℕ) → Tree h → List (ℕ × Cell)
cells zero t = (t.0, record { height = 0; items = t.1 }) ∷ []
cells (suc h) t = (t.0, record { height = suc h; items = map (slot_of h) t.1 }) ∷ joined (map (cells h) t.1)

-- a blob is a string of bytes, named by its root's slot
pub record Blob : Type 0 where
  pub height : ℕ
  pub tree : Tree height

unfoldable pub root_of : Blob → ℕ
root_of b = slot_of b.height b.tree

unfoldable pub content_of : Blob → List ℕ
content_of b = content b.height b.tree

unfoldable pub leaves_of : Blob → List (ℕ × List ℕ)
leaves_of b = leaves b.height b.tree

unfoldable pub cells_of : Blob → List (ℕ × Cell)
cells_of b = cells b.height b.tree

unfoldable pub slots_of : Blob → List ℕ
slots_of b = map (λ c. c.0) (cells_of b)

unfoldable pub length_of : Blob → ℕ
length_of b = length (content_of b)

-- what a slot holds, in such a list of blocks
pub data Held : Type 0 where
  nothing : Held
  just : Cell → Held

unfoldable pub held : List (ℕ × Cell) → ℕ → Held
held [] s = nothing
held (c ∷ cs) s = pick (eqb c.0 s) (just c.1) (held cs s)
