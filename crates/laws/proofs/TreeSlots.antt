-- The slots of a tree in walk order: a block's own, then those below it, child after child. They are the slots of its blocks.
use mathlib.Core.Path.{◌≡◌, refl, ap, ap₂, sym, ◌∙◌}
use mathlib.Core.List.{List, [], ◌∷◌, ◌++◌, map, map-append}
use Prim.Native.Nat.{ℕ, zero, suc}
use lib.ListN.{drop}
use Rattle.meaning.specs.Lists.{joined}
use Rattle.meaning.specs.Bytes.{Cell}
use Rattle.meaning.specs.Tree.{Tree, Blob, slot_of, at_slot, root_of, cells, cells_of, slots_of}

-- a tree's slots, in walk order
unfoldable pub slots : (h : ℕ) → Tree h → List ℕ
slots zero t = t.0 ∷ []
slots (suc h) t = t.0 ∷ joined (map (slots h) t.1)

-- a leaf has its own slot
pub slots_leaf : (t : Tree 0) → slots 0 t ≡ t.0 ∷ []
unfolding slots
slots_leaf t = refl

-- an inner block its own, and those of its children
pub slots_inner : (h r : ℕ) (ts : List (Tree h)) → slots (suc h) (r, ts) ≡ r ∷ joined (map (slots h) ts)
unfolding slots
slots_inner h r ts = refl

-- a row's slots, from each tree's
row_slots_lem : (h : ℕ) → ((t : Tree h) → slots h t ≡ map (λ c. c.0) (cells h t)) → (ts : List (Tree h))
    → joined (map (slots h) ts) ≡ map (λ c. c.0) (joined (map (cells h) ts))
unfolding joined
row_slots_lem h each [] = refl
row_slots_lem h each (t ∷ ts) =
    ap₂ ◌++◌ (each t) (row_slots_lem h each ts) ∙ sym (map-append (λ (c : ℕ × Cell). c.0) (cells h t) (joined (map (cells h) ts)))

-- they are the slots of its blocks
pub slots_cells : (h : ℕ) (t : Tree h) → slots h t ≡ map (λ c. c.0) (cells h t)
unfolding cells slots
slots_cells zero t = refl
slots_cells (suc h) t = ap {B = List ℕ} (λ l. t.0 ∷ l) (row_slots_lem h (slots_cells h) t.1)

-- a blob's slots are those of its tree
pub blob_slots : (b : Blob) → slots_of b ≡ slots b.height b.tree
unfolding slots_of cells_of
blob_slots b = sym (slots_cells b.height b.tree)

-- the slots below a tree's own
unfoldable pub below : (h : ℕ) → Tree h → List ℕ
below h t = drop 1 (slots h t)

-- a tree's own slot comes first
pub own_slots : (h : ℕ) (t : Tree h) → slots h t ≡ slot_of h t ∷ below h t
unfolding slots below slot_of
own_slots zero t = refl
own_slots (suc h) t = refl

-- so does a blob's root
pub slots_root : (b : Blob) → slots_of b ≡ root_of b ∷ drop 1 (slots_of b)
unfolding root_of below
slots_root b = rw blob_slots (own_slots b.height b.tree)

-- a tree in another slot has that one, and those below it
pub moved_slots : (h s : ℕ) (t : Tree h) → slots h (at_slot h s t) ≡ s ∷ below h t
unfolding slots below at_slot
moved_slots zero s t = refl
moved_slots (suc h) s t = refl

pub moved_slot : (h s : ℕ) (t : Tree h) → slot_of h (at_slot h s t) ≡ s
unfolding slot_of at_slot
moved_slot zero s t = refl
moved_slot (suc h) s t = refl
