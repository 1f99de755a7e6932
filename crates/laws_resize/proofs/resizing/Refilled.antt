-- Write: the same blocks, whose leaves take their bytes from a list of the blob's length, in order. The blob's bytes are that list; shape
-- and slots stay, and so does every cell but for the bytes in the leaves' rows.
use mathlib.Core.Path.{◌≡◌, refl, sym, ap, ap₂, ◌∙◌}
use mathlib.Core.Bool.{Bool, true, false}
use mathlib.Core.List.{List, [], ◌∷◌, ◌++◌, map, map-append, map-map}
use Prim.Native.Nat.{ℕ, zero, suc, ◌+◌, ◌≤◌}
use native.Mathlib.Omega.{arith}
use lib.Dec.{eqb}
use lib.ListN.{length, length-append, length-drop, take, drop}
use lib.Seq.{take-add, take_all, drop-drop, length-take-le}
use Rattle.meaning.specs.declared.Edition.{Edition}
use Rattle.meaning.specs.Lists.{pick, joined}
use Rattle.meaning.specs.Bytes.{Cell}
use Rattle.meaning.specs.Tree.{Tree, Blob, slot_of, content, cells, root_of, content_of, cells_of, slots_of, length_of}
use Rattle.meaning.specs.Shape.{InRow, ShapedTree, Shaped}
use Rattle.meaning.specs.Resize.{Spread, along, refill, refilled}
use Rattle.laws.proofs.Shapes.{blank, blank_same}

-- a cell with a leaf's bytes put to zero
unfoldable pub hollow : ℕ × Cell → ℕ × Cell
hollow c = (c.0, record { height = c.1.height; items = pick (eqb c.1.height 0) (blank c.1.items) c.1.items })

-- a tree takes its bytes from the front of d, and leaves the rest
unfoldable Taken : (h : ℕ) → Tree h → List ℕ → Spread (Tree h) → Type 0
Taken h t d new =
    let size = length (content h t) in
    (content h new.made ≡ take size d) × (new.left ≡ drop size d)

-- a row too
taken_row : (h : ℕ) → ((d : List ℕ) (t : Tree h) → Taken h t d (refill h d t)) → (d : List ℕ) (ts : List (Tree h))
    → let size = length (joined (map (content h) ts)) in
    (joined (map (content h) (along (refill h) d ts).made) ≡ take size d) × ((along (refill h) d ts).left ≡ drop size d)
unfolding Taken along joined
taken_row h each d [] = (refl, refl)
taken_row h each d (t ∷ ts) =
    let a = each d t in
    let r = taken_row h each (refill h d t).left ts in
    let m = length (content h t) in
    let n = length (joined (map (content h) ts)) in
    let l = length-append (content h t) (joined (map (content h) ts)) in (
      rw (l, take-add m n d) (ap₂ ◌++◌ a.0 (r.0 ∙ rw a.1)),
      rw l (r.1 ∙ rw a.1 (drop-drop n m d)),
    )

-- at every height
taken : (h : ℕ) (d : List ℕ) (t : Tree h) → Taken h t d (refill h d t)
unfolding Taken refill content
taken zero d t = (refl, refl)
taken (suc h) d t = taken_row h (taken h) d t.1

-- what a tree leaves of d is long enough for the trees after it
left_enough : (h : ℕ) (d : List ℕ) (t : Tree h) (n : ℕ) → length (content h t) + n ≤ length d → n ≤ length (refill h d t).left
unfolding Taken
left_enough h d t n fits = rw ((taken h d t).1, length-drop) (omega arith)

-- a row has as many trees as before
along_length : {A : Type 0} (f : List ℕ → A → Spread A) (d : List ℕ) (xs : List A) → length (along f d xs).made ≡ length xs
unfolding along
along_length f d [] = refl
along_length f d (x ∷ xs) = ap suc (along_length f (f d x).left xs)

-- the root of a tree stays in its slot
pub refill_slot : (h : ℕ) (d : List ℕ) (t : Tree h) → slot_of h (refill h d t).made ≡ slot_of h t
unfolding refill slot_of
refill_slot zero d t = refl
refill_slot (suc h) d t = refl

-- and so those of a row
pub along_slots : (h : ℕ) (d : List ℕ) (ts : List (Tree h)) → map (slot_of h) (along (refill h) d ts).made ≡ map (slot_of h) ts
unfolding along
along_slots h d [] = refl
along_slots h d (t ∷ ts) = ap₂ {C = List ℕ} (λ x xs. x ∷ xs) (refill_slot h d t) (along_slots h (refill h d t).left ts)

-- a tree keeps its shape
unfoldable KeepsShape : Edition → ℕ → Bool → Type 0
KeepsShape e h root = (edge : Bool) (d : List ℕ) (t : Tree h) → length (content h t) ≤ length d → ShapedTree e h root edge t
    → ShapedTree e h root edge (refill h d t).made

-- a row, if each tree does
shaped_row : (e : Edition) (h : ℕ) → KeepsShape e h false → (edge : Bool) (d : List ℕ) (ts : List (Tree h))
    → length (joined (map (content h) ts)) ≤ length d → InRow (ShapedTree e h false) edge ts
    → InRow (ShapedTree e h false) edge (along (refill h) d ts).made
unfolding KeepsShape along joined InRow
shaped_row e h each edge d [] fits r = tt
shaped_row e h each edge d (t ∷ []) fits r = each edge d t (omega (arith, length-append (content h t) [])) r
shaped_row e h each edge d (t ∷ (u ∷ us)) fits r =
    let l = length-append (content h t) (joined (map (content h) (u ∷ us))) in (
      each false d t (omega arith) r.0,
      shaped_row e h each edge (refill h d t).left (u ∷ us)
          (left_enough h d t (length (joined (map (content h) (u ∷ us)))) (omega arith)) r.1,
    )

-- at every height
keeps_shape : (e : Edition) (h : ℕ) (root : Bool) → KeepsShape e h root
unfolding KeepsShape ShapedTree refill content
keeps_shape e zero root edge d t fits s =
    let l = length-take-le (length t.1) d fits in
    (rw l s.0, rw l s.1)
keeps_shape e (suc h) root edge d t fits s =
    let l = along_length (refill h) d t.1 in
    (rw l s.0, rw l s.1, shaped_row e h (keeps_shape e h false) edge d t.1 fits s.2)

-- a tree keeps its cells but for the leaves' bytes
unfoldable KeepsCells : ℕ → Type 0
KeepsCells h = (d : List ℕ) (t : Tree h) → length (content h t) ≤ length d → map hollow (cells h (refill h d t).made) ≡ map hollow (cells h t)

-- a row, if each tree does
cells_row : (h : ℕ) → KeepsCells h → (d : List ℕ) (ts : List (Tree h)) → length (joined (map (content h) ts)) ≤ length d
    → map hollow (joined (map (cells h) (along (refill h) d ts).made)) ≡ map hollow (joined (map (cells h) ts))
unfolding KeepsCells along joined
cells_row h each d [] fits = refl
cells_row h each d (t ∷ ts) fits =
    let l = length-append (content h t) (joined (map (content h) ts)) in
    map-append hollow (cells h (refill h d t).made) (joined (map (cells h) (along (refill h) (refill h d t).left ts).made))
    ∙ ap₂ ◌++◌ (each d t (omega arith))
    (cells_row h each (refill h d t).left ts (left_enough h d t (length (joined (map (content h) ts))) (omega arith)))
    ∙ sym (map-append hollow (cells h t) (joined (map (cells h) ts)))

-- at every height
keeps_cells : (h : ℕ) → KeepsCells h
unfolding KeepsCells refill cells content hollow pick
keeps_cells zero d t fits =
    ap (λ (row : List ℕ). (t.0, record { height = 0; items = row }) ∷ [])
    (blank_same (take (length t.1) d) t.1 (length-take-le (length t.1) d fits))
keeps_cells (suc h) d t fits = rw (along_slots h d t.1, cells_row h (keeps_cells h) d t.1 fits)

-- the root stays in its slot
pub refilled_root : (d : List ℕ) (b : Blob) → root_of (refilled d b) ≡ root_of b
unfolding root_of refilled
refilled_root d b = refill_slot b.height d b.tree

module _ (d : List ℕ) (b : Blob) (long : length d ≡ length_of b) where
  -- a refilled blob's bytes are those given
  pub refilled_content : content_of (refilled d b) ≡ d
  unfolding content_of length_of refilled Taken
  refilled_content =
      (taken b.height d b.tree).0 ∙ take_all (length (content b.height b.tree)) d (omega arith)

  -- it has its shape
  pub refilled_shaped : (e : Edition) → Shaped e b → Shaped e (refilled d b)
  unfolding Shaped refilled length_of content_of KeepsShape
  refilled_shaped e s = keeps_shape e b.height true true d b.tree (omega arith) s

  -- its cells are the old ones but for the leaves' bytes
  pub refilled_cells : map hollow (cells_of (refilled d b)) ≡ map hollow (cells_of b)
  unfolding cells_of refilled length_of content_of KeepsCells
  refilled_cells = keeps_cells b.height d b.tree (omega arith)

  -- every block stays in its slot
  pub refilled_slots : slots_of (refilled d b) ≡ slots_of b
  unfolding slots_of hollow
  refilled_slots =
      let slot : ℕ × Cell → ℕ = λ c. c.0 in
      sym (map-map slot hollow (cells_of (refilled d b))) ∙ ap (map slot) refilled_cells ∙ map-map slot hollow (cells_of b)
