-- Room on the right edge, and which block is made p-th when it is filled, as the tree says it.
use Rattle.std.specs.Prelude.{List, [], ◌∷◌, ◌++◌, map, ℕ, zero, suc, ◌+◌, ◌-◌, ◌*◌, ◌^◌, ltb, length}
use Rattle.meaning.specs.Lists.{pick}
use Rattle.meaning.specs.Bytes.{Cell}
use Rattle.meaning.specs.Tree.{Tree, slot_of}
use Rattle.laws_resize.specs.growth.Forms.{bulk, in_row, new_row}
use Rattle.laws_resize.specs.growth.Place.{sizes}

-- f of the last element, of none d
unfoldable pub of_end : {A B : Type 0} → B → (A → B) → List A → B
of_end d f [] = d
of_end d f (x ∷ []) = f x
of_end d f (x ∷ (y ∷ ys)) = of_end d f (y ∷ ys)

module _ (fan : ℕ) where
  -- leaves, and blocks, that the tree takes until it is full
  unfoldable pub room_of : (h : ℕ) → Tree h → ℕ
  room_of zero t = 0
  room_of (suc h) t = of_end 0 (room_of h) t.1 + (fan - length t.1) * fan ^ h

  unfoldable pub space_of : (h : ℕ) → Tree h → ℕ
  space_of zero t = 0
  space_of (suc h) t = of_end 0 (space_of h) t.1 + (fan - length t.1) * bulk fan h

  -- the height and the first leaf of the p-th block that fill makes
  unfoldable pub spot : (h : ℕ) → Tree h → ℕ → ℕ × ℕ
  spot zero t p = (0, 0)
  spot (suc h) t p =
      let below = of_end 0 (space_of h) t.1 in
      let here = in_row fan h (of_end 0 (room_of h) t.1) (p - below) in
      let deeper = of_end (0, 0) (λ x. spot h x p) t.1 in
      pick (ltb p below) deeper here

-- what a block of the right edge holds when it is filled: its children, and new ones
unfoldable pub edge_cell : (fan : ℕ) → (lens free : List ℕ) → (h : ℕ) → Tree h → Cell
edge_cell fan lens free zero t = record { height = 0; items = t.1 }
edge_cell fan lens free (suc h) t =
    let new = new_row fan (length lens) (sizes lens) free (fan - length t.1) h (of_end 0 (room_of fan h) t.1) (of_end 0 (space_of fan h) t.1) in
    record { height = suc h; items = map (slot_of h) t.1 ++ new }
