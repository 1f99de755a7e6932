-- The cells of a grown tree, the new ones in the order of creation, the old ones in walk order.
use Rattle.std.specs.Prelude.{List, [], ◌∷◌, ◌++◌, map, ℕ, zero, suc, ◌-◌, length, get_or, drop}
use Rattle.meaning.specs.Lists.{joined}
use Rattle.meaning.specs.Bytes.{Cell}
use Rattle.meaning.specs.Tree.{Tree, cells, slot_of}
use Rattle.laws_resize.specs.growth.Forms.{past}
use Rattle.laws_resize.specs.growth.Grow.{items_of, fresh, over_last, fill, wider}

-- a row's blocks
abbrev pub row_cells : (h : ℕ) → List (Tree h) → List (ℕ × Cell)
row_cells h xs = joined (map (cells h) xs)

-- f of all but the last, g of the last
unfoldable pub up_to_last : {A B : Type 0} → (A → List B) → (A → List B) → List A → List B
up_to_last f g [] = []
up_to_last f g (x ∷ []) = g x
up_to_last f g (x ∷ (y ∷ ys)) = f x ++ up_to_last f g (y ∷ ys)

-- what a tree's top holds
unfoldable pub top_of : (h : ℕ) → Tree h → Cell
top_of zero t = record { height = 0; items = t.1 }
top_of (suc h) t = record { height = suc h; items = map (slot_of h) t.1 }

module _ (fan : ℕ) where
  -- the new blocks of fill, as they are created
  unfoldable pub made : (h : ℕ) → List ℕ → List ℕ → Tree h → List (ℕ × Cell)
  made zero lens free t = []
  made (suc h) lens free t =
      let a = over_last (fill fan h) lens free t.1 in
      up_to_last (λ x. []) (made h lens free) t.1 ++ row_cells h (items_of (fresh fan h) (fan - length t.1) a.1 a.2).0

  -- the old blocks after fill
  unfoldable pub kept : (h : ℕ) → List ℕ → List ℕ → Tree h → List (ℕ × Cell)
  kept zero lens free t = cells zero t
  kept (suc h) lens free t =
      (t.0, top_of (suc h) (fill fan (suc h) lens free t).0) ∷ up_to_last (cells h) (kept h lens free) t.1

  -- the new blocks of higher, and of grow
  unfoldable pub higher_made : ℕ → List ℕ → List ℕ → (h : ℕ) → Tree h → List (ℕ × Cell)
  higher_made zero lens free h t = []
  higher_made (suc k) [] free h t = []
  higher_made (suc k) (l ∷ ls) free h t =
      let r = items_of (fresh fan h) (fan - 1) (l ∷ ls) (drop 1 free) in
      (get_or free 0 past, top_of h t) ∷ row_cells h r.0 ++ higher_made k r.1 r.2 (suc h) (wider fan h (l ∷ ls) free t).0

  unfoldable pub grow_made : ℕ → List ℕ → List ℕ → (h : ℕ) → Tree h → List (ℕ × Cell)
  grow_made k lens free h t =
      let a = fill fan h lens free t in
      made h lens free t ++ higher_made k a.1 a.2 h a.0
