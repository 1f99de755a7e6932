-- How many blocks growth makes: the blocks after are the new ones and those before.
use mathlib.Core.Path.{◌≡◌, refl, ap}
use mathlib.Core.List.{List, [], ◌∷◌, ◌++◌, append-nil}
use Prim.Native.Nat.{ℕ, zero, suc, ◌+◌, ◌-◌}
use native.Mathlib.Omega.{arith}
use lib.ListN.{length, get_or, length-append}
use Rattle.meaning.specs.Lists.{joined}
use Rattle.meaning.specs.Tree.{Tree, cells}
use Rattle.laws_resize.specs.growth.Forms.{past}
use Rattle.laws_resize.specs.growth.Grow.{items_of, fresh, over_last, fill, wider, higher, grow}
use Rattle.laws_resize.specs.growth.Made.{row_cells, up_to_last, made, higher_made, grow_made}
use Rattle.laws_resize.proofs.growth.Grow.{Ends, none, last, ends}
use Rattle.laws_resize.proofs.growth.Held.{row_cells_append, fill_row, made_row, moved_cells, top_cells, below}
use Rattle.laws_resize.proofs.growth.Taller.{blob_cells, higher_made_lem, wider_new, wider_more}

-- the blocks after are those before and the new ones
fill_blocks_none : (fan h : ℕ) (lens free : List ℕ) (k : ℕ)
    → length (cells (suc h) (fill fan (suc h) lens free (k, [])).0) ≡ length (made fan (suc h) lens free (k, [])) + length (cells (suc h) (k, []))
unfolding cells joined fill made over_last up_to_last
fill_blocks_none fan h lens free k = omega arith

-- a row that is filled
fill_blocks_row : (fan h : ℕ) → ((lens free : List ℕ) (t : Tree h) → length (cells h (fill fan h lens free t).0)
    ≡ length (made fan h lens free t) + length (cells h t))
    → (lens free : List ℕ) (k : ℕ) (l : List (Tree h)) → Ends l
    → length (cells (suc h) (fill fan (suc h) lens free (k, l)).0) ≡ length (made fan (suc h) lens free (k, l)) + length (cells (suc h) (k, l))
unfolding cells joined
fill_blocks_row fan h ih lens free k l none = fill_blocks_none fan h lens free k
fill_blocks_row fan h ih lens free k l (last xs x) =
    let new : List (Tree h) = (items_of (fresh fan h) (fan - length (xs ++ x ∷ [])) (fill fan h lens free x).1 (fill fan h lens free x).2).0 in
    rw (
      fill_row fan h lens free k xs x new refl,
      made_row fan h lens free k xs x new refl,
      row_cells_append h xs ((fill fan h lens free x).0 ∷ new),
      row_cells_append h xs (x ∷ []),
      length-append (row_cells h xs),
      length-append (row_cells h xs),
      length-append (cells h (fill fan h lens free x).0),
      length-append (made fan h lens free x),
      append-nil,
    )
    (omega (arith, ih lens free x))

-- a tree that is filled
fill_blocks : (fan h : ℕ) (lens free : List ℕ) (t : Tree h) → length (cells h (fill fan h lens free t).0)
    ≡ length (made fan h lens free t) + length (cells h t)
unfolding fill made
fill_blocks fan zero lens free t = omega arith
fill_blocks fan (suc h) lens free t = fill_blocks_row fan h (fill_blocks fan h) lens free t.0 t.1 (ends t.1)

-- a root that gets one higher
wider_blocks : (fan h : ℕ) (lens free : List ℕ) (t : Tree h)
    → length (cells (suc h) (wider fan h lens free t).0) ≡ suc (length (cells h t) + length (wider_new fan lens free h))
unfolding cells wider joined
wider_blocks fan h lens free t = rw (moved_cells h (get_or free 0 past) t, top_cells h t, length-append (below h t)) (omega arith)

-- one that gets higher and higher
higher_blocks : (fan k : ℕ) (lens free : List ℕ) (h : ℕ) (t : Tree h)
    → length (blob_cells (higher fan k lens free h t)) ≡ length (higher_made fan k lens free h t) + length (cells h t)
unfolding higher higher_made
higher_blocks fan zero lens free h t = omega arith
higher_blocks fan (suc k) [] free h t = omega arith
higher_blocks fan (suc k) (l ∷ ls) free h t =
    omega (
      arith,
      higher_blocks fan k (wider fan h (l ∷ ls) free t).1 (wider fan h (l ∷ ls) free t).2 (suc h) (wider fan h (l ∷ ls) free t).0,
      wider_blocks fan h (l ∷ ls) free t,
      ap length (higher_made_lem fan k l ls free h t),
      length-append (wider_new fan (l ∷ ls) free h) (wider_more fan k (l ∷ ls) free h t),
    )

-- the whole
pub grow_blocks : (fan k : ℕ) (lens free : List ℕ) (h : ℕ) (t : Tree h)
    → length (blob_cells (grow fan k lens free h t)) ≡ length (grow_made fan k lens free h t) + length (cells h t)
unfolding grow grow_made
grow_blocks fan k lens free h t =
    let a : Tree h × List ℕ × List ℕ = fill fan h lens free t in
    omega (
      arith,
      higher_blocks fan k a.1 a.2 h a.0,
      fill_blocks fan h lens free t,
      length-append (made fan h lens free t)
          (higher_made fan k a.1 a.2 h a.0),
    )
