-- New blocks take the free slots in the order in which they are made.
use mathlib.Core.Path.{◌≡◌, refl, sym, ap, ◌∙◌}
use mathlib.Core.List.{List, [], ◌∷◌, ◌++◌}
use Prim.Native.Nat.{ℕ, zero, suc, ◌-◌}
use lib.ListN.{length, get_or, drop, length-append}
use lib.Seq.{drop-drop, drop-nil}
use Rattle.laws_resize.specs.growth.Forms.{past}
use Rattle.meaning.specs.Lists.{joined}
use Rattle.meaning.specs.Bytes.{Cell}
use Rattle.meaning.specs.Tree.{Tree, cells}
use Rattle.laws_resize.specs.growth.Grow.{items_of, fresh, over_last, fill, wider}
use Rattle.laws_resize.specs.growth.Made.{row_cells, up_to_last, made, higher_made, grow_made}
use Rattle.laws_resize.proofs.growth.Grow.{Ends, none, last, ends, over_last_last}
use Rattle.laws_resize.proofs.growth.NewSubtreePlaces.{row_free, fresh_free}
use Rattle.laws_resize.proofs.growth.Held.{made_row}

-- the k-th cell is in the k-th free slot
abbrev pub Follows : List (ℕ × Cell) → List ℕ → Type 0
Follows [] free = Unit {0}
Follows (c ∷ cs) free = (c.0 ≡ get_or free 0 past) × Follows cs (drop 1 free)

-- one dropped, then n
drop_one : (n : ℕ) (l : List ℕ) → drop n (drop 1 l) ≡ drop (suc n) l
drop_one n [] = drop-nil n
drop_one n (x ∷ xs) = refl

-- blocks that follow on
follows_append : (a b : List (ℕ × Cell)) (free rest : List ℕ) → rest ≡ drop (length a) free → Follows a free → Follows b rest → Follows (a ++ b) free
follows_append [] b free rest q f g = rw q at g
follows_append (c ∷ cs) b free rest q f g = (f.0, follows_append cs b (drop 1 free) rest (q ∙ sym (drop_one (length cs) free)) f.1 g)

module _ (fan : ℕ) where
  -- the blocks of new subtrees
  row_follows : (h : ℕ) → ((lens free : List ℕ) → Follows (cells h (fresh fan h lens free).0) free)
      → (c : ℕ) (lens free : List ℕ) → Follows (row_cells h (items_of (fresh fan h) c lens free).0) free
  unfolding items_of joined
  row_follows h ih zero lens free = tt
  row_follows h ih (suc c) [] free = tt
  row_follows h ih (suc c) (l ∷ ls) free =
      follows_append (cells h (fresh fan h (l ∷ ls) free).0) _ free _ (fresh_free fan h (l ∷ ls) free) (ih (l ∷ ls) free) (row_follows h ih c _ _)

  -- of one
  fresh_follows : (h : ℕ) (lens free : List ℕ) → Follows (cells h (fresh fan h lens free).0) free
  unfolding fresh cells
  fresh_follows zero lens free = (refl, tt)
  fresh_follows (suc h) lens free = (refl, row_follows h (fresh_follows h) fan lens (drop 1 free))

  -- the new blocks of a tree that is filled, and the slots left
  abbrev Made : ℕ → Type 0
  Made h = (lens free : List ℕ) (t : Tree h)
      → ((fill fan h lens free t).2 ≡ drop (length (made fan h lens free t)) free) × Follows (made fan h lens free t) free

  -- of a row
  made_next : (h : ℕ) → Made h → (lens free : List ℕ) (k : ℕ) (l : List (Tree h)) → Ends l
      → ((fill fan (suc h) lens free (k, l)).2 ≡ drop (length (made fan (suc h) lens free (k, l))) free) × Follows
      (made fan (suc h) lens free (k, l)) free
  unfolding fill made over_last up_to_last
  made_next h ih lens free k l none = (row_free fan h (fresh_free fan h) (fan - 0) lens free, row_follows h (fresh_follows h) (fan - 0) lens free)
  made_next h ih lens free k l (last xs x) =
      let c : ℕ = fan - length (xs ++ x ∷ []) in
      let a : Tree h × List ℕ × List ℕ = fill fan h lens free x in
      let new : List (Tree h) = (items_of (fresh fan h) c a.1 a.2).0 in
      let i = ih lens free x in
      rw (made_row fan h lens free k xs x new refl, over_last_last (fill fan h) lens free xs x) (
        row_free fan h (fresh_free fan h) c a.1 a.2 ∙ ap (drop (length (row_cells h new))) i.0
            ∙ drop-drop (length (row_cells h new)) (length (made fan h lens free x)) free ∙ rw (length-append (made fan h lens free x)),
        follows_append (made fan h lens free x) (row_cells h new) free a.2 i.0 i.1 (row_follows h (fresh_follows h) c a.1 a.2),
      )

  -- of a tree
  pub made_follows : (h : ℕ) → Made h
  unfolding fill made
  made_follows zero lens free t = (refl, tt)
  made_follows (suc h) lens free t = made_next h (made_follows h) lens free t.0 t.1 (ends t.1)

  -- of a root that gets higher
  higher_follows : (k : ℕ) (lens free : List ℕ) (h : ℕ) (t : Tree h) → Follows (higher_made fan k lens free h t) free
  unfolding higher_made
  higher_follows zero lens free h t = tt
  higher_follows (suc k) [] free h t = tt
  higher_follows (suc k) (l ∷ ls) free h t =
      let r : List (Tree h) × List ℕ × List ℕ = items_of (fresh fan h) (fan - 1) (l ∷ ls) (drop 1 free) in (
        refl,
        follows_append (row_cells h r.0) _ (drop 1 free) r.2 (row_free fan h (fresh_free fan h) (fan - 1) (l ∷ ls) (drop 1 free))
            (row_follows h (fresh_follows h) (fan - 1) (l ∷ ls) (drop 1 free))
            (higher_follows k r.1 r.2 (suc h) (wider fan h (l ∷ ls) free t).0),
      )

  -- of the whole
  pub grow_follows : (k : ℕ) (lens free : List ℕ) (h : ℕ) (t : Tree h) → Follows (grow_made fan k lens free h t) free
  unfolding grow_made
  grow_follows k lens free h t =
      follows_append (made fan h lens free t) _ free _ (made_follows h lens free t).0 (made_follows h lens free t).1 (higher_follows k _ _ h _)
