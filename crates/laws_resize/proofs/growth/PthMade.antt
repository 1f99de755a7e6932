-- Which block is created p-th.
use mathlib.Core.Path.{◌≡◌, refl, ap, ◌∙◌}
use mathlib.Core.Bool.{Bool, true, false}
use mathlib.Core.List.{List, [], ◌∷◌, ◌++◌}
use Prim.Native.Nat.{ℕ, zero, suc, ◌+◌, ◌-◌, ◌*◌, ◌/◌, ◌%◌, ◌^◌, ◌≤◌, ◌<◌, min}
use native.Mathlib.Nat.{one-le-pow, zero-add, sub-zero, min-zero, div-add-mod'}
use native.Mathlib.Omega.{arith}
use lib.Dec.{ltb}
use borrow.Author.Tests.{ltb-true, ltb-false, lt-ltb, le-ltb}
use lib.ListN.{length, get_or, drop, length-append, length-drop, get_or-append, drop_of_length-le}
use lib.Seq.{get_or-append-add, drop-drop}
use Rattle.laws_resize.specs.growth.Forms.{past, bulk, in_row, places, fresh_cell}
use Rattle.laws_resize.specs.growth.Place.{sizes, row_at, at}
use Rattle.laws_resize.specs.growth.Spot.{of_end, room_of, space_of, spot}
use Rattle.meaning.specs.Lists.{pick}
use Rattle.meaning.specs.Bytes.{Cell}
use Rattle.meaning.specs.Shape.{up}
use Rattle.meaning.specs.Tree.{Tree}
use Rattle.laws_resize.specs.growth.Grow.{items_of, fresh, over_last, fill}
use Rattle.laws_resize.specs.growth.Made.{row_cells, up_to_last, made}
use Rattle.laws_resize.proofs.growth.Grow.{Ends, none, last, ends, over_last_last, row_of_none}
use Rattle.laws.proofs.Totals.{up_zero}
use Rattle.laws_resize.proofs.growth.NewSubtreePlaces.{row_lens, row_full, row_at_lem, fresh_lens, fresh_full, fresh_at_lem}
use Rattle.laws_resize.proofs.growth.Held.{made_row}
use Rattle.laws_resize.proofs.growth.PthOfSubtree.{row_cells_at, row_found, at_found, row_most, fresh_most, none as no_cell, some_row, up_pos}
use Rattle.laws_resize.proofs.growth.Order.{made_follows}

-- f of a last element
pub of_end_last : {A B : Type 0} (d : B) (f : A → B) (xs : List A) (x : A) → of_end d f (xs ++ x ∷ []) ≡ f x
unfolding of_end
of_end_last d f [] x = refl
of_end_last d f (y ∷ []) x = refl
of_end_last d f (y ∷ (z ∷ ys)) x = of_end_last d f (z ∷ ys) x

module _ (fan : ℕ) where
  -- leaves used
  fill_lens_row : (h : ℕ) → ((lens free : List ℕ) (t : Tree h) → (fill fan h lens free t).1 ≡ drop (room_of fan h t) lens)
      → (lens free : List ℕ) (k : ℕ) (l : List (Tree h)) → Ends l → (fill fan (suc h) lens free (k, l)).1 ≡ drop (room_of fan (suc h) (k, l)) lens
  unfolding fill room_of over_last of_end
  fill_lens_row h ih lens free k l none = rw zero-add (row_lens fan h (fresh_lens fan h) (fan - 0) lens free)
  fill_lens_row h ih lens free k l (last xs x) =
      rw (
        over_last_last (fill fan h) lens free xs x,
        of_end_last 0 (room_of fan h) xs x,
        row_lens fan h (fresh_lens fan h)
            (fan - length (xs ++ x ∷ [])),
        ih lens free x,
        drop-drop,
      )

  pub fill_lens : (h : ℕ) (lens free : List ℕ) (t : Tree h) → (fill fan h lens free t).1 ≡ drop (room_of fan h t) lens
  unfolding fill room_of
  fill_lens zero lens free t = refl
  fill_lens (suc h) lens free t = fill_lens_row h (fill_lens h) lens free t.0 t.1 (ends t.1)

  -- blocks made
  most_row : (h : ℕ) → ((lens free : List ℕ) (t : Tree h) → length (made fan h lens free t) ≤ space_of fan h t)
      → (lens free : List ℕ) (k : ℕ) (l : List (Tree h)) → Ends l → length (made fan (suc h) lens free (k, l)) ≤ space_of fan (suc h) (k, l)
  unfolding made space_of over_last up_to_last of_end
  most_row h ih lens free k l none = omega (arith, row_most fan h (fresh_most fan h) (fan - 0) lens free)
  most_row h ih lens free k l (last xs x) =
      let c : ℕ = fan - length (xs ++ x ∷ []) in
      let a : Tree h × List ℕ × List ℕ = fill fan h lens free x in
      rw (made_row fan h lens free k xs x _ refl, of_end_last 0 (space_of fan h) xs x, length-append (made fan h lens free x))
      (omega (arith, ih lens free x, row_most fan h (fresh_most fan h) c a.1 a.2))

  -- as many as there is space for at most
  pub made_most : (h : ℕ) (lens free : List ℕ) (t : Tree h) → length (made fan h lens free t) ≤ space_of fan h t
  unfolding made
  made_most zero lens free t = omega arith
  made_most (suc h) lens free t = most_row h (made_most h) lens free t.0 t.1 (ends t.1)

module _ (fan : ℕ) (one : 1 ≤ fan) where
  -- of a row
  full_row : (h : ℕ) → ((lens free : List ℕ) (t : Tree h) → room_of fan h t ≤ length lens → length (made fan h lens free t) ≡ space_of fan h t)
      → (lens free : List ℕ) (k : ℕ) (l : List (Tree h)) → Ends l → room_of fan (suc h) (k, l) ≤ length lens
      → length (made fan (suc h) lens free (k, l)) ≡ space_of fan (suc h) (k, l)
  unfolding made space_of room_of over_last up_to_last of_end
  full_row h ih lens free k l none fits = omega (arith, row_full fan one h (fresh_full fan one h) (fan - 0) lens free (omega arith))
  full_row h ih lens free k l (last xs x) fits =
      let c : ℕ = fan - length (xs ++ x ∷ []) in
      let a : Tree h × List ℕ × List ℕ = fill fan h lens free x in
      let f : room_of fan h x + c * fan ^ h ≤ length lens = rw (of_end_last 0 (room_of fan h) xs x) at fits in
      let n : length a.1 ≡ length lens - room_of fan h x = rw (fill_lens fan h lens free x) (length-drop (room_of fan h x) lens) in
      rw (made_row fan h lens free k xs x _ refl, of_end_last 0 (space_of fan h) xs x, length-append (made fan h lens free x))
      (omega (arith, ih lens free x (omega arith), row_full fan one h (fresh_full fan one h) c a.1 a.2 (omega arith)))

  -- and as many where leaves are left
  pub made_full : (h : ℕ) (lens free : List ℕ) (t : Tree h) → room_of fan h t ≤ length lens → length (made fan h lens free t) ≡ space_of fan h t
  unfolding made space_of
  made_full zero lens free t fits = refl
  made_full (suc h) lens free t fits = full_row h (made_full h) lens free t.0 t.1 (ends t.1) fits

  module _ (lens free : List ℕ) where
    -- new children, after a subtree is filled, by place
    pub place_row : (h c : ℕ) (x : Tree h) (b : Bool) → ltb (room_of fan h x) (length lens) ≡ b
        → (items_of (fresh fan h) c (fill fan h lens free x).1 (fill fan h lens free x).2).0
        ≡ row_at (at fan lens free h) (fan ^ h) (bulk fan h) (places fan (length lens) c h (room_of fan h x)) (room_of fan h x) (space_of fan h x)
    unfolding row_at places
    place_row h c x true e =
        let l : room_of fan h x < length lens = ltb-true (room_of fan h x) (length lens) e in
        rw (fill_lens fan h lens free x, (made_follows fan h lens free x).0, made_full h lens free x (omega arith))
        (row_at_lem fan one lens free h (fresh_at_lem fan one lens free h) c (room_of fan h x) (space_of fan h x))
    place_row h c x false e =
        let l : length lens ≤ room_of fan h x = ltb-false (room_of fan h x) (length lens) e in
        let z : length lens - room_of fan h x ≡ 0 = omega arith in
        rw (
          fill_lens fan h lens free x,
          drop_of_length-le lens {i = room_of fan h x} l,
          row_of_none (fresh fan h) c,
          z,
          up_zero (fan ^ h)
              (one-le-pow h fan one),
          min-zero,
        )

    -- the block p with this place
    abbrev spot_cell : ℕ × ℕ → ℕ → ℕ × Cell
    spot_cell l p = (get_or free p past, fresh_cell fan (length lens) (sizes lens) free l.0 l.1 p)

    -- in a row of new subtrees
    pub row_spot : (h c i k q : ℕ) → c ≤ up (length lens - i) (fan ^ h) → q < length (row_cells_at fan one lens free h c i k)
        → get_or (row_cells_at fan one lens free h c i k) q (no_cell fan one lens free) ≡ spot_cell (in_row fan h i q) (k + q)
    unfolding in_row
    row_spot h c i k q few less =
        let a : k + q / bulk fan h * bulk fan h + q % bulk fan h ≡ k + q = omega (arith, div-add-mod' q (bulk fan h)) in
        row_found fan one lens free h (at_found fan one lens free h) c i k q few less ∙ rw a

    -- the p-th new block when a tree is filled
    abbrev Spot : ℕ → Type 0
    Spot h = (t : Tree h) (p : ℕ) → p < length (made fan h lens free t) → get_or (made fan h lens free t) p (no_cell fan one lens free)
        ≡ spot_cell (spot fan h t p) p

    -- a filled row's block is one of the last child's, or in the new row
    spot_row : (h : ℕ) → Spot h → (c : ℕ) (x : Tree h) (p : ℕ) (row : List (ℕ × Cell))
        → row ≡ row_cells_at fan one lens free h (places fan (length lens) c h (room_of fan h x)) (room_of fan h x) (space_of fan h x)
        → p < length (made fan h lens free x) + length row → (b : Bool) → ltb p (length (made fan h lens free x)) ≡ b
        → get_or (made fan h lens free x ++ row) p (no_cell fan one lens free)
        ≡ spot_cell (pick (ltb p (space_of fan h x)) (spot fan h x p) (in_row fan h (room_of fan h x) (p - space_of fan h x))) p
    unfolding pick places
    spot_row h ih c x p row q less true e =
        let l : p < length (made fan h lens free x) = ltb-true p _ e in
        get_or-append (made fan h lens free x) row (no_cell fan one lens free) p l
        ∙ ih x p l
        ∙ rw (lt-ltb p (space_of fan h x) (omega (arith, made_most fan h lens free x)))
    spot_row h ih c x p row q less false e =
        let r : ℕ = room_of fan h x in
        let m : ℕ = min c (up (length lens - r) (fan ^ h)) in
        let past : length (made fan h lens free x) ≤ p = ltb-false p _ e in
        let l : 1 ≤ length row = omega arith in
        let m₁ : 1 ≤ m = some_row fan one lens free h m r (space_of fan h x) (rw q at l) in
        let some : 1 ≤ length lens - r = up_pos (length lens - r) (fan ^ h) (one-le-pow h fan one) (omega arith) in
        let f : length (made fan h lens free x) ≡ space_of fan h x = made_full h lens free x (omega arith) in
        let z : p ≡ length (made fan h lens free x) + (p - space_of fan h x) = omega arith in
        let y : space_of fan h x + (p - space_of fan h x) ≡ p = omega arith in
        let n₀ : p - space_of fan h x < length row = omega arith in
        let n : p - space_of fan h x < length (row_cells_at fan one lens free h m r (space_of fan h x)) = rw q at n₀ in
        ap (λ n. get_or (made fan h lens free x ++ row) n (no_cell fan one lens free)) z
        ∙ get_or-append-add (made fan h lens free x) row (p - space_of fan h x) (no_cell fan one lens free)
        ∙ rw (q, row_spot h m r (space_of fan h x) (p - space_of fan h x) (omega arith) n, y, le-ltb p (space_of fan h x) (omega arith))

    -- in a block with no child
    spot_none : (h k p : ℕ) → p < length (made fan (suc h) lens free (k, []))
        → get_or (made fan (suc h) lens free (k, [])) p (no_cell fan one lens free) ≡ spot_cell (spot fan (suc h) (k, []) p) p
    unfolding spot made of_end over_last up_to_last pick places
    spot_none h k p less =
        let m : ℕ = places fan (length lens) (fan - 0) h 0 in
        let q : row_cells h (items_of (fresh fan h) (fan - 0) lens free).0 ≡ row_cells_at fan one lens free h m 0 0
        = ap (row_cells h) (row_at_lem fan one lens free h (fresh_at_lem fan one lens free h) (fan - 0) 0 0) in
        let n : p < length (row_cells_at fan one lens free h m 0 0) = rw q at less in
        rw (q, le-ltb p 0 (omega arith), row_spot h m 0 0 p (omega arith) n, zero-add p, sub-zero p)

    -- in a row
    spot_next : (h : ℕ) → Spot h → (k : ℕ) (l : List (Tree h)) → Ends l → (p : ℕ) → p < length (made fan (suc h) lens free (k, l))
        → get_or (made fan (suc h) lens free (k, l)) p (no_cell fan one lens free) ≡ spot_cell (spot fan (suc h) (k, l) p) p
    unfolding spot
    spot_next h ih k l none p less = spot_none h k p less
    spot_next h ih k l (last xs x) p less =
        let c : ℕ = fan - length (xs ++ x ∷ []) in
        let new : List (Tree h) = (items_of (fresh fan h) c (fill fan h lens free x).1 (fill fan h lens free x).2).0 in
        let m = made_row fan h lens free k xs x new refl in
        rw (m, of_end_last 0 (space_of fan h) xs x, of_end_last 0 (room_of fan h) xs x, of_end_last (0, 0) (λ x. spot fan h x p) xs x)
        (spot_row h ih c x p (row_cells h new) (ap (row_cells h) (place_row h c x (ltb (room_of fan h x) (length lens)) refl))
        (rw (m, length-append (made fan h lens free x)) at less) (ltb p (length (made fan h lens free x))) refl)

    -- the p-th new block of fill
    pub made_spot : (h : ℕ) → Spot h
    unfolding made
    made_spot zero t p less = absurd (omega arith)
    made_spot (suc h) t p less = spot_next h (made_spot h) t.0 t.1 (ends t.1) p less
