-- Where the blocks of a new subtree lie.
use mathlib.Core.Path.{◌≡◌, refl, sym, ap, ◌∙◌}
use mathlib.Core.Bool.{Bool, true, false}
use mathlib.Core.List.{List, [], ◌∷◌}
use Prim.Native.Nat.{ℕ, zero, suc, ◌+◌, ◌-◌, ◌*◌, ◌/◌, ◌^◌, ◌≤◌, ◌<◌, min}
use native.Mathlib.Nat.{pow-zero, pow-succ', one-le-pow, add-zero, div-eq_of_lt, add-mul-div_right, zero-min, suc-min-suc, min-zero}
use native.Mathlib.Omega.{arith}
use native.Mathlib.Numerals.{add-one}
use lib.Dec.{leb, ltb}
use borrow.Author.Tests.{leb-true, leb-false, ltb-true, ltb-false}
use lib.ListN.{length, drop, length-append, length-drop, drop_of_length-le}
use lib.Seq.{drop-drop, drop-nil, drop-cons, get_or-drop}
use Rattle.laws_resize.specs.growth.Forms.{bulk, places}
use Rattle.laws_resize.specs.growth.Place.{row_at, at}
use Rattle.meaning.specs.Lists.{joined}
use Rattle.laws.proofs.Totals.{up_zero}
use Rattle.meaning.specs.Shape.{up}
use Rattle.meaning.specs.Tree.{cells}
use Rattle.laws_resize.specs.growth.Grow.{items_of, fresh}
use Rattle.laws_resize.specs.growth.Made.{row_cells}
use Rattle.laws_resize.proofs.growth.Grow.{row_of_none}

-- one more
one_more : (n : ℕ) → 1 + n ≡ suc n
one_more n = omega arith

module _ (fan : ℕ) where
  -- leaves used
  pub row_lens : (h : ℕ) → ((lens free : List ℕ) → (fresh fan h lens free).1 ≡ drop (fan ^ h) lens)
      → (c : ℕ) (lens free : List ℕ) → (items_of (fresh fan h) c lens free).1 ≡ drop (c * fan ^ h) lens
  unfolding items_of
  row_lens h ih zero lens free = let z : 0 * fan ^ h ≡ 0 = omega arith in rw z
  row_lens h ih (suc c) [] free = sym (drop-nil (suc c * fan ^ h))
  row_lens h ih (suc c) (l ∷ ls) free =
      let z : suc c * fan ^ h ≡ fan ^ h + c * fan ^ h = omega arith in
      row_lens h ih c _ _ ∙ rw (ih (l ∷ ls) free, z, drop-drop)

  pub fresh_lens : (h : ℕ) (lens free : List ℕ) → (fresh fan h lens free).1 ≡ drop (fan ^ h) lens
  unfolding fresh
  fresh_lens zero lens free = rw pow-zero
  fresh_lens (suc h) lens free = rw (pow-succ') (row_lens h (fresh_lens h) fan lens (drop 1 free))

  -- slots used: one for each block
  pub row_free : (h : ℕ) → ((lens free : List ℕ) → (fresh fan h lens free).2 ≡ drop (length (cells h (fresh fan h lens free).0)) free)
      → (c : ℕ) (lens free : List ℕ) → (items_of (fresh fan h) c lens free).2 ≡ drop (length (row_cells h (items_of (fresh fan h) c lens free).0)) free
  unfolding items_of joined
  row_free h ih zero lens free = refl
  row_free h ih (suc c) [] free = refl
  row_free h ih (suc c) (l ∷ ls) free = row_free h ih c _ _ ∙ rw (ih (l ∷ ls) free, drop-drop, length-append)

  pub fresh_free : (h : ℕ) (lens free : List ℕ) → (fresh fan h lens free).2 ≡ drop (length (cells h (fresh fan h lens free).0)) free
  unfolding fresh cells
  fresh_free zero lens free = refl
  fresh_free (suc h) lens free = row_free h (fresh_free h) fan lens (drop 1 free) ∙ rw (drop-drop, one_more)

-- a share of something is one, and the share of what is left
pub up_more : (f n : ℕ) → 1 ≤ f → 1 ≤ n → up n f ≡ suc (up (n - f) f)
unfolding up
up_more f n one some =
    let z : n + (f - 1) ≡ (n - 1) + 1 * f = omega arith in
    rw (z, add-mul-div_right (n - 1) 1 one, add-one) (ap suc (go (leb n f) refl))
  where
    go : (b : Bool) → leb n f ≡ b → (n - 1) / f ≡ (n - f + (f - 1)) / f
    go true e =
        let l : n ≤ f = leb-true n f e in
        let z : n - f + (f - 1) ≡ f - 1 = omega arith in
        rw (z, div-eq_of_lt {n = n - 1} {m = f} (omega arith), div-eq_of_lt {n = f - 1} {m = f} (omega arith))
    go false e = let l : f < n = leb-false n f e in let z : n - f + (f - 1) ≡ n - 1 = omega arith in rw z

module _ (fan : ℕ) (one : 1 ≤ fan) where
  -- a subtree with leaves enough is full
  pub row_full : (h : ℕ) → ((lens free : List ℕ) → fan ^ h ≤ length lens → length (cells h (fresh fan h lens free).0) ≡ bulk fan h)
      → (c : ℕ) (lens free : List ℕ) → c * fan ^ h ≤ length lens → length (row_cells h (items_of (fresh fan h) c lens free).0) ≡ c * bulk fan h
  unfolding items_of joined
  row_full h ih zero lens free fits = omega arith
  row_full h ih (suc c) [] free fits = absurd (omega (arith, one-le-pow h fan one))
  row_full h ih (suc c) (l ∷ ls) free fits =
      rw length-append (omega (
        arith,
        ih (l ∷ ls) free (omega arith),
        row_full h ih c (fresh fan h (l ∷ ls) free).1 (fresh fan h (l ∷ ls) free).2
            (rw (fresh_lens fan h (l ∷ ls) free, length-drop) (omega arith)),
      ))

  pub fresh_full : (h : ℕ) (lens free : List ℕ) → fan ^ h ≤ length lens → length (cells h (fresh fan h lens free).0) ≡ bulk fan h
  unfolding fresh cells bulk
  fresh_full zero lens free fits = refl
  fresh_full (suc h) lens free fits = omega (arith, row_full h (fresh_full h) fan lens (drop 1 free) (rw pow-succ' at fits))

  module _ (lens free : List ℕ) where
    -- a new subtree, and a row of new ones, by place
    abbrev At : ℕ → Type 0
    At h = (i k : ℕ) → i < length lens → (fresh fan h (drop i lens) (drop k free)).0 ≡ at fan lens free h i k

    abbrev RowAt : ℕ → ℕ → Type 0
    RowAt h c = (i k : ℕ)
        → (items_of (fresh fan h) c (drop i lens) (drop k free)).0
        ≡ row_at (at fan lens free h) (fan ^ h) (bulk fan h) (min c (up (length lens - i) (fan ^ h))) i k

    -- the first of a row
    row_head : (h c i : ℕ) (f : List ℕ) → i < length lens
        → (items_of (fresh fan h) (suc c) (drop i lens) f).0
        ≡ (fresh fan h (drop i lens) f).0 ∷ (items_of (fresh fan h) c (fresh fan h (drop i lens) f).1 (fresh fan h (drop i lens) f).2).0
    unfolding items_of
    row_head h c i f less = rw (drop-cons lens i 0 less)

    -- after a full child the next begins a bulk further; after another there is none
    row_tail : (h c : ℕ) → RowAt h c → (i k : ℕ) (b : Bool) → leb (i + fan ^ h) (length lens) ≡ b
        → (items_of (fresh fan h) c (drop (i + fan ^ h) lens) (fresh fan h (drop i lens) (drop k free)).2).0
        ≡ row_at (at fan lens free h) (fan ^ h) (bulk fan h) (min c (up (length lens - (i + fan ^ h)) (fan ^ h))) (i + fan ^ h) (k + bulk fan h)
    unfolding row_at
    row_tail h c next i k true e =
        rw (fresh_free fan h, fresh_full h (drop i lens) (drop k free) (rw length-drop (omega (arith, leb-true))), drop-drop (bulk fan h) k free)
        (next (i + fan ^ h) (k + bulk fan h))
    row_tail h c next i k false e =
        let z : length lens - (i + fan ^ h) ≡ 0 = omega (arith, leb-false) in
        rw (
          drop_of_length-le lens {i = i + fan ^ h} (omega (arith, leb-false)),
          row_of_none (fresh fan h) c,
          z,
          up_zero (fan ^ h)
              (one-le-pow h fan one),
          min-zero,
        )

    -- a row of new subtrees
    pub row_at_lem : (h : ℕ) → At h → (c : ℕ) → RowAt h c
    unfolding items_of row_at
    row_at_lem h ih zero i k = rw zero-min
    row_at_lem h ih (suc c) i k = go (row_at_lem h ih c) (ltb i (length lens)) refl
      where
        go : RowAt h c → (b : Bool) → ltb i (length lens) ≡ b
            → (items_of (fresh fan h) (suc c) (drop i lens) (drop k free)).0
            ≡ row_at (at fan lens free h) (fan ^ h) (bulk fan h) (min (suc c) (up (length lens - i) (fan ^ h))) i k
        go next true e =
            let less : i < length lens = ltb-true i (length lens) e in
            let z : length lens - i - fan ^ h ≡ length lens - (i + fan ^ h) = omega arith in
            rw (
              row_head h c i (drop k free) less,
              ih i k less,
              fresh_lens fan h (drop i lens),
              drop-drop (fan ^ h) i lens,
              up_more (fan ^ h) (length lens - i) (one-le-pow h fan one) (omega arith),
              suc-min-suc,
              z,
              row_tail h c next i k (leb (i + fan ^ h) (length lens)) refl,
            )
        go next false e =
            let z : length lens - i ≡ 0 = omega (arith, ltb-false) in
            rw (drop_of_length-le lens {i = i} (omega (arith, ltb-false)), z, up_zero (fan ^ h) (one-le-pow h fan one), min-zero)

    -- a new subtree
    pub fresh_at_lem : (h : ℕ) → At h
    unfolding fresh at places
    fresh_at_lem zero i k less = rw (get_or-drop k, get_or-drop i, add-zero k, add-zero i)
    fresh_at_lem (suc h) i k less = rw (get_or-drop k, add-zero k, drop-drop, add-one, row_at_lem h (fresh_at_lem h) fan i (suc k))
