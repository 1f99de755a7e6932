-- The p-th block of a new subtree.
use mathlib.Core.Path.{◌≡◌, refl, sym, ap, ◌∙◌}
use mathlib.Core.Bool.{Bool, true, false}
use mathlib.Core.List.{List, [], ◌∷◌, map}
use Prim.Native.Nat.{ℕ, zero, suc, ◌+◌, ◌-◌, ◌*◌, ◌/◌, ◌%◌, ◌^◌, ◌≤◌, ◌<◌}
use native.Mathlib.Nat.{one-le-pow, add-zero, add-div_right, add-mod_right, mod-eq_of_lt, div-eq_of_lt, div-add-mod'}
use native.Mathlib.Omega.{arith}
use native.Mathlib.Numerals.{add-one}
use lib.Dec.{ltb}
use borrow.Author.Tests.{ltb-true, ltb-false}
use lib.ListN.{length, get_or, drop, length-append, length-drop, get_or-append}
use lib.Seq.{get_or-append-add}
use Rattle.laws_resize.specs.growth.Forms.{new_row, past, every, bulk, locate, places, fresh_cell}
use Rattle.laws_resize.specs.growth.Place.{sizes, row_at, at}
use Rattle.meaning.specs.Lists.{joined}
use Rattle.meaning.specs.Bytes.{Cell}
use Rattle.meaning.specs.Shape.{up}
use Rattle.meaning.specs.Tree.{cells, slot_of}
use Rattle.laws_resize.specs.growth.Grow.{items_of, fresh}
use Rattle.laws_resize.specs.growth.Made.{row_cells}
use Rattle.laws.proofs.Totals.{up_zero}
use Rattle.laws_resize.proofs.growth.NewSubtreePlaces.{fresh_full, fresh_at_lem, up_more}

-- a full subtree has a block
bulk_pos : (fan h : ℕ) → 1 ≤ bulk fan h
unfolding bulk
bulk_pos fan zero = omega arith
bulk_pos fan (suc h) = omega arith

-- a share of something
pub up_pos : (n f : ℕ) → 1 ≤ f → 1 ≤ up n f → 1 ≤ n
up_pos zero f one e = absurd (omega (arith, up_zero f one))
up_pos (suc n) f one e = omega arith

module _ (fan : ℕ) where
  -- a subtree has at most a bulk
  pub row_most : (h : ℕ) → ((lens free : List ℕ) → length (cells h (fresh fan h lens free).0) ≤ bulk fan h)
      → (c : ℕ) (lens free : List ℕ) → length (row_cells h (items_of (fresh fan h) c lens free).0) ≤ c * bulk fan h
  unfolding items_of joined
  row_most h ih zero lens free = omega arith
  row_most h ih (suc c) [] free = omega arith
  row_most h ih (suc c) (l ∷ ls) free =
      rw length-append (omega (arith, ih (l ∷ ls) free, row_most h ih c (fresh fan h (l ∷ ls) free).1 (fresh fan h (l ∷ ls) free).2))

  -- so has a new subtree
  pub fresh_most : (h : ℕ) (lens free : List ℕ) → length (cells h (fresh fan h lens free).0) ≤ bulk fan h
  unfolding fresh cells bulk
  fresh_most zero lens free = omega arith
  fresh_most (suc h) lens free = omega (arith, row_most h (fresh_most h) fan lens (drop 1 free))

module _ (fan : ℕ) (one : 1 ≤ fan) (lens free : List ℕ) where
  -- the blocks of a new subtree, and of a row of them, by place
  abbrev cells_at : ℕ → ℕ → ℕ → List (ℕ × Cell)
  cells_at h i k = cells h (at fan lens free h i k)

  abbrev pub row_cells_at : ℕ → ℕ → ℕ → ℕ → List (ℕ × Cell)
  row_cells_at h c i k = row_cells h (row_at (at fan lens free h) (fan ^ h) (bulk fan h) c i k)

  -- no block
  abbrev pub none : ℕ × Cell
  none = (0, record { height = 0; items = [] })

  -- a subtree by place has at most a bulk
  at_most : (h i k : ℕ) → i < length lens → length (cells_at h i k) ≤ bulk fan h
  at_most h i k less = rw (← fresh_at_lem fan one lens free h i k less) (fresh_most fan h (drop i lens) (drop k free))

  -- and a bulk if there are leaves enough
  at_full : (h i k : ℕ) → i + fan ^ h ≤ length lens → length (cells_at h i k) ≡ bulk fan h
  at_full h i k fits =
      rw (← fresh_at_lem fan one lens free h i k (omega (arith, one-le-pow h fan one)))
      (fresh_full fan one h (drop i lens) (drop k free) (rw length-drop (omega arith)))

  -- the p-th block's slot and cell
  abbrev pub found : ℕ → ℕ → ℕ → ℕ → ℕ × Cell
  found h i k p = (get_or free (k + p) past, fresh_cell fan (length lens) (sizes lens) free (locate fan h p).0 (i + (locate fan h p).1) (k + p))

  -- the p-th block of a subtree, and of a row
  abbrev Found : ℕ → Type 0
  Found h = (i k p : ℕ) → i < length lens → p < length (cells_at h i k) → get_or (cells_at h i k) p none ≡ found h i k p

  abbrev RowFound : ℕ → ℕ → Type 0
  RowFound h c = (i k p : ℕ) → c ≤ up (length lens - i) (fan ^ h) → p < length (row_cells_at h c i k)
      → get_or (row_cells_at h c i k) p none ≡ found h (i + p / bulk fan h * fan ^ h) (k + p / bulk fan h * bulk fan h) (p % bulk fan h)

  -- in the first child
  found_first : (h : ℕ) → Found h → (c i k p : ℕ) → i < length lens → p < length (cells_at h i k)
      → get_or (row_cells_at h (suc c) i k) p none ≡ found h (i + p / bulk fan h * fan ^ h) (k + p / bulk fan h * bulk fan h) (p % bulk fan h)
  unfolding row_at joined
  found_first h ih c i k p some less =
      let l : p < bulk fan h = omega (arith, at_most h i k some) in
      let a : i + 0 * fan ^ h ≡ i = omega arith in
      let b : k + 0 * bulk fan h ≡ k = omega arith in
      get_or-append (cells_at h i k) (row_cells_at h c (i + fan ^ h) (k + bulk fan h)) none p less
      ∙ ih i k p some less
      ∙ rw (div-eq_of_lt l, mod-eq_of_lt l, a, b)

  -- in another
  found_later : (h c i k q : ℕ) → RowFound h c → i + fan ^ h ≤ length lens → c ≤ up (length lens - (i + fan ^ h)) (fan ^ h)
      → q < length (row_cells_at h c (i + fan ^ h) (k + bulk fan h))
      → get_or (row_cells_at h (suc c) i k) (bulk fan h + q) none
      ≡ found h (i + (bulk fan h + q) / bulk fan h * fan ^ h) (k + (bulk fan h + q) / bulk fan h * bulk fan h) ((bulk fan h + q) % bulk fan h)
  unfolding row_at joined
  found_later h c i k q ih full few less =
      let f : length (cells_at h i k) ≡ bulk fan h = at_full h i k full in
      let z : bulk fan h + q ≡ q + bulk fan h = omega arith in
      let d : (q + bulk fan h) / bulk fan h ≡ suc (q / bulk fan h) = add-div_right q (bulk_pos fan h) ∙ add-one _ in
      let a : i + suc (q / bulk fan h) * fan ^ h ≡ i + fan ^ h + q / bulk fan h * fan ^ h = omega arith in
      let b : k + suc (q / bulk fan h) * bulk fan h ≡ k + bulk fan h + q / bulk fan h * bulk fan h = omega arith in
      ap (λ n. get_or (row_cells_at h (suc c) i k) (n + q) none) (sym f)
      ∙ get_or-append-add (cells_at h i k) (row_cells_at h c (i + fan ^ h) (k + bulk fan h)) q none
      ∙ ih (i + fan ^ h) (k + bulk fan h) q few less
      ∙ rw (z, d, add-mod_right, a, b)

  -- a row with a block has a tree
  pub some_row : (h c i k : ℕ) → 1 ≤ length (row_cells_at h c i k) → 1 ≤ c
  unfolding row_at joined
  some_row h zero i k e = e
  some_row h (suc c) i k e = omega arith

  -- in the first child or another
  row_next : (h c : ℕ) → Found h → RowFound h c → (i k p : ℕ) → suc c ≤ up (length lens - i) (fan ^ h) → 1 ≤ length lens - i
      → p < length (cells_at h i k) + length (row_cells_at h c (i + fan ^ h) (k + bulk fan h)) → (b : Bool) → ltb p (length (cells_at h i k)) ≡ b
      → get_or (row_cells_at h (suc c) i k) p none ≡ found h (i + p / bulk fan h * fan ^ h) (k + p / bulk fan h * bulk fan h) (p % bulk fan h)
  row_next h c ih next i k p few some less true e = found_first h ih c i k p (omega arith) (ltb-true p _ e)
  row_next h c ih next i k p few some less false e =
      let pos : 1 ≤ fan ^ h = one-le-pow h fan one in
      let past : length (cells_at h i k) ≤ p = ltb-false p _ e in
      let c₁ : 1 ≤ c = some_row h c (i + fan ^ h) (k + bulk fan h) (omega arith) in
      let s : length lens - i - fan ^ h ≡ length lens - (i + fan ^ h) = omega arith in
      let u : up (length lens - i) (fan ^ h)
      ≡ suc (up (length lens - (i + fan ^ h)) (fan ^ h)) = rw s at (up_more (fan ^ h) (length lens - i) pos some) in
      let m : 1 ≤ length lens - (i + fan ^ h) = up_pos (length lens - (i + fan ^ h)) (fan ^ h) pos (omega arith) in
      let f : length (cells_at h i k) ≡ bulk fan h = at_full h i k (omega arith) in
      let z : p ≡ bulk fan h + (p - bulk fan h) = omega arith in
      rw z (found_later h c i k (p - bulk fan h) next (omega arith) (omega arith) (omega arith))

  -- in a row
  pub row_found : (h : ℕ) → Found h → (c : ℕ) → RowFound h c
  unfolding row_at joined
  row_found h ih zero i k p few less = absurd (omega arith)
  row_found h ih (suc c) i k p few less =
      row_next h c ih (row_found h ih c) i k p few (up_pos (length lens - i) (fan ^ h) (one-le-pow h fan one) (omega arith))
      (omega (arith, length-append (cells_at h i k) (row_cells_at h c (i + fan ^ h) (k + bulk fan h)))) (ltb p (length (cells_at h i k))) refl

  -- the tops' slots of a row
  pub slots_row : (h c i k : ℕ) → map (slot_of h) (row_at (at fan lens free h) (fan ^ h) (bulk fan h) c i k) ≡ every free (bulk fan h) c k
  unfolding row_at every slot_of at
  slots_row zero zero i k = refl
  slots_row (suc h) zero i k = refl
  slots_row zero (suc c) i k = ap {B = List ℕ} (λ l. get_or free k past ∷ l) (slots_row zero c _ _)
  slots_row (suc h) (suc c) i k = ap {B = List ℕ} (λ l. get_or free k past ∷ l) (slots_row (suc h) c _ _)

  -- no more children than the leaves need
  few : (h i : ℕ) → places fan (length lens) fan h i ≤ up (length lens - i) (fan ^ h)
  unfolding places
  few h i = omega arith

  -- what the p-th block of a new subtree is
  pub at_found : (h : ℕ) → Found h
  unfolding cells at fresh_cell new_row locate
  at_found zero i k zero some less = rw (add-zero k, add-zero i)
  at_found zero i k (suc p) some less = absurd (omega arith)
  at_found (suc h) i k zero some less = rw (slots_row h (places fan (length lens) fan h i) i (suc k), add-zero k, add-zero i)
  at_found (suc h) i k (suc p) some less =
      let S : ℕ = bulk fan h in
      let l : ℕ × ℕ = locate fan h (p % S) in
      let a : suc k + p / S * S + p % S ≡ k + suc p = omega (arith, div-add-mod' p S) in
      let b : i + p / S * fan ^ h + l.1 ≡ i + (p / S * fan ^ h + l.1) = omega arith in
      row_found h (at_found h) (places fan (length lens) fan h i) i (suc k) p (few h i) (omega arith) ∙ rw (a, b)
