-- Which block is made p-th when the tree gets higher: the old root, moved; then its new siblings, each with all below it; then the next old root.
use mathlib.Core.Path.{◌≡◌, refl, ap, ◌∙◌}
use mathlib.Core.Bool.{Bool, true, false}
use mathlib.Core.List.{List, [], ◌∷◌, ◌++◌}
use Prim.Native.Nat.{ℕ, zero, suc, ◌+◌, ◌-◌, ◌*◌, ◌^◌, ◌≤◌, ◌<◌}
use native.Mathlib.Nat.{add-zero}
use native.Mathlib.Omega.{arith}
use native.Mathlib.Numerals.{add-one}
use lib.Dec.{ltb}
use borrow.Author.Tests.{ltb-true, ltb-false, lt-ltb, le-ltb, eq-eqb, ne_eqb}
use lib.ListN.{length, get_or, drop, length-append, length-drop, get_or-append, drop_of_length-le}
use lib.Seq.{get_or-append-add, drop-drop, drop-cons, get_or-drop}
use Rattle.laws_resize.specs.growth.Forms.{new_row, past, bulk, places, above, tall_cell, new_cell}
use Rattle.laws_resize.specs.growth.Place.{sizes, row_at, at}
use Rattle.laws_resize.specs.growth.Spot.{spot, room_of, space_of}
use Rattle.meaning.specs.Lists.{pick}
use Rattle.meaning.specs.Bytes.{Cell}
use Rattle.meaning.specs.Shape.{up}
use Rattle.meaning.specs.Tree.{Tree}
use Rattle.laws.proofs.TreeSlots.{moved_slot}
use Rattle.laws_resize.specs.growth.Grow.{items_of, fresh, fill, wider}
use Rattle.laws_resize.specs.growth.Made.{top_of, made, higher_made, grow_made}
use Rattle.laws_resize.proofs.growth.NewSubtreePlaces.{row_lens, row_free, row_full, row_at_lem, fresh_lens, fresh_free, fresh_full, fresh_at_lem}
use Rattle.laws_resize.proofs.growth.Taller.{wider_more, higher_made_lem}
use Rattle.laws_resize.proofs.growth.PthOfSubtree.{row_cells_at, slots_row, row_most, fresh_most, none as no_cell}
use Rattle.laws_resize.proofs.growth.PthMade.{row_spot, fill_lens, made_most, made_full, made_spot}
use Rattle.laws_resize.proofs.growth.Order.{made_follows}

-- one more before n
add_more : (b n : ℕ) → b + (1 + n) ≡ suc b + n
add_more b n = omega arith

-- no leaf left, no new block
higher_none : (fan k : ℕ) (free : List ℕ) (h : ℕ) (t : Tree h) → higher_made fan k [] free h t ≡ []
unfolding higher_made
higher_none fan zero free h t = refl
higher_none fan (suc k) free h t = refl

module _ (fan : ℕ) (one : 1 ≤ fan) (lens free : List ℕ) where
  -- new children of a root one higher, by place
  new_at_lem : (h i b : ℕ)
      → (items_of (fresh fan h) (fan - 1) (drop i lens) (drop 1 (drop b free))).0
      ≡ row_at (at fan lens free h) (fan ^ h) (bulk fan h) (places fan (length lens) (fan - 1) h i) i (suc b)
  unfolding places
  new_at_lem h i b = rw (drop-drop, add-one) (row_at_lem fan one lens free h (fresh_at_lem fan one lens free h) (fan - 1) i (suc b))

  -- what the wider root holds
  pub above_is : (h i b : ℕ) (t : Tree h) → top_of (suc h) (wider fan h (drop i lens) (drop b free) t).0
      ≡ above fan (length lens) (sizes lens) free h i b
  unfolding top_of wider above new_row
  above_is h i b t = rw (
    new_at_lem h i b,
    slots_row fan one lens free h (places fan (length lens) (fan - 1) h i) i
        (suc b),
    get_or-drop,
    add-zero b,
    moved_slot h (get_or free b past) t,
  )

  -- leaves and slots left
  pub wider_lens : (h i b : ℕ) (t : Tree h) → (wider fan h (drop i lens) (drop b free) t).1 ≡ drop (i + (fan - 1) * fan ^ h) lens
  unfolding wider
  wider_lens h i b t = row_lens fan h (fresh_lens fan h) (fan - 1) (drop i lens) _ ∙ rw drop-drop

  pub wider_free : (h i b : ℕ) (t : Tree h) → i + (fan - 1) * fan ^ h ≤ length lens
      → (wider fan h (drop i lens) (drop b free) t).2 ≡ drop (suc b + (fan - 1) * bulk fan h) free
  unfolding wider
  wider_free h i b t fits =
      row_free fan h (fresh_free fan h) (fan - 1) (drop i lens) (drop 1 (drop b free))
      ∙ rw (
        row_full fan one h (fresh_full fan one h) (fan - 1) (drop i lens) (drop 1 (drop b free))
            (rw length-drop (omega arith)),
        drop-drop,
        drop-drop,
        add_more b ((fan - 1) * bulk fan h),
      )

  -- the new children beside the old root, by place
  abbrev row : ℕ → ℕ → ℕ → List (ℕ × Cell)
  row h i b = row_cells_at fan one lens free h (places fan (length lens) (fan - 1) h i) i (suc b)

  -- and the new blocks after them
  abbrev rest : (k h i b : ℕ) → Tree h → List (ℕ × Cell)
  rest k h i b t = wider_more fan k (drop i lens) (drop b free) h t

  -- the new blocks: the old root, moved, its new siblings, and the rest
  made_at : (k h i b : ℕ) (t : Tree h) → i < length lens
      → higher_made fan (suc k) (drop i lens) (drop b free) h t ≡ (get_or free b past, top_of h t) ∷ (row h i b ++ rest k h i b t)
  made_at k h i b t less =
      ap (λ l. higher_made fan (suc k) l (drop b free) h t) d
      ∙ higher_made_lem fan k (get_or lens i 0) (drop (suc i) lens) (drop b free) h t
      ∙ rw (← d, new_at_lem h i b, get_or-drop, add-zero b)
    where
      d : drop i lens ≡ get_or lens i 0 ∷ drop (suc i) lens
      d = drop-cons lens i 0 less

  -- the siblings are no more than fit
  row_bound : (h i b : ℕ) → i < length lens → length (row h i b) ≤ (fan - 1) * bulk fan h
  row_bound h i b less = rw (← new_at_lem h i b) (row_most fan h (fresh_most fan h) (fan - 1) (drop i lens) (drop 1 (drop b free)))

  -- and as many where leaves are left
  row_all : (h i b : ℕ) → i + (fan - 1) * fan ^ h ≤ length lens → length (row h i b) ≡ (fan - 1) * bulk fan h
  row_all h i b fits = rw (← new_at_lem h i b)
      (row_full fan one h (fresh_full fan one h) (fan - 1) (drop i lens) (drop 1 (drop b free)) (rw length-drop (omega arith)))

  -- and no more than the leaves need
  few : (h i : ℕ) → places fan (length lens) (fan - 1) h i ≤ up (length lens - i) (fan ^ h)
  unfolding places
  few h i = omega arith

  -- leaves are left if blocks are
  some_left : (k h i b : ℕ) (t : Tree h) → 1 ≤ length (rest k h i b t) → i + (fan - 1) * fan ^ h < length lens
  some_left k h i b t e = go (ltb (i + (fan - 1) * fan ^ h) (length lens)) refl
    where
      go : (c : Bool) → ltb (i + (fan - 1) * fan ^ h) (length lens) ≡ c → i + (fan - 1) * fan ^ h < length lens
      go true q = ltb-true _ _ q
      go false q =
          let n : rest k h i b t ≡ [] = rw
          (wider_lens h i b t, drop_of_length-le lens {i = i + (fan - 1) * fan ^ h} (ltb-false _ _ q), higher_none fan k) in
          absurd (omega (arith, ap length n))

  -- the rest, where leaves are left
  rest_at : (k h i b : ℕ) (t : Tree h) → i + (fan - 1) * fan ^ h < length lens
      → rest k h i b t ≡ higher_made fan k (drop (i + (fan - 1) * fan ^ h) lens) (drop (suc b + (fan - 1) * bulk fan h) free) (suc h)
      (wider fan h (drop i lens) (drop b free) t).0
  rest_at k h i b t less = rw (wider_lens h i b t, wider_free h i b t (omega arith))

  -- the p-th new block, if i leaves are hung and b blocks are made before
  abbrev HigherSpot : ℕ → Type 0
  HigherSpot k = (h i b : ℕ) (t : Tree h) (p : ℕ) → p < length (higher_made fan k (drop i lens) (drop b free) h t)
      → get_or (higher_made fan k (drop i lens) (drop b free) h t) p (no_cell fan one lens free)
      ≡ (get_or free (b + p) past, tall_cell fan (length lens) (sizes lens) free k h i b (top_of h t) (b + p))

  -- in the row of new children; after it
  spot_here : (k h i b : ℕ) (t : Tree h) (q : ℕ) → i < length lens → q < length (row h i b)
      → get_or (row h i b ++ rest k h i b t) q (no_cell fan one lens free)
      ≡ (get_or free (b + suc q) past, tall_cell fan (length lens) (sizes lens) free (suc k) h i b (top_of h t) (b + suc q))
  unfolding tall_cell pick
  spot_here k h i b t q some less =
      let y : suc b + q ≡ b + suc q = omega arith in
      let x : b + suc q - suc b ≡ q = omega arith in
      get_or-append (row h i b) (rest k h i b t) (no_cell fan one lens free) q less
      ∙ row_spot fan one lens free h (places fan (length lens) (fan - 1) h i) i (suc b) q (few h i) less
      ∙ rw (y, ne_eqb (b + suc q) b (λ e. omega arith), lt-ltb (b + suc q) (suc b + (fan - 1) * bulk fan h) (omega (arith, row_bound h i b some)), x)

  spot_later : (k h i b : ℕ) (t : Tree h) (q : ℕ) → HigherSpot k → i + (fan - 1) * fan ^ h < length lens → q < length (rest k h i b t)
      → get_or (row h i b ++ rest k h i b t) (length (row h i b) + q) (no_cell fan one lens free)
      ≡ (
        get_or free (suc b + (fan - 1) * bulk fan h + q) past,
        tall_cell fan (length lens) (sizes lens) free (suc k) h i b (top_of h t)
            (suc b + (fan - 1) * bulk fan h + q),
      )
  unfolding tall_cell pick
  spot_later k h i b t q ih some less =
      let b' : ℕ = suc b + (fan - 1) * bulk fan h in
      let e = rest_at k h i b t some in
      get_or-append-add (row h i b) (rest k h i b t) q (no_cell fan one lens free)
      ∙ rw (
        e,
        ih (suc h) (i + (fan - 1) * fan ^ h) b' (wider fan h (drop i lens) (drop b free) t).0 q (rw e at less),
        above_is h i b t,
        ne_eqb (b' + q) b (λ z. omega arith),
        le-ltb (b' + q) b' (omega arith),
      )

  -- the first is the old root, moved
  spot_top : (k h i b : ℕ) (t : Tree h) → ◌≡◌ {A = ℕ × Cell} (get_or free b past, top_of h t)
      (get_or free b past, tall_cell fan (length lens) (sizes lens) free (suc k) h i b (top_of h t) b)
  unfolding tall_cell pick
  spot_top k h i b t = rw (eq-eqb b b refl)

  -- another, by its place
  spot_next : (k h i b : ℕ) (t : Tree h) (q : ℕ) → HigherSpot k → i < length lens → q < length (row h i b) + length (rest k h i b t)
      → (c : Bool) → ltb q (length (row h i b)) ≡ c
      → get_or (row h i b ++ rest k h i b t) q (no_cell fan one lens free)
      ≡ (get_or free (b + suc q) past, tall_cell fan (length lens) (sizes lens) free (suc k) h i b (top_of h t) (b + suc q))
  spot_next k h i b t q ih some less true e = spot_here k h i b t q some (ltb-true _ _ e)
  spot_next k h i b t q ih some less false e =
      let past : length (row h i b) ≤ q = ltb-false _ _ e in
      let m : i + (fan - 1) * fan ^ h < length lens = some_left k h i b t (omega arith) in
      let a : length (row h i b) ≡ (fan - 1) * bulk fan h = row_all h i b (omega arith) in
      let q' : ℕ = q - (fan - 1) * bulk fan h in
      let z : q ≡ length (row h i b) + q' = omega arith in
      let y : suc b + (fan - 1) * bulk fan h + q' ≡ b + suc q = omega arith in
      ap (λ n. get_or (row h i b ++ rest k h i b t) n (no_cell fan one lens free)) z
      ∙ spot_later k h i b t q' ih m (omega arith)
      ∙ rw y

  -- all of them
  higher_spot : (k : ℕ) → HigherSpot k
  unfolding higher_made
  higher_spot zero h i b t p less = absurd (omega arith)
  higher_spot (suc k) h i b t p less = go (higher_spot k) (ltb i (length lens)) refl p less
    where
      go : HigherSpot k → (c : Bool) → ltb i (length lens) ≡ c → (p : ℕ) → p < length (higher_made fan (suc k) (drop i lens) (drop b free) h t)
          → get_or (higher_made fan (suc k) (drop i lens) (drop b free) h t) p (no_cell fan one lens free)
          ≡ (get_or free (b + p) past, tall_cell fan (length lens) (sizes lens) free (suc k) h i b (top_of h t) (b + p))
      go ih true e zero less = rw (made_at k h i b t (ltb-true _ _ e), add-zero b) (spot_top k h i b t)
      go ih true e (suc q) less =
          let some : i < length lens = ltb-true _ _ e in
          let m = made_at k h i b t some in
          let n = length-append (row h i b) (rest k h i b t) in
          rw m (spot_next k h i b t q ih some (omega (arith, ap length m, n)) (ltb q (length (row h i b))) refl)
      go ih false e p less = absurd (omega
          (arith, ap (λ l. length (higher_made fan (suc k) l (drop b free) h t)) (drop_of_length-le lens {i = i} (ltb-false _ _ e))))

  -- all new blocks
  abbrev on : (k h : ℕ) → Tree h → List (ℕ × Cell)
  on k h t = higher_made fan k (fill fan h lens free t).1 (fill fan h lens free t).2 h (fill fan h lens free t).0

  -- leaves are left if the root gets higher
  on_some : (k h : ℕ) (t : Tree h) → 1 ≤ length (on k h t) → (c : Bool) → ltb (room_of fan h t) (length lens) ≡ c → room_of fan h t < length lens
  on_some k h t e true q = ltb-true _ _ q
  on_some k h t e false q =
      let n : on k h t ≡ [] = rw (fill_lens fan h lens free t, drop_of_length-le lens {i = room_of fan h t} (ltb-false _ _ q), higher_none fan k) in
      absurd (omega (arith, ap length n))

  -- a new block on the right edge, or later
  grow_next : (k h : ℕ) (t : Tree h) (p : ℕ) → p < length (made fan h lens free t) + length (on k h t) → (c : Bool)
      → ltb p (length (made fan h lens free t)) ≡ c
      → get_or (made fan h lens free t ++ on k h t) p (no_cell fan one lens free)
      ≡ (
        get_or free p past,
        new_cell fan (length lens) (sizes lens) free k h (spot fan h t p) (room_of fan h t) (space_of fan h t)
            (top_of h (fill fan h lens free t).0) p,
      )
  unfolding new_cell pick
  grow_next k h t p less true e =
      let l : p < length (made fan h lens free t) = ltb-true _ _ e in
      get_or-append (made fan h lens free t) (on k h t) (no_cell fan one lens free) p l
      ∙ made_spot fan one lens free h t p l
      ∙ rw (lt-ltb p (space_of fan h t) (omega (arith, made_most fan h lens free t)))
  grow_next k h t p less false e =
      let past : length (made fan h lens free t) ≤ p = ltb-false _ _ e in
      let some : room_of fan h t < length lens = on_some k h t (omega arith) (ltb (room_of fan h t) (length lens)) refl in
      let f : length (made fan h lens free t) ≡ space_of fan h t = made_full fan one h lens free t (omega arith) in
      let q : ℕ = p - space_of fan h t in
      let z : p ≡ length (made fan h lens free t) + q = omega arith in
      let y : space_of fan h t + q ≡ p = omega arith in
      let o : on k h t ≡ higher_made fan k (drop (room_of fan h t) lens) (drop (space_of fan h t) free) h (fill fan h lens free t).0
      = rw (fill_lens fan h lens free t, (made_follows fan h lens free t).0, f) in
      let l : q < length (on k h t) = omega arith in
      ap (λ n. get_or (made fan h lens free t ++ on k h t) n (no_cell fan one lens free)) z
      ∙ get_or-append-add (made fan h lens free t) (on k h t) q (no_cell fan one lens free)
      ∙ rw (
        o,
        higher_spot k h (room_of fan h t) (space_of fan h t) (fill fan h lens free t).0 q (rw o at l),
        y,
        le-ltb p (space_of fan h t)
            (omega arith),
      )

  -- the p-th new block of all
  pub grow_spot : (k h : ℕ) (t : Tree h) (p : ℕ) → p < length (grow_made fan k lens free h t)
      → get_or (grow_made fan k lens free h t) p (no_cell fan one lens free)
      ≡ (
        get_or free p past,
        new_cell fan (length lens) (sizes lens) free k h (spot fan h t p) (room_of fan h t) (space_of fan h t)
            (top_of h (fill fan h lens free t).0) p,
      )
  unfolding grow_made
  grow_spot k h t p less =
      grow_next k h t p (omega (arith, length-append (made fan h lens free t) (on k h t))) (ltb p (length (made fan h lens free t))) refl
