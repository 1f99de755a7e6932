-- What the root holds as the tree gets higher, and what a block of the right edge holds when it is filled.
use mathlib.Core.Path.{◌≡◌, refl}
use mathlib.Core.Bool.{Bool, true, false}
use mathlib.Core.List.{List, [], ◌∷◌, ◌++◌, map-append}
use Prim.Native.Nat.{ℕ, zero, suc, ◌+◌, ◌-◌, ◌*◌, ◌^◌, ◌≤◌, ◌<◌}
use native.Mathlib.Omega.{arith}
use lib.Dec.{leb, ltb}
use borrow.Author.Tests.{leb-true, leb-false, ltb-true, ltb-false, le-ltb}
use lib.ListN.{length, drop, drop_of_length-le}
use lib.Seq.{drop-cons}
use Rattle.laws_resize.specs.growth.Forms.{new_row, past, bulk, places, above, root_cell}
use Rattle.laws_resize.specs.growth.Place.{sizes}
use Rattle.laws_resize.specs.growth.Spot.{of_end, room_of, space_of, edge_cell}
use Rattle.meaning.specs.Lists.{pick}
use Rattle.meaning.specs.Bytes.{Cell}
use Rattle.meaning.specs.Tree.{Tree, Blob, slot_of}
use Rattle.laws_resize.specs.growth.Grow.{over_last, fill, wider, higher, grow}
use Rattle.laws_resize.specs.growth.Made.{top_of}
use Rattle.laws_resize.proofs.growth.Grow.{Ends, none, last, ends, over_last_last}
use Rattle.laws_resize.proofs.growth.NewSubtreePlaces.{row_at_lem, fresh_at_lem}
use Rattle.laws_resize.proofs.growth.Taller.{fill_slot}
use Rattle.laws_resize.proofs.growth.PthOfSubtree.{slots_row}
use Rattle.laws_resize.proofs.growth.PthMade.{fill_lens, made_full, place_row, of_end_last}
use Rattle.laws_resize.proofs.growth.Order.{made_follows}
use Rattle.laws_resize.proofs.growth.Higher.{above_is, wider_lens, wider_free}

module _ (fan : ℕ) (one : 1 ≤ fan) (lens free : List ℕ) where
  -- the root
  abbrev pub root_of : Blob → Cell
  root_of b = top_of b.height b.tree

  -- no leaf left, the root stays
  higher_stays : (k : ℕ) (f : List ℕ) (h : ℕ) (t : Tree h) → higher fan k [] f h t ≡ record { height = h; tree = t }
  unfolding higher
  higher_stays zero f h t = refl
  higher_stays (suc k) f h t = refl

  -- leaves left, it gets one higher
  higher_step : (k h i : ℕ) (f : List ℕ) (t : Tree h) → i < length lens
      → higher fan (suc k) (drop i lens) f h t
      ≡ higher fan k (wider fan h (drop i lens) f t).1 (wider fan h (drop i lens) f t).2 (suc h) (wider fan h (drop i lens) f t).0
  unfolding higher
  higher_step k h i f t less = rw (drop-cons lens i 0 less)

  -- what the root holds, as it gets higher
  abbrev Root : ℕ → Type 0
  Root k = (h i b : ℕ) (t : Tree h) → root_of (higher fan k (drop i lens) (drop b free) h t)
      ≡ root_cell fan (length lens) (sizes lens) free k h i b (top_of h t)

  -- once no leaf is left the root stays as it is
  cell_stays : (k h i b : ℕ) (top : Cell) → length lens ≤ i → root_cell fan (length lens) (sizes lens) free k h i b top ≡ top
  unfolding root_cell pick
  cell_stays zero h i b top past = refl
  cell_stays (suc k) h i b top past = rw (le-ltb i (length lens) past)

  -- one height more
  root_next : (k : ℕ) → Root k → (h i b : ℕ) (t : Tree h) → i < length lens → (c : Bool) → leb (i + (fan - 1) * fan ^ h) (length lens) ≡ c
      → root_of (higher fan (suc k) (drop i lens) (drop b free) h t)
      ≡ root_cell fan (length lens) (sizes lens) free k (suc h) (i + (fan - 1) * fan ^ h) (suc b + (fan - 1) * bulk fan h)
      (above fan (length lens) (sizes lens) free h i b)
  root_next k ih h i b t some true e =
      rw (
        higher_step k h i (drop b free) t some,
        wider_lens fan one lens free h i b t,
        wider_free fan one lens free h i b t
            (leb-true _ _ e),
        ← above_is fan one lens free h i b t,
      )
      (ih (suc h) (i + (fan - 1) * fan ^ h) (suc b + (fan - 1) * bulk fan h) (wider fan h (drop i lens) (drop b free) t).0)
  root_next k ih h i b t some false e =
      let l : length lens < i + (fan - 1) * fan ^ h = leb-false _ _ e in
      rw (
        higher_step k h i (drop b free) t some,
        wider_lens fan one lens free h i b t,
        drop_of_length-le lens {i = i + (fan - 1) * fan ^ h} (omega arith),
        higher_stays k,
        cell_stays k (suc h) (i + (fan - 1) * fan ^ h) (suc b + (fan - 1) * bulk fan h) (above fan (length lens) (sizes lens) free h i b)
            (omega arith),
      )
      (above_is fan one lens free h i b t)

  -- if leaves are left
  root_by : (k : ℕ) → Root k → (h i b : ℕ) (t : Tree h) (c : Bool) → ltb i (length lens) ≡ c
      → root_of (higher fan (suc k) (drop i lens) (drop b free) h t) ≡ root_cell fan (length lens) (sizes lens) free (suc k) h i b (top_of h t)
  unfolding root_cell pick
  root_by k ih h i b t true e = rw e (root_next k ih h i b t (ltb-true _ _ e) (leb (i + (fan - 1) * fan ^ h) (length lens)) refl)
  root_by k ih h i b t false e = rw (e, drop_of_length-le lens {i = i} (ltb-false _ _ e), higher_stays (suc k))

  -- all heights
  higher_root : (k : ℕ) → Root k
  unfolding higher root_cell
  higher_root zero h i b t = refl
  higher_root (suc k) h i b t = root_by k (higher_root k) h i b t (ltb i (length lens)) refl

  -- after the right edge is filled
  root_of_lem : (k h : ℕ) (t : Tree h) (c : Bool) → leb (room_of fan h t) (length lens) ≡ c
      → root_of (grow fan k lens free h t)
      ≡ root_cell fan (length lens) (sizes lens) free k h (room_of fan h t) (space_of fan h t) (top_of h (fill fan h lens free t).0)
  unfolding grow
  root_of_lem k h t true e =
      rw (fill_lens fan h lens free t, (made_follows fan h lens free t).0, made_full fan one h lens free t (leb-true _ _ e))
      (higher_root k h (room_of fan h t) (space_of fan h t) (fill fan h lens free t).0)
  root_of_lem k h t false e =
      let l : length lens < room_of fan h t = leb-false _ _ e in
      rw (
        fill_lens fan h lens free t,
        drop_of_length-le lens {i = room_of fan h t} (omega arith),
        higher_stays k,
        cell_stays k h (room_of fan h t) (space_of fan h t) (top_of h (fill fan h lens free t).0) (omega arith),
      )

  -- what the root holds in the end
  pub root_is : (k h : ℕ) (t : Tree h) → root_of (grow fan k lens free h t)
      ≡ root_cell fan (length lens) (sizes lens) free k h (room_of fan h t) (space_of fan h t) (top_of h (fill fan h lens free t).0)
  root_is k h t = root_of_lem k h t (leb (room_of fan h t) (length lens)) refl

  -- a filled block of the right edge
  edge_next : (h k : ℕ) (l : List (Tree h)) → Ends l → top_of (suc h) (fill fan (suc h) lens free (k, l)).0 ≡ edge_cell fan lens free (suc h) (k, l)
  unfolding top_of fill edge_cell over_last of_end new_row places
  edge_next h k l none =
      rw (
        row_at_lem fan one lens free h (fresh_at_lem fan one lens free h) (fan - 0) 0 0,
        slots_row fan one lens free h
            (places fan (length lens) (fan - 0) h 0) 0 0,
      )
  edge_next h k l (last xs x) =
      let c : ℕ = fan - length (xs ++ x ∷ []) in
      let m : ℕ = places fan (length lens) c h (room_of fan h x) in
      rw (
        over_last_last (fill fan h) lens free xs x,
        place_row fan one lens free h c x (ltb (room_of fan h x) (length lens)) refl,
        of_end_last 0 (room_of fan h) xs x,
        of_end_last 0 (space_of fan h) xs x,
      )
      (rw (
        map-append (slot_of h) (xs ++ (fill fan h lens free x).0 ∷ []),
        map-append (slot_of h) xs ((fill fan h lens free x).0 ∷ []),
        map-append (slot_of h) xs (x ∷ []),
        fill_slot fan h lens free x,
        slots_row fan one lens free h m (room_of fan h x) (space_of fan h x),
      ))

  -- any tree of the right edge
  pub edge_is : (h : ℕ) (t : Tree h) → top_of h (fill fan h lens free t).0 ≡ edge_cell fan lens free h t
  unfolding top_of fill edge_cell
  edge_is zero t = refl
  edge_is (suc h) t = edge_next h t.0 t.1 (ends t.1)
