-- Leaf by leaf at the root: the count of leaves says whether there is room.
use mathlib.Core.Path.{◌≡◌, refl, sym, ap, ◌∙◌}
use mathlib.Core.Bool.{true, false}
use mathlib.Core.List.{List, [], ◌∷◌, ◌++◌, append-nil, map, map-append}
use Prim.Native.Nat.{ℕ, zero, suc, ◌+◌, ◌-◌, ◌*◌, ◌^◌, ◌≤◌}
use native.Mathlib.Nat.{pow-zero, pow-succ', one-le-pow, pow-le-pow_right, sub-zero, zero-sub, suc-sub-suc, add-zero}
use native.Mathlib.Omega.{arith}
use lib.Dec.{ltb}
use lib.ListN.{length, get_or, drop, replicate, length-append}
use borrow.Author.Tests.{lt-ltb, le-ltb, eq-eqb, ne_eqb}
use Rattle.laws_resize.specs.growth.Forms.{past}
use Rattle.laws.proofs.Positions.{joined_append}
use Rattle.meaning.specs.Lists.{pick, joined}
use Rattle.meaning.specs.Tree.{Tree, Blob, at_slot, slot_of, leaves, leaves_of}
use Rattle.meaning.specs.Resize.{lowest, chain, roomy, hang, raised, add_leaf, add_leaves}
use Rattle.laws_resize.specs.growth.Grow.{wider, higher, grow}
use Rattle.laws.proofs.Every.{Every}
use Rattle.laws_resize.specs.growth.Room.{count, Room}
use Rattle.laws_resize.proofs.growth.Grow.{hangs, row, hangs_room, hangs_none, hang_deeper, hang_here, roomy_row, pick_true, filled_by, row_by}

-- one more that has it
every_snoc : {A : Type 0} (P : A → Type 0) (xs : List A) (x : A) → Every P xs → P x → Every P (xs ++ x ∷ [])
every_snoc P [] x es e = (e, tt)
every_snoc P (y ∷ ys) x es e = (es.0, every_snoc P ys x es.1 e)

-- the leaves of full trees side by side
count_row : (fan h : ℕ) → ((t : Tree h) (r : ℕ) → Room fan h t r → count h t + r ≡ fan ^ h) → (xs : List (Tree h))
    → Every (λ x. Room fan h x 0) xs
    → length (joined (map (leaves h) xs)) ≡ length xs * fan ^ h
unfolding joined
count_row fan h ih [] es = omega arith
count_row fan h ih (x ∷ xs) es =
    rw (length-append (leaves h x)) (omega (arith, ih x 0 es.0, count_row fan h ih xs es.1))

-- the leaves there are and the room make the tree full
count_room : (fan h : ℕ) (t : Tree h) (r : ℕ) → Room fan h t r → count h t + r ≡ fan ^ h
unfolding leaves joined
count_room fan zero t r e = rw (e, pow-zero)
count_room fan (suc h) t r e =
    let z : fan ≡ length e.front + suc (fan - suc (length e.front)) = omega (arith, e.fits) in
    rw (e.split, map-append, joined_append, length-append, pow-succ', append-nil)
    (omega (
      arith,
      e.room,
      ap (λ n. n * fan ^ h) z,
      count_row fan h (count_room fan h) e.front e.full,
      count_room fan h e.end e.left
          e.last,
    ))

-- no room; room
no_places : (m each left : ℕ) → 1 ≤ each → 0 ≡ left + m * each → m ≡ 0
no_places zero each left one e = refl
no_places (suc m) each left one e = omega arith

no_room : (fan h : ℕ) → 1 ≤ fan → (t : Tree h) → Room fan h t 0 → roomy fan h t ≡ false
unfolding roomy pick
no_room fan zero one t e = refl
no_room fan (suc h) one t e =
    let m : fan - suc (length e.front) ≡ 0 = no_places (fan - suc (length e.front)) (fan ^ h) e.left (one-le-pow h fan one) e.room in
    let l : e.left ≡ 0 = omega (arith, e.room) in
    rw (e.split, roomy_row fan h t.0 e.front e.end, le-ltb (suc (length e.front)) fan (omega arith))
    (no_room fan h one e.end (rw l at e.last))

some_room : (fan h : ℕ) (t : Tree h) (r : ℕ) → Room fan h t (suc r) → roomy fan h t ≡ true
unfolding roomy pick
some_room fan zero t r e = absurd (omega arith)
some_room fan (suc h) t r e =
    rw (e.split, roomy_row fan h t.0 e.front e.end)
    (go (fan - suc (length e.front)) e.left refl refl e.last (some_room fan h e.end))
  where
    go : (m l : ℕ) → fan - suc (length e.front) ≡ m → e.left ≡ l → Room fan h e.end l
        → ((r : ℕ) → Room fan h e.end (suc r) → roomy fan h e.end ≡ true)
        → pick (ltb (suc (length e.front)) fan) true (roomy fan h e.end) ≡ true
    go (suc m) l em el last ih = rw (lt-ltb (suc (length e.front)) fan (omega arith))
    go zero (suc l) em el last ih = rw (ih l last) (pick_true fan h (ltb (suc (length e.front)) fan))
    go zero zero em el last ih = absurd (omega (arith, e.room, ap (λ n. n * fan ^ h) em))

-- a new chain has room for all but its one leaf
chain_room : (fan h : ℕ) → 1 ≤ fan → (d free : List ℕ) → Room fan h (chain h d free).made (fan ^ h - 1)
unfolding chain
chain_room fan zero one d free = rw pow-zero
chain_room fan (suc h) one d free = record {
  front = [];
  end = (chain h d (drop 1 free)).made;
  left = fan ^ h - 1;
  split = refl;
  full = tt;
  last = chain_room fan h one d (drop 1 free);
  fits = one;
  room = let z : fan ≡ suc (fan - 1) = omega arith in rw pow-succ' (omega (arith, one-le-pow h fan one, ap (λ n. n * fan ^ h) z));
}

-- room, but not in the last tree, is in places left
some_places : (m each left r : ℕ) → left ≡ 0 → suc r ≡ left + m * each → 1 ≤ m
some_places zero each left r l e = absurd (omega arith)
some_places (suc m) each left r l e = omega arith

-- a leaf more takes one of the room
hang_keeps : (fan h : ℕ) → 1 ≤ fan → (d free : List ℕ) (t : Tree h) (r : ℕ) → Room fan h t (suc r) → Room fan h (hang fan h d free t).made r
unfolding hang pick
hang_keeps fan zero one d free t r e = absurd (omega arith)
hang_keeps fan (suc h) one d free t r e = go e.left refl e.last (hang_keeps fan h one d free e.end)
  where
    go : (l : ℕ) → e.left ≡ l → Room fan h e.end l → ((r : ℕ) → Room fan h e.end (suc r) → Room fan h (hang fan h d free e.end).made r)
        → Room fan (suc h) (hang fan (suc h) d free t).made r
    go zero el last ih =
        rw (e.split, hang_here fan h d free t.0 e.front e.end (no_room fan h one e.end last))
        (let p : 1 ≤ fan - suc (length e.front) = some_places (fan - suc (length e.front)) (fan ^ h) e.left r el e.room in
        let n : length (e.front ++ e.end ∷ []) ≡ suc (length e.front) = simp length-append (omega arith) in
        let z : fan - suc (length e.front) ≡ suc (fan - suc (length (e.front ++ e.end ∷ []))) = omega arith in
        record {
          front = e.front ++ e.end ∷ [];
          end = (chain h d free).made;
          left = fan ^ h - 1;
          split = refl;
          full = every_snoc (λ x. Room fan h x 0) e.front e.end e.full last;
          last = chain_room fan h one d free;
          fits = omega arith;
          room = omega (arith, e.room, one-le-pow h fan one, ap (λ n. n * fan ^ h) z);
        })
    go (suc l) el last ih =
        rw (e.split, hang_deeper fan h d free t.0 e.front e.end (some_room fan h e.end l last))
        (record {
          front = e.front;
          end = (hang fan h d free e.end).made;
          left = l;
          split = refl;
          full = e.full;
          last = ih l last;
          fits = e.fits;
          room = omega (arith, e.room);
        })

-- room does not depend on the slot
moved_room : (fan h s : ℕ) (t : Tree h) (r : ℕ) → Room fan h t r → Room fan h (at_slot h s t) r
unfolding at_slot
moved_room fan zero s t r e = e
moved_room fan (suc h) s t r e = e

-- at a full tree nothing is hung
full_stays : (fan h : ℕ) → 1 ≤ fan → (ls free : List ℕ) (t : Tree h) → Room fan h t 0 → hangs fan h ls free t ≡ (t, ls, free)
unfolding hangs
full_stays fan h one [] free t e = refl
full_stays fan h one (l ∷ ls) free t e = hangs_none fan h l ls free t (no_room fan h one t e)

-- a full root that is raised has room beside it
raised_room : (fan h : ℕ) → 2 ≤ fan → (free : List ℕ) (t : Tree h) → Room fan h t 0 → Room fan (suc h) (raised h free t) ((fan - 1) * fan ^ h)
unfolding raised lowest
raised_room fan h two free t e = record {
  front = [];
  end = at_slot h (get_or free 0 past) t;
  left = 0;
  split = refl;
  full = tt;
  last = moved_room fan h (get_or free 0 past) t 0 e;
  fits = omega arith;
  room = omega arith;
}

-- a tree as a blob
abbrev pub blob : (h : ℕ) → Tree h → Blob
blob h t = record { height = h; tree = t }

module _ (fan : ℕ) (two : 2 ≤ fan) where
  -- with room the leaf is hung; with none the root is raised first
  add_wide : (h : ℕ) (d free : List ℕ) (t : Tree h) (r : ℕ) → Room fan h t (suc r)
      → add_leaf fan d (blob h t) free ≡ record { made = blob h (hang fan h d free t).made; free = (hang fan h d free t).free }
  unfolding add_leaf pick leaves_of hang
  add_wide h d free t r e = rw (ne_eqb (length (leaves h t)) (fan ^ h) (λ q. omega (arith, count_room fan h t (suc r) e)))

  -- which is room for a leaf or more
  tall_some : (h : ℕ) → (fan - 1) * fan ^ h ≡ suc ((fan - 1) * fan ^ h - 1)
  tall_some h = let z : fan - 1 ≡ suc (fan - 2) = omega arith in omega (arith, one-le-pow h fan (omega arith), ap (λ n. n * fan ^ h) z)

  add_tall : (h : ℕ) (d free : List ℕ) (t : Tree h) → Room fan h t 0
      → add_leaf fan d (blob h t) free ≡ add_leaf fan d (blob (suc h) (raised h free t)) (drop 1 free)
  unfolding add_leaf pick leaves_of hang
  add_tall h d free t e =
      rw (eq-eqb (length (leaves h t)) (fan ^ h) (omega (arith, count_room fan h t 0 e)))
      (sym (add_wide (suc h) d (drop 1 free) (raised h free t) ((fan - 1) * fan ^ h - 1) (rw (tall_some h) at (raised_room fan h two free t e))))

  -- while there is room, leaf by leaf is to hang
  record Filled (h : ℕ) (ls free : List ℕ) (t : Tree h) (r : ℕ) : Type 0 where
    pub same : add_leaves fan ls (blob h t) free
        ≡ add_leaves fan (hangs fan h ls free t).1 (blob h (hangs fan h ls free t).0) (hangs fan h ls free t).2
    pub rest : length (hangs fan h ls free t).1 ≡ length ls - r
    pub room : Room fan h (hangs fan h ls free t).0 (r - length ls)

  -- so it is
  add_filled : (h : ℕ) (ls free : List ℕ) (t : Tree h) (r : ℕ) → Room fan h t r → Filled h ls free t r
  unfolding hangs add_leaves
  add_filled h [] free t r e = record { same = refl; rest = omega arith; room = rw sub-zero e }
  add_filled h (l ∷ ls) free t zero e =
      let z = hangs_none fan h l ls free t (no_room fan h (omega arith) t e) in
      record { same = rw z; rest = rw z (omega arith); room = rw (z, zero-sub) e }
  add_filled h (l ∷ ls) free t (suc r) e =
      let a = hang fan h (replicate l 0) free t in
      let z = hangs_room fan h l ls free t (some_room fan h t r e) in
      let f = add_filled h ls a.free a.made r (hang_keeps fan h (omega arith) (replicate l 0) free t r e) in
      record {
        same = rw (z, add_wide h (replicate l 0) free t r e) f.same;
        rest = rw z (omega (arith, f.rest));
        room = rw (z, suc-sub-suc)
            f.room;
      }

  -- no length, no element
  empty : (l : List ℕ) → length l ≡ 0 → l ≡ []
  empty [] e = refl
  empty (x ∷ xs) e = absurd (omega arith)

  -- a full root, raised: hung at while there is room, it is the wider one
  wide_is : (h : ℕ) (ls free : List ℕ) (t : Tree h) → Room fan h t 0 → hangs fan (suc h) ls (drop 1 free) (raised h free t)
      ≡ wider fan h ls free t
  unfolding raised wider row lowest
  wide_is h ls free t e =
      row_by fan h (omega arith) ls (drop 1 free) (slot_of h t) [] (at_slot h (get_or free 0 past) t)
      ∙ rw (full_stays fan h (omega arith) ls (drop 1 free) (at_slot h (get_or free 0 past) t) (moved_room fan h (get_or free 0 past) t 0 e))

  -- leaf by leaf from a full root, or with no leaf left
  abbrev Higher : ℕ → Type 0
  Higher k = (h : ℕ) (lens free : List ℕ) (t : Tree h) (r : ℕ) → Room fan h t r → (1 ≤ length lens → r ≡ 0) → length lens + fan ^ h ≤ fan ^ (h + k)
      → add_leaves fan lens (blob h t) free ≡ higher fan k lens free h t

  -- a higher tree has no less room
  pow_more : (h k : ℕ) → fan ^ h ≤ fan ^ (h + k)
  pow_more h k = pow-le-pow_right {n = fan} (omega arith) (le h k)
    where
      le : (h k : ℕ) → h ≤ h + k
      le h k = omega arith

  -- it is to get higher
  higher_is : (k : ℕ) → Higher k
  unfolding higher add_leaves
  higher_is zero h lens free t r e none fits = rw (empty lens (omega (arith, ap (λ n. fan ^ n) (add-zero h))))
  higher_is (suc k) h [] free t r e none fits = refl
  higher_is (suc k) h (l ∷ ls) free t r e none fits =
      let z : r ≡ 0 = none (omega arith) in
      let e0 : Room fan h t 0 = rw z at e in
      let f = add_filled (suc h) (l ∷ ls) (drop 1 free) (raised h free t) ((fan - 1) * fan ^ h) (raised_room fan h two free t e0) in
      let p : h + suc k ≡ suc h + k = omega arith in
      let q : fan ≡ suc (fan - 1) = omega arith in
      rw (add_tall h (replicate l 0) free t e0, ← wide_is h (l ∷ ls) free t e0)
      (f.same ∙ higher_is k (suc h) _ _ _ _ f.room (λ m. omega (arith, f.rest))
      (omega (arith, f.rest, ap (λ n. fan ^ n) p, pow-succ' fan h, ap (λ n. n * fan ^ h) q, pow_more (suc h) k)))

  -- the whole: leaf by leaf, and all at once
  pub grown : (k h : ℕ) (lens free : List ℕ) (t : Tree h) (r : ℕ) → Room fan h t r → length lens + fan ^ h ≤ r + fan ^ (h + k)
      → add_leaves fan lens (blob h t) free ≡ grow fan k lens free h t
  unfolding grow
  grown k h lens free t r e fits =
      let f = add_filled h lens free t r e in
      rw (filled_by fan h (omega arith) lens free t, f.same)
      (higher_is k h _ _ _ _ f.room (λ m. omega (arith, f.rest)) (omega (arith, f.rest, pow_more h k)))
