-- One leaf more. A chain of new blocks hangs at the lowest block of the right edge that has room; if none has, then every leaf's place is
-- taken and the root's row goes into a new block beneath it. Where all leaves are full before, the blob keeps its shape, the bytes of the
-- new leaf come after the others, and the new blocks stand in the first free slots.
use mathlib.Core.Path.{◌≡◌, refl, sym, ap, ◌∙◌}
use mathlib.Core.Bool.{Bool, true, false, true≢false}
use mathlib.Core.List.{List, [], ◌∷◌, ◌++◌, map, append-nil, append_assoc}
use Prim.Native.Nat.{ℕ, zero, suc, ◌+◌, ◌*◌, ◌^◌, ◌≤◌, ◌<◌}
use native.Mathlib.Nat.{mul-le-mul_left, pow-suc, pow-zero, one-le-pow}
use native.Mathlib.Omega.{arith}
use lib.Dec.{ltb}
use lib.ListN.{length, length-append, take, drop}
use borrow.Author.Tests.{ltb-true, ltb-false}
use Rattle.meaning.specs.declared.Edition.{Edition}
use Rattle.meaning.specs.Lists.{pick, joined, of_last}
use Rattle.meaning.specs.Tree.{Tree, slot_of, at_slot, content, leaves}
use Rattle.meaning.specs.Shape.{least_count, most_count, InRow, ShapedTree}
use Rattle.meaning.specs.Resize.{Grown, lowest, chain, on_last, roomy, hang}
use Rattle.laws.proofs.Shapes.{OfRow, row_counted}
use Rattle.laws_resize.proofs.resizing.Ends.{by_last, length_snoc, joined_snoc, on_last_snoc, of_last_snoc, row_snoc, row_apart, some_child}
use Rattle.laws.proofs.TreeSlots.{slots, slots_leaf, slots_inner}
use Rattle.laws_resize.proofs.resizing.SlotCounts.{row_size, row_times, times}
use Rattle.laws_resize.proofs.resizing.SlotCounts.{Grows}

-- a tree in another slot has the same shape
pub moved_shaped : (e : Edition) (h : ℕ) (root edge : Bool) (s : ℕ) (t : Tree h) → ShapedTree e h root edge t → ShapedTree e h root edge (at_slot h s t)
unfolding ShapedTree at_slot
moved_shaped e zero root edge s t p = p
moved_shaped e (suc h) root edge s t p = p

-- and the same bytes
pub moved_content : (h s : ℕ) (t : Tree h) → content h (at_slot h s t) ≡ content h t
unfolding at_slot content
moved_content zero s t = refl
moved_content (suc h) s t = refl

-- and as much room
pub moved_roomy : (fan h s : ℕ) (t : Tree h) → roomy fan h (at_slot h s t) ≡ roomy fan h t
unfolding roomy at_slot
moved_roomy fan zero s t = refl
moved_roomy fan (suc h) s t = refl

-- a chain takes a slot for each height
chain_size : (h : ℕ) (d free : List ℕ) → length (slots h (chain h d free).made) ≡ suc h
unfolding chain joined
chain_size zero d free = rw slots_leaf
chain_size (suc h) d free =
    rw (slots_inner h _ _, append-nil (slots h (chain h d (drop 1 free)).made)) (ap suc (chain_size h d (drop 1 free)))

-- the first free ones
chain_slots : (h : ℕ) (d free : List ℕ) → suc h ≤ length free → slots h (chain h d free).made ≡ take (suc h) free
unfolding chain joined lowest
chain_slots zero d [] some = absurd (omega arith)
chain_slots zero d (x ∷ free) some = slots_leaf (x, d)
chain_slots (suc h) d [] some = absurd (omega arith)
chain_slots (suc h) d (x ∷ free) some =
    slots_inner h x ((chain h d free).made ∷ []) ∙ rw (append-nil (slots h (chain h d free).made), chain_slots h d free (omega arith))

-- and leaves the others
chain_rest : (h : ℕ) (d free : List ℕ) → (chain h d free).free ≡ drop (suc h) free
unfolding chain
chain_rest zero d free = refl
chain_rest (suc h) d [] = chain_rest h d []
chain_rest (suc h) d (x ∷ free) = chain_rest h d free

-- a chain's bytes are its leaf's
chain_content : (h : ℕ) (d free : List ℕ) → content h (chain h d free).made ≡ d
unfolding chain content joined
chain_content zero d free = refl
chain_content (suc h) d free = append-nil (content h (chain h d (drop 1 free)).made) ∙ chain_content h d (drop 1 free)

-- neither test holds
pick_false : (a b : Bool) → pick a true b ≡ false → (a ≡ false) × (b ≡ false)
unfolding pick
pick_false true b is = absurd (true≢false is)
pick_false false b is = (refl, is)

-- the first test holds if the second does not
pick_true : (a b : Bool) → pick a true b ≡ true → b ≡ false → a ≡ true
unfolding pick
pick_true true b is off = refl
pick_true false b is off = absurd (true≢false (sym is ∙ off))

-- what a test for room says of n leaves where m have their place
unfoldable pub Room : Bool → ℕ → ℕ → Type 0
Room true n m = n < m
Room false n m = m ≤ n

-- it says the same where both differ by as many
room_as : (b : Bool) (n m n' m' : ℕ) → Room b n m → n' + m ≡ n + m' → Room b n' m'
unfolding Room
room_as true n m n' m' r is = omega arith
room_as false n m n' m' r is = omega arith

-- all places taken: no room
pub room_none : (b : Bool) (n m : ℕ) → Room b n m → n ≡ m → b ≡ false
unfolding Room
room_none true n m r is = absurd (omega arith)
room_none false n m r is = refl

-- some left: room
pub room_some : (b : Bool) (n m : ℕ) → Room b n m → n ≤ m → (n ≡ m → ⊥) → b ≡ true
unfolding Room
room_some true n m r le ne = refl
room_some false n m r le ne = absurd (ne (omega arith))

-- a hang at the last child
hang_deep : (fan h r : ℕ) (d free : List ℕ) (ts : List (Tree h)) → of_last (roomy fan h) ts ≡ true
    → hang fan (suc h) d free (r, ts) ≡ record { made = (r, (on_last (hang fan h d free) ts free).made); free = (on_last (hang fan h d free) ts free).free }
unfolding hang pick
hang_deep fan h r d free ts on = rw on

-- or behind it
hang_broad : (fan h r : ℕ) (d free : List ℕ) (ts : List (Tree h)) → of_last (roomy fan h) ts ≡ false
    → hang fan (suc h) d free (r, ts) ≡ record { made = (r, ts ++ ((chain h d free).made ∷ [])); free = (chain h d free).free }
unfolding hang pick
hang_broad fan h r d free ts off = rw off

-- the root stays in its slot
pub hang_slot : (fan h : ℕ) (d free : List ℕ) (t : Tree h) → slot_of h (hang fan h d free t).made ≡ slot_of h t
unfolding hang slot_of pick
hang_slot fan zero d free t = refl
hang_slot fan (suc h) d free t = by (of_last (roomy fan h) t.1) refl
  where
    by : (b : Bool) → of_last (roomy fan h) t.1 ≡ b → slot_of (suc h) (hang fan (suc h) d free t).made ≡ t.0
    by true is = rw is
    by false is = rw is

module _ (e : Edition) (some : 1 ≤ e.leaf) (two : 2 ≤ e.fan) where
  -- all leaves of a tree are full
  unfoldable pub Full : (h : ℕ) → Tree h → Type 0
  Full h t = length (content h t) ≡ e.leaf * length (leaves h t)

  -- a chain is shaped as a tree on the edge
  chain_shaped : (h : ℕ) (d free : List ℕ) → 1 ≤ length d → length d ≤ e.leaf → ShapedTree e h false true (chain h d free).made
  unfolding chain ShapedTree least_count most_count pick InRow
  chain_shaped zero d free low high = (low, high)
  chain_shaped (suc h) d free low high = (omega arith, omega arith, chain_shaped h d (drop 1 free) low high)

  -- the last of a row of trees whose leaves are all full
  full_last : (h : ℕ) (front : List (Tree h)) (x : Tree h) → InRow (ShapedTree e h false) false front
      → length (joined (map (content h) (front ++ (x ∷ [])))) ≡ e.leaf * length (joined (map (leaves h) (front ++ (x ∷ [])))) → Full h x
  unfolding Full OfRow
  full_last h front x r is =
      let m = (row_counted e some two h false front r).full refl in
      let is' = rw (
        joined_snoc (content h) front x,
        joined_snoc (leaves h) front x,
        length-append (joined (map (content h) front)) (content h x),
        length-append (joined (map (leaves h) front)) (leaves h x),
      ) at is in
      omega (arith, m.1)

  -- the test for room tells whether all places are taken
  unfoldable pub Told : ℕ → Type 0
  Told h = (root : Bool) (t : Tree h) → ShapedTree e h root true t → Room (roomy e.fan h t) (length (leaves h t)) (e.fan ^ h)

  -- in a row, if it does in each tree
  told_row : (h : ℕ) → Told h → (ts : List (Tree h)) → 1 ≤ length ts → InRow (ShapedTree e h false) true ts
      → Room (of_last (roomy e.fan h) ts) (length (joined (map (leaves h) ts))) (e.fan ^ h * length ts)
  unfolding Told OfRow
  told_row h each = by_last (λ ts. InRow (ShapedTree e h false) true ts
      → Room (of_last (roomy e.fan h) ts) (length (joined (map (leaves h) ts))) (e.fan ^ h * length ts))
      (λ front x r.
      let a = row_apart (ShapedTree e h false) true front x r in
      let m = (row_counted e some two h false front a.0).full refl in
      rw (
        of_last_snoc (roomy e.fan h) front x,
        joined_snoc (leaves h) front x,
        length-append (joined (map (leaves h) front)) (leaves h x),
        length_snoc front x,
      ) (room_as _ _ _ _ _ (each false x a.1) (omega (arith, m.0))))

  -- at every height
  pub told : (h : ℕ) → Told h
  unfolding Told OfRow roomy leaves ShapedTree Room pick most_count
  told zero root t s = omega (arith, pow-zero e.fan)
  told (suc h) root t s =
      by (ltb (length t.1) e.fan) refl (told_row h (told h) t.1 (some_child e two h true root _ s.0) s.2)
    where
      n : ℕ
      n = length (joined (map (leaves h) t.1))

      by : (b : Bool) → ltb (length t.1) e.fan ≡ b → Room (of_last (roomy e.fan h) t.1) n (e.fan ^ h * length t.1)
          → Room (pick b true (of_last (roomy e.fan h) t.1)) n (e.fan ^ suc h)
      by true is r =
          omega (
            arith,
            (row_counted e some two h true t.1 s.2).high,
            mul-le-mul_left (e.fan ^ h) (ltb-true (length t.1) e.fan is),
            pow-suc e.fan h,
            one-le-pow h e.fan (omega arith),
          )
      by false is r =
          let c : length t.1 ≡ e.fan = omega (arith, ltb-false (length t.1) e.fan is, s.1) in
          room_as (of_last (roomy e.fan h) t.1) n (e.fan ^ h * length t.1) n (e.fan ^ suc h) r
          (omega (arith, pow-suc e.fan h, ap (λ (x : ℕ). e.fan ^ h * x) c))

  -- no room and full leaves: the tree has its shape off the edge too
  unfoldable pub Whole : ℕ → Type 0
  Whole h = (root : Bool) (t : Tree h) → ShapedTree e h root true t → roomy e.fan h t ≡ false → Full h t → ShapedTree e h false false t

  -- a row, if each tree has
  whole_row : (h : ℕ) → Whole h → (ts : List (Tree h)) → 1 ≤ length ts → InRow (ShapedTree e h false) true ts
      → of_last (roomy e.fan h) ts ≡ false → length (joined (map (content h) ts)) ≡ e.leaf * length (joined (map (leaves h) ts))
      → InRow (ShapedTree e h false) false ts
  unfolding Whole
  whole_row h each = by_last (λ ts. InRow (ShapedTree e h false) true ts → of_last (roomy e.fan h) ts ≡ false
      → length (joined (map (content h) ts)) ≡ e.leaf * length (joined (map (leaves h) ts)) → InRow (ShapedTree e h false) false ts)
      (λ front x r off f.
      let a = row_apart (ShapedTree e h false) true front x r in
      row_snoc (ShapedTree e h false) false front x a.0
      (each false x a.1 (sym (of_last_snoc (roomy e.fan h) front x) ∙ off) (full_last h front x a.0 f)))

  -- at every height
  pub whole : (h : ℕ) → Whole h
  unfolding Whole Full roomy ShapedTree least_count most_count pick content leaves
  whole zero root t s off f = (omega arith, s.1)
  whole (suc h) root t s off f =
      let p = pick_false (ltb (length t.1) e.fan) _ off in (
        ltb-false (length t.1) e.fan p.0,
        s.1,
        whole_row h (whole h) t.1 (some_child e two h true root _ s.0) s.2 p.1 f,
      )

  -- a leaf with such bytes is hung in a tree
  pub record Hung (h : ℕ) (root : Bool) (d free : List ℕ) (t : Tree h) (new : Grown (Tree h)) : Type 0 where
    pub shaped : ShapedTree e h root true new.made
    pub bytes : content h new.made ≡ content h t ++ d
    pub grows : Grows free (slots h t) (slots h new.made) new.free

  module _ (d free : List ℕ) (low : 1 ≤ length d) (high : length d ≤ e.leaf) where
    -- behind a row of full trees
    pub hung_broad : (h : ℕ) (root : Bool) (r : ℕ) (ts : List (Tree h)) → of_last (roomy e.fan h) ts ≡ false → InRow (ShapedTree e h false) false ts
        → length ts < e.fan → least_count e (suc h) true root ≤ suc (length ts) → Hung (suc h) root d free (r, ts) (hang e.fan (suc h) d free (r, ts))
    unfolding ShapedTree most_count content
    hung_broad h root r ts off row room fits =
        let new = (chain h d free).made in
        rw (hang_broad e.fan h r d free ts off) (record {
          shaped = (
            rw (length_snoc ts new) fits,
            rw (length_snoc ts new) room,
            row_snoc (ShapedTree e h false) true ts new row (chain_shaped h d free low high),
          );
          bytes = rw (joined_snoc (content h) ts new, chain_content h d free);
          grows = record {
            k = suc h;
            more = omega (arith, row_size h r ts new, chain_size h d free);
            taken = λ enough s. omega (arith, row_times s h r ts new, ap (times s) (chain_slots h d free enough));
            left = chain_rest h d free;
          };
        })

    -- every tree on the edge that has room and full leaves takes the new leaf
    unfoldable pub Hangs : ℕ → Type 0
    Hangs h = (root : Bool) (t : Tree h) → ShapedTree e h root true t → roomy e.fan h t ≡ true → Full h t
        → Hung h root d free t (hang e.fan h d free t)

    -- a row, if its last tree does
    hangs_row : (h : ℕ) → Hangs h → (root : Bool) (r : ℕ) (ts : List (Tree h)) → 1 ≤ length ts → ShapedTree e (suc h) root true (r, ts)
        → roomy e.fan (suc h) (r, ts) ≡ true → Full (suc h) (r, ts) → Hung (suc h) root d free (r, ts) (hang e.fan (suc h) d free (r, ts))
    unfolding Hangs Full ShapedTree content leaves most_count roomy
    hangs_row h each root r = by_last (λ ts. ShapedTree e (suc h) root true (r, ts) → roomy e.fan (suc h) (r, ts) ≡ true → Full (suc h) (r, ts)
        → Hung (suc h) root d free (r, ts) (hang e.fan (suc h) d free (r, ts)))
        (λ front x s room f. by front x s room f (roomy e.fan h x) refl)
      where
        by : (front : List (Tree h)) (x : Tree h) → ShapedTree e (suc h) root true (r, front ++ (x ∷ []))
            → roomy e.fan (suc h) (r, front ++ (x ∷ [])) ≡ true → Full (suc h) (r, front ++ (x ∷ [])) → (b : Bool) → roomy e.fan h x ≡ b
            → Hung (suc h) root d free (r, front ++ (x ∷ [])) (hang e.fan (suc h) d free (r, front ++ (x ∷ [])))
        by front x s room f true is =
            let a = row_apart (ShapedTree e h false) true front x s.2 in
            let g = each false x a.1 is (full_last h front x a.0 f) in
            let u = (hang e.fan h d free x).made in
            let now : hang e.fan (suc h) d free (r, front ++ (x ∷ [])) ≡ record { made = (r, front ++ (u ∷ [])); free = (hang e.fan h d free x).free } =
            hang_deep e.fan h r d free (front ++ (x ∷ [])) (of_last_snoc (roomy e.fan h) front x ∙ is)
            ∙ rw (on_last_snoc (hang e.fan h d free) front x free) in
            rw now (record {
              shaped = (
                omega (arith, length_snoc front u, length_snoc front x, s.0),
                omega (arith, length_snoc front u, length_snoc front x, s.1),
                row_snoc (ShapedTree e h false) true front u a.0 g.shaped,
              );
              bytes = rw (joined_snoc (content h) front u, joined_snoc (content h) front x, g.bytes)
                  (sym (append_assoc (joined (map (content h) front)) (content h x) d));
              grows = record {
                k = g.grows.k;
                more = omega (arith, row_size h r front u, row_size h r front x, g.grows.more);
                taken = λ enough s. omega (arith, row_times s h r front u, row_times s h r front x, g.grows.taken enough s);
                left = g.grows.left;
              };
            })
        by front x s room f false is =
            let l = front ++ (x ∷ []) in
            let off = of_last_snoc (roomy e.fan h) front x ∙ is in
            hung_broad h root r l off (whole_row h (whole h) l (rw length_snoc (omega arith)) s.2 off f)
            (ltb-true (length l) e.fan (pick_true (ltb (length l) e.fan) _ room off)) (omega (arith, s.0))

    -- at every height
    pub hangs : (h : ℕ) → Hangs h
    unfolding Hangs roomy ShapedTree
    hangs zero root t s room f = absurd (true≢false (sym room))
    hangs (suc h) root t s room f = hangs_row h (hangs h) root t.0 t.1 (some_child e two h true root _ s.0) s room f
