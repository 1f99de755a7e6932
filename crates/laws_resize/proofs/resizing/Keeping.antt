-- The first n leaves of a tree and the blocks above them. Off the edge trees are full, so those before the cut are kept whole, and the one
-- that is cut is on the edge after. The bytes are the front of the old ones, and no slot is taken.
use mathlib.Core.Path.{◌≡◌, refl, sym, ap, ◌∙◌}
use mathlib.Core.Bool.{Bool, true, false}
use mathlib.Core.List.{List, [], ◌∷◌, ◌++◌, map, append-nil}
use Prim.Native.Nat.{ℕ, zero, suc, ◌-◌, ◌*◌, ◌≤◌}
use native.Mathlib.Nat.{mul-le-mul_left, mul-zero, mul-sub, sub-zero, zero-sub}
use native.Mathlib.Decide.{dec_le}
use native.Mathlib.Omega.{arith}
use lib.ListN.{length, length-append, take}
use lib.Seq.{take-nil, take_all}
use borrow.Author.Tests.{ne_eqb}
use Rattle.meaning.specs.declared.Edition.{Edition}
use Rattle.meaning.specs.Lists.{pick, joined}
use Rattle.meaning.specs.Tree.{Tree, slot_of, content, leaves}
use Rattle.meaning.specs.Shape.{least_count, most_count, InRow, ShapedTree}
use Rattle.meaning.specs.Resize.{keep_row, keep}
use Rattle.laws.proofs.Shapes.{OfTree, tree_counted}
use Rattle.laws_resize.proofs.resizing.Ends.{row_cons, some_child}
use Rattle.laws.proofs.TreeSlots.{slots, slots_inner}
use Rattle.laws_resize.proofs.resizing.SlotCounts.{times, times_append, times_cons}

-- the front of two lists in a row
take_append : {A : Type 0} (k : ℕ) (a b : List A) → take k (a ++ b) ≡ take k a ++ take (k - length a) b
take_append k [] b = rw (take-nil k, sub-zero k)
take_append zero (x ∷ a) b = rw (zero-sub (suc (length a)))
take_append (suc k) (x ∷ a) b =
    let p : suc k - suc (length a) ≡ k - length a = omega arith in
    rw p (ap (λ l. x ∷ l) (take_append k a b))

-- how many leaves a tree has
unfoldable count : (h : ℕ) → Tree h → ℕ
count h t = length (leaves h t)

-- the first n leaves of a row of trees
unfoldable kept : (h : ℕ) → ℕ → List (Tree h) → List (Tree h)
kept h n ts = keep_row (λ x. length (leaves h x)) (keep h) n ts

-- of no tree
kept_nil : (h n : ℕ) → kept h n [] ≡ []
unfolding kept keep_row
kept_nil h n = refl

-- no leaf
kept_none : (h : ℕ) (ts : List (Tree h)) → kept h 0 ts ≡ []
unfolding kept keep_row pick
kept_none h [] = refl
kept_none h (t ∷ ts) = refl

-- some of the first tree's, then of the others
kept_cons : (h n : ℕ) (t : Tree h) (ts : List (Tree h)) → 1 ≤ n → kept h n (t ∷ ts) ≡ keep h n t ∷ kept h (n - count h t) ts
unfolding kept keep_row pick count
kept_cons h n t ts some = rw (ne_eqb n 0 (λ z. omega arith))

-- no more trees than there were
kept_most : (h n : ℕ) (ts : List (Tree h)) → length (kept h n ts) ≤ length ts
kept_most h n [] = rw (kept_nil h n) (omega arith)
kept_most h zero (t ∷ ts) = rw (kept_none h (t ∷ ts)) (omega arith)
kept_most h (suc n) (t ∷ ts) = rw (kept_cons h (suc n) t ts (omega arith)) (omega (arith, kept_most h (suc n - count h t) ts))

-- a tree or more
kept_some : (h n : ℕ) (ts : List (Tree h)) → 1 ≤ n → 1 ≤ length ts → 1 ≤ length (kept h n ts)
kept_some h n [] some has = absurd (omega arith)
kept_some h n (t ∷ ts) some has = rw (kept_cons h n t ts some) (omega arith)

-- a tree kept is one above a row kept
keep_inner : (h n : ℕ) (t : Tree (suc h)) → keep (suc h) n t ≡ (t.0, kept h n t.1)
unfolding keep kept
keep_inner h n t = refl

-- the root stays in its slot
pub keep_slot : (h n : ℕ) (t : Tree h) → slot_of h (keep h n t) ≡ slot_of h t
unfolding keep slot_of
keep_slot zero n t = refl
keep_slot (suc h) n t = refl

-- no slot is taken by what is kept
pub keep_slots : (s h n : ℕ) (t : Tree h) → times s (slots h (keep h n t)) ≤ times s (slots h t)
unfolding joined
keep_slots s zero n t = unfold keep in omega arith
keep_slots s (suc h) n t =
    rw (keep_inner h n t, slots_inner h t.0 t.1, slots_inner h t.0 (kept h n t.1))
    (omega (
      arith,
      times_cons s t.0 (joined (map (slots h) t.1)),
      times_cons s t.0 (joined (map (slots h) (kept h n t.1))),
      row (keep_slots s h) n t.1,
    ))
  where
    row : ((n : ℕ) (t : Tree h) → times s (slots h (keep h n t)) ≤ times s (slots h t)) → (n : ℕ) (ts : List (Tree h))
        → times s (joined (map (slots h) (kept h n ts))) ≤ times s (joined (map (slots h) ts))
    row each n [] = rw (kept_nil h n) (omega arith)
    row each zero (t ∷ ts) = rw (kept_none h (t ∷ ts), times_append s (slots h t) (joined (map (slots h) ts))) (unfold times in omega arith)
    row each (suc n) (t ∷ ts) =
        rw (
          kept_cons h (suc n) t ts (omega arith),
          times_append s (slots h t) (joined (map (slots h) ts)),
          times_append s (slots h (keep h (suc n) t)) (joined (map (slots h) (kept h (suc n - count h t) ts))),
        ) (omega (arith, each (suc n) t, row each (suc n - count h t) ts))

module _ (e : Edition) (some : 1 ≤ e.leaf) (two : 2 ≤ e.fan) where
  -- a tree below the root has a leaf
  count_some : (h : ℕ) (edge : Bool) (t : Tree h) → ShapedTree e h false edge t → 1 ≤ count h t
  unfolding OfTree count
  count_some h edge t s = omega (arith, (tree_counted e some two h edge t s).low)

  -- a tree with no more leaves is kept whole
  unfoldable KeptWhole : ℕ → Type 0
  KeptWhole h = (edge : Bool) (t : Tree h) (n : ℕ) → ShapedTree e h false edge t → count h t ≤ n → keep h n t ≡ t

  -- a row of them too
  kept_whole : (h : ℕ) → KeptWhole h → (edge : Bool) (n : ℕ) (ts : List (Tree h)) → InRow (ShapedTree e h false) edge ts
      → length (joined (map (leaves h) ts)) ≤ n → kept h n ts ≡ ts
  unfolding KeptWhole InRow joined count
  kept_whole h each edge n [] r le = kept_nil h n
  kept_whole h each edge n (t ∷ []) r le =
      let l = length-append (leaves h t) [] in
      rw (kept_cons h n t [] (omega (arith, count_some h edge t r)), each edge t n r (omega arith), kept_nil h (n - count h t))
  kept_whole h each edge n (t ∷ (u ∷ us)) r le =
      let l = length-append (leaves h t) (joined (map (leaves h) (u ∷ us))) in
      rw (
        kept_cons h n t (u ∷ us) (omega (arith, count_some h false t r.0)),
        each false t n r.0 (omega arith),
        kept_whole h each edge (n - count h t) (u ∷ us) r.1 (omega arith),
      )

  -- at every height
  keep_whole : (h : ℕ) → KeptWhole h
  unfolding KeptWhole ShapedTree count leaves
  keep_whole zero edge t n s le = unfold keep in refl
  keep_whole (suc h) edge t n s le =
      keep_inner h n t ∙ ap (λ (l : List (Tree h)). (t.0, l)) (kept_whole h (keep_whole h) edge n t.1 s.2 le)

  -- what is kept of a tree is on the edge
  unfoldable pub KeptShaped : ℕ → Type 0
  KeptShaped h = (edge : Bool) (t : Tree h) (n : ℕ) → ShapedTree e h false edge t → 1 ≤ n → ShapedTree e h false true (keep h n t)

  -- and so is a row
  kept_row : (h : ℕ) → KeptShaped h → (edge : Bool) (n : ℕ) (ts : List (Tree h)) → InRow (ShapedTree e h false) edge ts → 1 ≤ n
      → InRow (ShapedTree e h false) true (kept h n ts)
  unfolding KeptShaped KeptWhole InRow
  kept_row h each edge n [] r low = rw (kept_nil h n) tt
  kept_row h each edge n (t ∷ []) r low = rw (kept_cons h n t [] low, kept_nil h (n - count h t)) (each edge t n r low)
  kept_row h each edge n (t ∷ (u ∷ us)) r low =
      rw (kept_cons h n t (u ∷ us) low) (by (kept_row h each edge (n - count h t) (u ∷ us) r.1) (dec_le n (count h t)))
    where
      by : (1 ≤ n - count h t → InRow (ShapedTree e h false) true (kept h (n - count h t) (u ∷ us)))
          → Dec (n ≤ count h t) → InRow (ShapedTree e h false) true (keep h n t ∷ kept h (n - count h t) (u ∷ us))
      by rest (yes p) =
          let z : n - count h t ≡ 0 = omega arith in
          rw (z, kept_none h (u ∷ us)) (each false t n r.0 low)
      by rest (no p) =
          row_cons (ShapedTree e h false) true (keep h n t) (kept h (n - count h t) (u ∷ us))
          (kept_some h (n - count h t) (u ∷ us) (omega arith) (omega arith))
          (rw (keep_whole h false t n r.0 (omega arith)) r.0) (rest (omega arith))

  -- an inner block with its row
  pub inner_shaped : (h : ℕ) → KeptShaped h → (root edge : Bool) (t : Tree (suc h)) (n : ℕ) → ShapedTree e (suc h) root edge t → 1 ≤ n
      → ShapedTree e (suc h) false true (keep (suc h) n t)
  unfolding ShapedTree most_count least_count pick
  inner_shaped h each root edge t n s low =
      rw (keep_inner h n t) (
        kept_some h n t.1 low (some_child e two h edge root _ s.0),
        omega (arith, kept_most h n t.1, s.1),
        kept_row h each edge n t.1 s.2 low,
      )

  -- at every height
  pub keep_shaped : (h : ℕ) → KeptShaped h
  unfolding KeptShaped ShapedTree most_count least_count pick
  keep_shaped zero true t n s low = unfold keep in s
  keep_shaped zero false t n s low = unfold keep in (omega arith, s.1)
  keep_shaped (suc h) edge t n s low = inner_shaped h (keep_shaped h) false edge t n s low

  -- the bytes of n leaves kept
  unfoldable pub KeptBytes : ℕ → Type 0
  KeptBytes h = (root edge : Bool) (t : Tree h) (n : ℕ) → ShapedTree e h root edge t → 1 ≤ n
      → content h (keep h n t) ≡ take (e.leaf * n) (content h t)

  -- and of a row
  kept_content : (h : ℕ) → KeptBytes h → (edge : Bool) (n : ℕ) (ts : List (Tree h)) → InRow (ShapedTree e h false) edge ts
      → joined (map (content h) (kept h n ts)) ≡ take (e.leaf * n) (joined (map (content h) ts))
  unfolding KeptBytes InRow joined OfTree
  kept_content h each edge n [] r = rw (kept_nil h n) (sym (take-nil (e.leaf * n)))
  kept_content h each edge zero (t ∷ ts) r = rw (kept_none h (t ∷ ts), mul-zero e.leaf)
  kept_content h each edge (suc n) (t ∷ []) r =
      rw (
        kept_cons h (suc n) t [] (omega arith),
        kept_nil h (suc n - count h t),
        append-nil (content h (keep h (suc n) t)),
        append-nil (content h t),
      ) (each false edge t (suc n) r (omega arith))
  kept_content h each edge (suc n) (t ∷ (u ∷ us)) r =
      let full : length (content h t) ≡ e.leaf * count h t = unfold count in ((tree_counted e some two h false t r.0).full refl).1 in
      rw (
        kept_cons h (suc n) t (u ∷ us) (omega arith),
        each false false t (suc n) r.0 (omega arith),
        take_append (e.leaf * suc n) (content h t) (joined (map (content h) (u ∷ us))),
        full,
        kept_content h each edge (suc n - count h t) (u ∷ us) r.1,
        mul-sub e.leaf (suc n) (count h t),
      )

  -- at every height
  pub keep_content : (h : ℕ) → KeptBytes h
  unfolding KeptBytes ShapedTree content most_count
  keep_content zero root edge t n s low =
      unfold keep in sym (take_all (e.leaf * n) t.1 (omega (arith, mul-le-mul_left e.leaf low, s.1)))
  keep_content (suc h) root edge t n s low =
      rw (keep_inner h n t) (kept_content h (keep_content h) edge n t.1 s.2)
