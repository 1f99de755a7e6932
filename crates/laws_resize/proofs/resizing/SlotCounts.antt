-- How often a slot stands in a list: what a resize takes and gives back is told by these counts. A tree that grows
-- takes the first free slots, as many as it has blocks more; what grows twice takes them one part after the other.
use mathlib.Core.Path.{◌≡◌, refl, sym, ap, ◌∙◌}
use mathlib.Core.List.{List, [], ◌∷◌, ◌++◌, Memᴰ}
use Prim.Native.Nat.{ℕ, suc, ◌+◌, ◌≤◌}
use native.Mathlib.Omega.{arith}
use lib.Dec.{eqb}
use lib.ListN.{length, length-append, length-drop, take, drop}
use lib.Seq.{drop-drop, take-add}
use borrow.Author.Tests.{eq-eqb, eqb-true}
use Rattle.meaning.specs.Lists.{pick}
use Rattle.meaning.specs.Tree.{Tree, Blob, slots_of, length_of}
use Rattle.meaning.specs.declared.Edition.{Edition}
use Rattle.meaning.specs.Shape.{leaves_for, total, Shaped}
use Rattle.laws.proofs.Shapes.{shaped_leaves, shaped_slots}
use Rattle.laws.proofs.Inversions.{by_test}
use Rattle.laws.proofs.TreeSlots.{slots, slots_inner}
use Rattle.laws_resize.proofs.resizing.Ends.{joined_snoc}

-- how often s stands in a list
unfoldable pub times : ℕ → List ℕ → ℕ
times s [] = 0
times s (x ∷ xs) = pick (eqb x s) 1 0 + times s xs

-- in two lists in a row
pub times_append : (s : ℕ) (a b : List ℕ) → times s (a ++ b) ≡ times s a + times s b
unfolding times
times_append s [] b = omega arith
times_append s (x ∷ a) b = omega (arith, times_append s a b)

-- one more in front
pub times_cons : (s x : ℕ) (l : List ℕ) → times s (x ∷ l) ≡ times s (x ∷ []) + times s l
times_cons s x l = times_append s (x ∷ []) l

-- what is in a list stands there once or more
pub member_times : (s : ℕ) {l : List ℕ} → Memᴰ s l → 1 ≤ times s l
unfolding times pick
member_times s (Memᴰ.head {x = x} {xs = l} q) = rw (eq-eqb x s (sym q)) (omega arith)
member_times s (Memᴰ.tail {x = x} {xs = l} m) = omega (arith, member_times s m)

-- and the other way round
pub times_member : (s : ℕ) (l : List ℕ) → 1 ≤ times s l → Memᴰ s l
unfolding times pick
times_member s [] h = absurd (omega arith)
times_member s (x ∷ l) h =
    by_test (eqb x s) (λ t. Memᴰ.head (sym (eqb-true x s t))) (λ t. Memᴰ.tail (times_member s l (omega (arith, rw t at h))))

-- the slots of one more child come last
row_slots_lem : (h r : ℕ) (front : List (Tree h)) (x : Tree h) → slots (suc h) (r, front ++ (x ∷ [])) ≡ slots (suc h) (r, front) ++ slots h x
row_slots_lem h r front x = slots_inner h r (front ++ (x ∷ [])) ∙ rw (joined_snoc (slots h) front x, slots_inner h r front)

-- so many more are they
pub row_size : (h r : ℕ) (front : List (Tree h)) (x : Tree h)
    → length (slots (suc h) (r, front ++ (x ∷ []))) ≡ length (slots (suc h) (r, front)) + length (slots h x)
row_size h r front x = ap length (row_slots_lem h r front x) ∙ length-append (slots (suc h) (r, front)) (slots h x)

-- and s so often more
pub row_times : (s h r : ℕ) (front : List (Tree h)) (x : Tree h)
    → times s (slots (suc h) (r, front ++ (x ∷ []))) ≡ times s (slots (suc h) (r, front)) + times s (slots h x)
row_times s h r front x = ap (times s) (row_slots_lem h r front x) ∙ times_append s (slots (suc h) (r, front)) (slots h x)

-- a tree's slots grow by k, the first k of the free ones
pub record Grows (free before after rest : List ℕ) : Type 0 where
  pub k : ℕ
  pub more : length after ≡ length before + k
  pub taken : k ≤ length free → (s : ℕ) → times s after ≡ times s before + times s (take k free)
  pub left : rest ≡ drop k free

-- nothing grown
pub grows_none : (free before : List ℕ) → Grows free before before free
unfolding times
grows_none free before = record { k = 0; more = omega arith; taken = λ enough s. omega arith; left = refl }

-- grown twice
pub grows_then : (free a b free' c rest : List ℕ) → Grows free a b free' → Grows free' b c rest → Grows free a c rest
grows_then free a b free' c rest g g' = record {
  k = g.k + g'.k;
  more = omega (arith, g.more, g'.more);
  taken = λ enough s.
      let fits : g'.k ≤ length free' = rw (g.left, length-drop g.k free) (omega arith) in
      rw (take-add g.k g'.k free, times_append s (take g.k free) (take g'.k (drop g.k free)))
      (omega (arith, g.taken (omega arith) s, g'.taken fits s, ap (λ (l : List ℕ). times s (take g'.k l)) g.left));
  left = g'.left ∙ rw g.left (drop-drop g'.k g.k free);
}

-- a shaped blob has as many slots as its length needs
pub slots_for : (e : Edition) → 1 ≤ e.leaf → 2 ≤ e.fan → (b : Blob) → Shaped e b
    → length (slots_of b) ≡ total e.fan (leaves_for e.leaf (length_of b))
slots_for e some two b s = shaped_slots e some two b s ∙ ap (total e.fan) (shaped_leaves e some two b s)
