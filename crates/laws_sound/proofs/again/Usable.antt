-- Usable slots: free, with a version left, below the pool's end, each listed once. The lowest one is one of them, if there is one.
use mathlib.Core.Path.{◌≡◌, refl}
use mathlib.Core.Bool.{Bool, true}
use mathlib.Core.List.{List, [], ◌∷◌}
use Prim.Native.Nat.{ℕ, ◌≤◌, ◌<◌}
use native.Mathlib.Omega.{arith}
use borrow.Author.Tests.{eqb-true, ltb-true}
use lib.Dec.{eqb}
use lib.ListN.{length}
use Rattle.meaning.specs.declared.Edition.{Edition}
use Rattle.meaning.specs.Lists.{pick, range, filter}
use Rattle.meaning.specs.Bytes.{state, recorded, last_version, usable_slot}
use Rattle.meaning.specs.Resize.{lowest}
use Rattle.meaning.specs.Calls.{usable}
use Rattle.laws.proofs.Inversions.{by_test, both_true}
use Rattle.laws_resize.proofs.resizing.SlotCounts.{times, times_cons}
use Rattle.laws_sound.proofs.sound.TimesListed.{times_same, Each, each_none, each_more, range_within, range_once, times_filter}

-- a slot that may be taken
pub record Usable (N : ℕ) (R : List ℕ) (s : ℕ) : Type 0 where
  pub within : s < N
  pub free : state R s ≡ 0
  pub young : recorded R s < last_version

-- what is there after a test passed it
filter_passed : (p : ℕ → Bool) (l : List ℕ) → Each (λ s. p s ≡ true) (filter p l)
unfolding filter pick
filter_passed p [] = each_none (λ s. p s ≡ true)
filter_passed p (x ∷ l) =
    by_test (p x)
    (λ t. rw t (each_more (λ s. p s ≡ true) x (filter p l) t (filter_passed p l)))
    (λ t. rw t (filter_passed p l))

module _ (e : Edition) (N : ℕ) (P R : List ℕ) where
  -- each usable slot may be taken
  pub usable_each : Each (Usable N R) (usable e N P R)
  unfolding usable usable_slot
  usable_each s h =
      let t = both_true (eqb (state R s) 0) _ (filter_passed (usable_slot R) (range 0 N) s h) in
      record {
        within = omega (arith, (range_within 0 N s (omega (arith, times_filter (usable_slot R) s (range 0 N)))).1);
        free = eqb-true (state R s) 0 t.0;
        young = ltb-true (recorded R s) last_version t.1;
      }

  -- and is listed once
  pub usable_once : (s : ℕ) → times s (usable e N P R) ≤ 1
  unfolding usable
  usable_once s = omega (arith, times_filter (usable_slot R) s (range 0 N), range_once 0 N s)

-- the lowest of some slots is one of them
pub lowest_in : (l : List ℕ) → 1 ≤ length l → 1 ≤ times (lowest l) l
unfolding lowest
lowest_in [] h = absurd (omega arith)
lowest_in (x ∷ l) h = omega (arith, times_cons x x l, times_same x x refl)
