-- The free slots in rising order, and the loop's counter.
use mathlib.Core.Path.{◌≡◌, refl, ap, ◌∙◌}
use mathlib.Core.Bool.{Bool, true, false}
use mathlib.Core.List.{List, [], ◌∷◌, ◌++◌}
use Prim.Native.Nat.{ℕ, zero, suc, ◌+◌, ◌-◌, ◌≤◌, ◌<◌}
use native.Mathlib.Nat.{zero-add}
use native.Mathlib.Omega.{arith}
use lib.ListN.{length, get_or, length-append}
use lib.Seq.{get_or-append_seam}
use Rattle.laws_resize.specs.growth.Forms.{past}
use lib.Dec.{eqb, ltb}
use borrow.Author.Tests.{eqb-true}
use Rattle.laws.proofs.Inversions.{both_true}
use Rattle.laws.proofs.Ranges.{filter_append, range_append}
use Rattle.meaning.specs.Bytes.{state, recorded, last_version, usable_slot}
use Rattle.meaning.specs.Lists.{pick, range, filter}
use Rattle.laws_resize.proofs.growth.HeldInTheEnd.{Apart}

-- a usable slot is free
pub usable_free : (R : List ℕ) (s : ℕ) → usable_slot R s ≡ true → state R s ≡ 0
unfolding usable_slot
usable_free R s good = eqb-true (state R s) 0 (both_true (eqb (state R s) 0) (ltb (recorded R s) last_version) good).0

module _ (p : ℕ → Bool) where
  -- a slot that may be taken is the free slot whose number is the count of those below it
  around : (s N : ℕ) → s < N → p s ≡ true → filter p (range 0 N) ≡ filter p (range 0 s) ++ s ∷ filter p (range (suc s) (N - suc s))
  unfolding filter pick range
  around s N less good =
      let z : N ≡ s + suc (N - suc s) = omega arith in
      ap (λ n. filter p (range 0 n)) z ∙ ap (filter p) (range_append 0 s (suc (N - suc s))) ∙ filter_append p (range 0 s) _ ∙ rw (zero-add s, good)

  pub counter : (s N : ℕ) → s < N → p s ≡ true → get_or (filter p (range 0 N)) (length (filter p (range 0 s))) past ≡ s
  counter s N less good = rw (around s N less good) (get_or-append_seam (filter p (range 0 s)) s _ past)

  -- it is one of those in the list
  pub counter_less : (s N : ℕ) → s < N → p s ≡ true → length (filter p (range 0 s)) < length (filter p (range 0 N))
  counter_less s N less good = rw (around s N less good, length-append) (omega arith)

  -- all from a on, and none twice
  record Rising (a : ℕ) (l : List ℕ) : Type 0 where
    from : (i : ℕ) → i < length l → a ≤ get_or l i past
    apart : Apart (length l) l

  -- one more in front
  rising_more : (a : ℕ) (l : List ℕ) → Rising (suc a) l → Rising a (a ∷ l)
  rising_more a l r = record { from = from; apart = apart }
    where
      from : (i : ℕ) → i < length (a ∷ l) → a ≤ get_or (a ∷ l) i past
      from zero less = omega arith
      from (suc i) less = omega (arith, r.from i (omega arith))

      apart : (i j : ℕ) → i < j → j < length (a ∷ l) → get_or (a ∷ l) j past ≡ get_or (a ∷ l) i past → ⊥
      apart i zero less most e = omega arith
      apart zero (suc j) less most e = omega (arith, r.from j (omega arith))
      apart (suc i) (suc j) less most e = r.apart i j (omega arith) (omega arith) e

  -- so is every filtered range
  rising_by : (a n : ℕ) → Rising a (filter p (range a n))
  unfolding filter range pick
  rising_by a zero = record { from = λ i less. omega arith; apart = λ i j less most e. omega arith }
  rising_by a (suc n) = go (p a) (rising_by (suc a) n)
    where
      go : (c : Bool) → Rising (suc a) (filter p (range (suc a) n)) → Rising a (pick c (a ∷ filter p (range (suc a) n)) (filter p (range (suc a) n)))
      go true r = rising_more a (filter p (range (suc a) n)) r
      go false r = record { from = λ i less. omega (arith, r.from i less); apart = r.apart }

  -- no usable slot twice
  pub rising : (a n : ℕ) → Apart (length (filter p (range a n))) (filter p (range a n))
  rising a n = (rising_by a n).apart

  -- what a filter keeps has passed
  pub passed : (l : List ℕ) (i : ℕ) → i < length (filter p l) → p (get_or (filter p l) i past) ≡ true
  unfolding filter pick
  passed [] i less = absurd (omega arith)
  passed (x ∷ xs) i less = go (p x) refl (passed xs) i less
    where
      go : (c : Bool) → p x ≡ c → ((i : ℕ) → i < length (filter p xs) → p (get_or (filter p xs) i past) ≡ true) → (i : ℕ)
          → i < length (pick c (x ∷ filter p xs) (filter p xs)) → p (get_or (pick c (x ∷ filter p xs) (filter p xs)) i past) ≡ true
      go true e ih zero less = e
      go true e ih (suc i) less = ih i (omega arith)
      go false e ih i less = ih i less
