-- Usable slots, one after the other: the first found, all counted, and an equation for each way round and out of the loop that lists them.
use mathlib.Core.Path.{◌≡◌, refl, ap, ◌∙◌, sym}
use mathlib.Core.Bool.{Bool, true, false}
use mathlib.Core.List.{List, [], ◌∷◌, ◌++◌, append_assoc, append-nil}
use Prim.Native.Nat.{ℕ, zero, suc, ◌+◌, ◌-◌, ◌^◌, ◌≤◌, ◌<◌}
use native.Mathlib.Numerals.{add-one}
use native.Mathlib.Omega.{arith}
use borrow.Author.Tests.{ne_eqb}
use lib.Dec.{eqb, ltb}
use lib.ListN.{length, get_or, take, set, get_or-eq_default}
use lib.Seq.{length-take-le}
use Rattle.std.specs.List.{range_with_len, find, slice_get}
use Rattle.std.specs.Int.{from_bool}
use Rattle.std.proofs.lemmas.List.{take_more_set}
use Rattle.std.specs.Option.{option_map}
use Rattle.std.specs.Prelude.{Option, None, Some}
use Rattle.meaning.specs.declared.Edition.{Edition}
use Rattle.meaning.specs.Lists.{pick, both, filter, range, bytes}
use Rattle.meaning.specs.Bytes.{record_at, state_of, recorded_of, last_version, usable_slot}
use Rattle.meaning.specs.Calls.{usable}
use Rattle.laws.proofs.Ranges.{left_all, left_step, left_none}
use Rattle.laws.proofs.Codec.{state_is, version_is}
use Rattle.laws.proofs.Inversions.{by_test}
use Rattle.base_slot.specs.usable.{usable_from}

module _ (R : List ℕ) (s : ℕ) (rb : List ℕ) (er : rb ≡ record_at R s) (st : ℕ) (es : st ≡ state_of rb) where
  pub usable_live : (st ≡ 0 → ⊥) → eqb st 0 ≡ usable_slot R s
  unfolding usable_slot both
  usable_live n = simp (← state_is R s rb er st es, ne_eqb st 0 n)

  pub usable_free : st ≡ 0 → (v : ℕ) → v ≡ recorded_of rb → ltb v 0xFFFF_FFFF_FFFF_FFFF ≡ usable_slot R s
  unfolding usable_slot both last_version
  usable_free z v ev = simp (← state_is R s rb er st es, z, ← version_is R s rb er v ev)

-- the usable slots from i on, by whether i is one
from_step : (R : List ℕ) (i n : ℕ) → i < n → usable_from R i (n - i) ≡ pick (usable_slot R i) (i ∷ usable_from R (i + 1) (n - (i + 1))) (usable_from R (i + 1) (n - (i + 1)))
unfolding usable_from filter
from_step R i n h = rw (left_step i n h)

from_none : (R : List ℕ) (i n : ℕ) → n ≤ i → usable_from R i (n - i) ≡ []
unfolding usable_from filter
from_none R i n h = rw (left_none i n h)

-- the number of a truth value
pub one_taken : (t : Bool) (r : ℕ) → r ≡ from_bool t → (r ≡ pick t 1 0) × (r ≤ 1)
unfolding pick
one_taken true r e = (e, omega (arith, e))
one_taken false r e = (e, omega (arith, e))

-- the library's numbers, tests and first element are those of the definitions
pub numbers_same : (from n : ℕ) → range_with_len from n ≡ range from n
unfolding range
numbers_same from zero = refl
numbers_same from (suc n) = ap (λ (l : List ℕ). from ∷ l) (rw add-one (numbers_same (suc from) n))

first_kept : (p : ℕ → Bool) (l : List ℕ) → find p l ≡ slice_get (filter p l) 0
unfolding filter pick
first_kept p [] = refl
first_kept p (x ∷ l) = by_test (p x) (λ t. rw t refl) (λ t. rw t (first_kept p l))

same_option : (o : Option ℕ) → option_map (λ (x : ℕ). x) o ≡ o
same_option None = refl
same_option (Some x) = refl

-- the lowest found
pub lowest_found : (R : List ℕ) (n : ℕ) (o : Option ℕ) → option_map (λ (x : ℕ). x) o ≡ find (usable_slot R) (range_with_len 0 n) → o ≡ slice_get (usable_from R 0 n) 0
unfolding usable_from
lowest_found R n o e = sym (same_option o) ∙ e ∙ ap (find (usable_slot R)) (numbers_same 0 n) ∙ first_kept (usable_slot R) (range 0 n)

-- counted: those found and those that are left
picked : (t u : Bool) (x : ℕ) (l : List ℕ) → t ≡ u → length (pick u (x ∷ l) l) ≡ pick t 1 0 + length l
unfolding pick
picked true u x l e = rw (← e) (omega arith)
picked false u x l e = rw (← e) (omega arith)

pub count_start : (R : List ℕ) (n : ℕ) → length (usable_from R 0 n) ≡ 0 + length (usable_from R 0 (n - 0))
unfolding usable_from
count_start R n = rw (left_all n) (omega arith)

module _ (R : List ℕ) (n i k : ℕ) (inv : length (usable_from R 0 n) ≡ k + length (usable_from R i (n - i))) where
  pub count_end : n ≤ i → k ≡ length (usable_from R 0 n)
  count_end l = omega (arith, ap length (from_none R i n l))

  pub count_more : i < n → (t : Bool) → t ≡ usable_slot R i → (m : ℕ) → m ≡ pick t 1 0
      → length (usable_from R 0 n) ≡ k + m + length (usable_from R (i + 1) (n - (i + 1)))
  count_more l t et m em = omega (arith, em, ap length (from_step R i n l), picked t (usable_slot R i) i (usable_from R (i + 1) (n - (i + 1))) et)

-- the list that a changing call takes its slots from
pub usable_all : (e : Edition) (n : ℕ) (P R : List ℕ) → usable_from R 0 n ≡ usable e n P R
unfolding usable_from usable
usable_all e n P R = refl

-- listed: those in the row and those that are left make up all
pub list_start : (R row : List ℕ) (n : ℕ) → usable_from R 0 n ≡ take 0 row ++ usable_from R 0 (n - 0)
unfolding usable_from
list_start R row n = rw (left_all n) refl

picked_list : (t u : Bool) (x : ℕ) (l : List ℕ) → t ≡ u → pick u (x ∷ l) l ≡ pick t (x ∷ []) [] ++ l
unfolding pick
picked_list true u x l e = rw (← e)
picked_list false u x l e = rw (← e)

module _ (R row : List ℕ) (n i k : ℕ) (inv : usable_from R 0 n ≡ take k row ++ usable_from R i (n - i)) where
  pub list_end : n ≤ i → take k row ≡ usable_from R 0 n
  list_end l = sym (inv ∙ ap (λ (m : List ℕ). take k row ++ m) (from_none R i n l) ∙ append-nil (take k row))

  pub list_count : n ≤ i → k ≤ i → i ≤ n → length row ≡ n → k ≡ length (usable_from R 0 n)
  list_count l few top long = sym (length-take-le k row (omega arith)) ∙ ap length (list_end l)

  module _ (l : i < n) (t : Bool) (et : t ≡ usable_slot R i) where
    pub list_put : t ≡ true → k < length row → usable_from R 0 n ≡ take (k + 1) (set row k i) ++ usable_from R (i + 1) (n - (i + 1))
    unfolding pick
    list_put p h = rw (take_more_set row k i h, append_assoc) (inv ∙ ap (λ (m : List ℕ). take k row ++ m) (rw (from_step R i n l, ← et, p) refl))

    pub list_passed : t ≡ false → usable_from R 0 n ≡ take k row ++ usable_from R (i + 1) (n - (i + 1))
    unfolding pick
    list_passed p = inv ∙ ap (λ (m : List ℕ). take k row ++ m) (rw (from_step R i n l, ← et, p) refl)

  -- either way: whatever the row and its end are then, if the front got slot i, or nothing, as the test says
  pub list_more : i < n → (t : Bool) → t ≡ usable_slot R i → (k' : ℕ) (row' : List ℕ) → take k' row' ≡ take k row ++ pick t (i ∷ []) []
      → usable_from R 0 n ≡ take k' row' ++ usable_from R (i + 1) (n - (i + 1))
  list_more l t et k' row' a =
      inv ∙ ap (λ (m : List ℕ). take k row ++ m) (from_step R i n l ∙ picked_list t (usable_slot R i) i (usable_from R (i + 1) (n - (i + 1))) et)
      ∙ sym (append_assoc (take k row) (pick t (i ∷ []) []) (usable_from R (i + 1) (n - (i + 1))))
      ∙ ap (λ (m : List ℕ). m ++ usable_from R (i + 1) (n - (i + 1))) (sym a)

-- the k-th of a list, and of none the number past every pool
inside_same : (l : List ℕ) (k a b : ℕ) → k < length l → get_or l k a ≡ get_or l k b
inside_same [] k a b h = absurd (omega arith)
inside_same (x ∷ l) zero a b h = refl
inside_same (x ∷ l) (suc k) a b h = inside_same l k a b (omega arith)

pub nth_there : (free : List ℕ) (k : ℕ) → k < length free → bytes 4 (get_or free k 0) ≡ bytes 4 (get_or free k (2 ^ 32))
nth_there free k h = ap (bytes 4) (inside_same free k 0 (2 ^ 32) h)

pub nth_none : (free : List ℕ) (k : ℕ) → length free ≤ k → bytes 4 0 ≡ bytes 4 (get_or free k (2 ^ 32))
unfolding bytes
nth_none free k h = rw (get_or-eq_default free (2 ^ 32) h)
