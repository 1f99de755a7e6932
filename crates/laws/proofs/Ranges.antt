-- Ranges of numbers, what a loop over one still has before it, and what a test keeps of a list.
use mathlib.Core.Path.{◌≡◌, refl, ap, ap₂, ◌∙◌, sym}
use mathlib.Core.Bool.{Bool, true}
use mathlib.Core.List.{List, [], ◌∷◌, ◌++◌, map, Memᴰ}
use Prim.Native.Nat.{ℕ, zero, suc, ◌+◌, ◌-◌, ◌≤◌, ◌<◌}
use native.Mathlib.Nat.{add-zero, add-suc, zero-add, suc-add}
use native.Mathlib.Numerals.{add-one}
use native.Mathlib.Omega.{arith}
use borrow.Author.Tests.{eqb-true, eqb-false}
use lib.Dec.{eqb}
use lib.ListN.{length, get_or, drop}
use lib.Seq.{drop-cons}
use Rattle.meaning.specs.declared.Edition.{Edition}
use Rattle.meaning.specs.Lists.{pick, part, range, filter}
use Rattle.meaning.specs.Bytes.{usable_slot}
use Rattle.meaning.specs.Calls.{usable}
use Rattle.laws.proofs.Inversions.{by_test}

-- a number below the end of a range is in it
pub in_range : (from n r : ℕ) → from ≤ r → r < from + n → Memᴰ r (range from n)
unfolding range
in_range from zero r lo hi = absurd (omega arith)
in_range from (suc n) r lo hi =
    by_test (eqb r from)
    (λ t. Memᴰ.head (eqb-true r from t))
    (λ t. let other = eqb-false r from t in
    Memᴰ.tail (in_range (suc from) n r (omega arith) (omega arith)))

-- what is in a list and passes the test is in the filtered list
pub in_filter : {A : Type 0} (p : A → Bool) {x : A} {l : List A} → p x ≡ true → Memᴰ x l → Memᴰ x (filter p l)
unfolding filter pick
in_filter p h (Memᴰ.head {x = y} {xs = l} q) = rw (sym (ap p q) ∙ h) (Memᴰ.head q)
in_filter p h (Memᴰ.tail {x = y} {xs = l} m) =
    by_test (p y) (λ t. rw t (Memᴰ.tail (in_filter p h m))) (λ t. rw t (in_filter p h m))

-- a filtered list is the filtered parts
pub filter_append : {A : Type 0} (p : A → Bool) (xs ys : List A) → filter p (xs ++ ys) ≡ filter p xs ++ filter p ys
unfolding filter pick
filter_append p [] ys = refl
filter_append p (x ∷ xs) ys =
    by_test (p x) (λ t. rw t (ap (λ l. x ∷ l) (filter_append p xs ys))) (λ t. rw t (filter_append p xs ys))

-- a range is two in a row
pub range_append : (from k n : ℕ) → range from (k + n) ≡ range from k ++ range (from + k) n
unfolding range
range_append from zero n = rw (zero-add, add-zero)
range_append from (suc k) n = rw (suc-add k n, add-suc from k) (ap (λ l. from ∷ l) (range_append (suc from) k n ∙ rw suc-add))

-- it is as long as was asked
pub range_length : (from n : ℕ) → length (range from n) ≡ n
unfolding range
range_length from zero = refl
range_length from (suc n) = ap suc (range_length (suc from) n)

-- what is told of a list one by one, from skipped elements on, is a part of it
pub one_by_one : (f : ℕ → ℕ) (skipped : ℕ) (l : List ℕ) → ((i : ℕ) → skipped + i < length l → f i ≡ get_or l (skipped + i) 0)
    → (at n : ℕ) → skipped + at + n ≤ length l → map f (range at n) ≡ part (skipped + at) n l
unfolding part range
one_by_one f skipped l same at zero h = refl
one_by_one f skipped l same at (suc n) h =
    let d : drop (skipped + at) l ≡ get_or l (skipped + at) 0 ∷ drop (skipped + suc at) l = rw add-suc (drop-cons l (skipped + at) 0 (omega arith)) in
    rw d (ap₂ ◌∷◌ (same at (omega arith)) (one_by_one f skipped l same (suc at) n (omega arith)))

-- what a loop up to n has before it from i on: at first all
pub left_all : (n : ℕ) → range 0 (n - 0) ≡ range 0 n
left_all n = let z : n - 0 ≡ n = omega arith in rw z

-- then i, and what it has before it from the next on
pub left_step : (i n : ℕ) → i < n → range i (n - i) ≡ i ∷ range (i + 1) (n - (i + 1))
unfolding range
left_step i n h = let z : n - i ≡ suc (n - suc i) = omega arith in rw (z, add-one)

-- and behind the end nothing
pub left_none : (i n : ℕ) → n ≤ i → range i (n - i) ≡ []
unfolding range
left_none i n h = let z : n - i ≡ 0 = omega arith in rw z

-- a test keeps no more numbers of a range than there are
pub filter_few : (p : ℕ → Bool) (from n : ℕ) → length (filter p (range from n)) ≤ n
unfolding filter range pick
filter_few p from zero = omega arith
filter_few p from (suc n) =
    let rest = filter_few p (suc from) n in
    by_test (p from) (λ t. rw t (omega arith)) (λ t. rw t (omega arith))

-- so no more slots are usable than there are
pub usable_few : (e : Edition) (n : ℕ) (P R : List ℕ) → length (usable e n P R) ≤ n
unfolding usable
usable_few e n P R = filter_few (usable_slot R) 0 n
