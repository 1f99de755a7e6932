-- The height of n leaves, for any fan-out from 2: height_for finds the least d with n ≤ fan ^ d, for it tries 0, 1, .. in turn and n tries
-- are enough. So it is that of the rounded-up share, and one more.
use mathlib.Core.Path.{◌≡◌}
use Prim.Native.Nat.{ℕ, zero, suc, ◌+◌, ◌^◌, ◌≤◌, ◌<◌}
use native.Mathlib.Nat.{pow-zero, pow-succ', pow-le-pow_right, mul-le-mul_left, mul-le-mul_right, add-zero, zero-add, add-suc, suc-add}
use native.Mathlib.Decide.{dec_le}
use native.Mathlib.Omega.{arith}
use borrow.Author.Tests.{le-leb, lt-leb}
use Rattle.meaning.specs.Lists.{pick}
use Rattle.meaning.specs.Shape.{up, height_from, height_for}
use Rattle.laws.proofs.Totals.{up_enough, up_le}

-- height_from where the first tried is enough
from_here : (k fan d n : ℕ) → n ≤ fan ^ d → height_from (suc k) fan d n ≡ d
unfolding height_from pick
from_here k fan d n h = rw (le-leb n (fan ^ d) h)

-- and where it is not
from_next : (k fan d n : ℕ) → fan ^ d < n → height_from (suc k) fan d n ≡ height_from k fan (suc d) n
unfolding height_from pick
from_next k fan d n h = rw (lt-leb n (fan ^ d) h)

-- a claim by the two cases of a comparison
by_test : {A : Type 0} (a b : ℕ) → (a ≤ b → A) → (b < a → A) → A
by_test {A} a b low high = go (dec_le a b)
  where
    go : Dec (a ≤ b) → A
    go (yes p) = low p
    go (no p) = high (omega arith)

-- a power that is exceeded is of a smaller exponent
pow_below : (fan d g n : ℕ) → 2 ≤ fan → fan ^ d < n → n ≤ fan ^ g → d < g
pow_below fan d g n two low high =
    by_test g d (λ le. absurd (omega (arith, pow-le-pow_right {n = fan} (omega arith) {i = g} {j = d} le))) (λ lt. lt)

-- what is found among d, d + 1, .. is no more than any that is enough
from_least : (k fan d g n : ℕ) → 2 ≤ fan → d ≤ g → n ≤ fan ^ g → height_from k fan d n ≤ g
unfolding height_from
from_least zero fan d g n two le enough = le
from_least (suc k) fan d g n two le enough =
    by_test n (fan ^ d) (λ here. rw (from_here k fan d n here) le)
    (λ next. rw (from_next k fan d n next) (from_least k fan (suc d) g n two (pow_below fan d g n two next enough) enough))

-- and is itself enough, if one of those tried is
from_enough : (k fan d n : ℕ) → n ≤ fan ^ (d + k) → n ≤ fan ^ height_from k fan d n
unfolding height_from
from_enough zero fan d n enough = rw add-zero at enough
from_enough (suc k) fan d n enough =
    by_test n (fan ^ d) (λ here. rw (from_here k fan d n here) here)
    (λ next. rw (from_next k fan d n next) (from_enough k fan (suc d) n (rw (add-suc, ← suc-add) at enough)))

-- n tries are enough
pow_above : (fan n : ℕ) → 2 ≤ fan → n < fan ^ n
pow_above fan zero two = omega (arith, pow-zero fan)
pow_above fan (suc n) two = omega (arith, pow_above fan n two, pow-succ' fan n, mul-le-mul_right (fan ^ n) two)

-- the leaves find room at their height
pub height_enough : (fan n : ℕ) → 2 ≤ fan → n ≤ fan ^ height_for fan n
unfolding height_for
height_enough fan n two = from_enough n fan 0 n (rw zero-add (omega (arith, pow_above fan n two)))

-- and at no lesser one
pub height_least : (fan n d : ℕ) → 2 ≤ fan → n ≤ fan ^ d → height_for fan n ≤ d
unfolding height_for
height_least fan n d two h = from_least n fan 0 d n two (omega arith) h

-- one leaf is its own root
pub height_small : (fan n : ℕ) → 2 ≤ fan → n ≤ 1 → height_for fan n ≡ 0
height_small fan n two h = omega (arith, height_least fan n 0 two (omega (arith, pow-zero fan)))

-- too many for one height and not for the next
pub height_is : (fan n d : ℕ) → 2 ≤ fan → fan ^ d < n → n ≤ fan ^ suc d → height_for fan n ≡ suc d
height_is fan n d two low high =
    omega (arith, height_least fan n (suc d) two high, pow_below fan d (height_for fan n) n two low (height_enough fan n two))

-- from two leaves on, one above the height of the share
pub height_more : (fan n : ℕ) → 2 ≤ fan → 2 ≤ n → height_for fan n ≡ suc (height_for fan (up n fan))
height_more fan n two h =
    let g = height_for fan (up n fan) in
    let high : height_for fan n ≤ suc g = height_least fan n (suc g) two (omega (
      arith,
      up_enough n fan (omega arith),
      pow-succ' fan g,
      mul-le-mul_left fan (height_enough fan (up n fan) two),
    )) in
    let low = above (height_for fan n) (height_enough fan n two) in
    omega arith
  where
    above : (d : ℕ) → n ≤ fan ^ d → suc (height_for fan (up n fan)) ≤ d
    above zero enough = absurd (omega (arith, pow-zero fan))
    above (suc d) enough =
        omega (arith, height_least fan (up n fan) d two (up_le n fan (fan ^ d) (omega arith) (omega (arith, pow-succ' fan d))))
