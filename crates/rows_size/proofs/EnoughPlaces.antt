-- Rows of m places suffice for a pool of at most m slots; and a size that suffices is found by going up.
use mathlib.Core.Path.{◌≡◌, refl, ap, sym}
use mathlib.Core.List.{List}
use Prim.Native.Nat.{ℕ, ◌-◌, ◌*◌, ◌/◌, ◌^◌, ◌≤◌, ◌<◌}
use native.Mathlib.Omega.{arith}
use lib.ListN.{length, replicate, length-replicate}
use Rattle.meaning.specs.Edition.{one}
use Rattle.meaning.specs.Calls.{slots_in}
use Rattle.check_gate.specs.Places.{Clear}

module _ (P : List ℕ) (m : ℕ) (few : slots_in one P ≤ m) where
  pub clear_row : Clear one P (replicate m 0)
  clear_row =
      record {
        zero = ap (λ (j : ℕ). replicate {A = ℕ} j 0) (sym (length-replicate m 0));
        reaches = omega (arith, few, length-replicate {A = ℕ} m 0);
      }

  pub long_row : (o : List ℕ) → length o ≡ m → slots_in one P ≤ length o
  long_row o l = omega (arith, few, l)

-- a block of edition one has 64 bytes
pub slots_said : (P : List ℕ) → length P / 64 ≡ slots_in one P
unfolding slots_in one
slots_said P = refl

-- the next size is nearer to the largest
pub goes_up : (P : List ℕ) (n places t : ℕ) → n ≡ slots_in one P → slots_in one P ≤ 65536 → 1 ≤ places → places < n → 65536 - places ≡ t
    → 65536 - 8 * places < t
goes_up P n places t en most some less et = omega (arith, en, most, some, less, et)

pub still_some : (places : ℕ) → 1 ≤ places → 1 ≤ 8 * places
still_some places some = omega (arith, some)

-- and a number of the machine
pub mul_fits : (P : List ℕ) (n places : ℕ) → n ≡ slots_in one P → slots_in one P ≤ 65536 → places < n → 8 * places < 2 ^ 64
mul_fits P n places en most less = omega (arith, en, most, less)

-- a size that is not too small
pub suffices : (P : List ℕ) (n places m : ℕ) → n ≡ slots_in one P → n ≤ places → places ≡ m → slots_in one P ≤ m
suffices P n places m en le eq = omega (arith, en, le, eq)
