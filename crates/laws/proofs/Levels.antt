-- A forest of trees of one height, counted row by row: n leaves, and above each row its rounded-up share, h times. Full trees count apart,
-- a forest under one root has one row more, of one block, and the forest that is one tree has the block total.
use mathlib.Core.Path.{◌≡◌, refl, ◌∙◌}
use Prim.Native.Nat.{ℕ, zero, suc, ◌+◌, ◌*◌, ◌^◌, ◌≤◌, ◌<◌}
use native.Mathlib.Nat.{pow-zero, pow-succ', mul_assoc, one-le-pow}
use native.Mathlib.Omega.{arith}
use Rattle.meaning.specs.Shape.{up, total}
use Rattle.laws.proofs.Totals.{up_zero, up_add, up_full, up_le, up_gt, total_one, total_more}

-- the blocks of n leaves with h rows above them
unfoldable pub levels : (fan h n : ℕ) → ℕ
levels fan zero n = n
levels fan (suc h) n = n + levels fan h (up n fan)

-- the leaves alone
pub levels_zero : (fan n : ℕ) → levels fan 0 n ≡ n
unfolding levels
levels_zero fan n = refl

-- the leaves, and the rows above them
pub levels_suc : (fan h n : ℕ) → levels fan (suc h) n ≡ n + levels fan h (up n fan)
unfolding levels
levels_suc fan h n = refl

-- no leaves, no blocks
pub levels_none : (fan h : ℕ) → 2 ≤ fan → levels fan h 0 ≡ 0
levels_none fan zero two = levels_zero fan 0
levels_none fan (suc h) two = levels_suc fan h 0 ∙ rw (up_zero fan (omega arith)) (omega (arith, levels_none fan h two))

-- full trees apart
pub levels_add : (fan h a n : ℕ) → 2 ≤ fan → levels fan h (fan ^ h * a + n) ≡ levels fan h (fan ^ h * a) + levels fan h n
levels_add fan zero a n two =
    omega (arith, levels_zero fan (fan ^ 0 * a + n), levels_zero fan (fan ^ 0 * a), levels_zero fan n)
levels_add fan (suc h) a n two =
    let full = fan ^ h * a in
    let some : 1 ≤ fan = omega arith in
    let e : fan ^ suc h * a ≡ fan * full = rw pow-succ' (mul_assoc fan (fan ^ h) a) in
    let p : levels fan (suc h) (fan * full + n) ≡ fan * full + n + levels fan h (full + up n fan) = rw (levels_suc, up_add fan full n) in
    let q : levels fan (suc h) (fan * full) ≡ fan * full + levels fan h full = rw (levels_suc, up_full fan full) in
    rw e (omega (arith, levels_add fan h a (up n fan) two, levels_suc fan h n))

-- the share of what a tree holds is what one lower holds
up_within : (fan h n : ℕ) → 2 ≤ fan → n ≤ fan ^ suc h → up n fan ≤ fan ^ h
up_within fan h n two high = up_le n fan (fan ^ h) (omega arith) (omega (arith, pow-succ' fan h))

-- one root on top
pub levels_top : (fan h n : ℕ) → 2 ≤ fan → 1 ≤ n → n ≤ fan ^ suc h → levels fan (suc h) n ≡ suc (levels fan h n)
levels_top fan zero n two low high =
    omega (
      arith,
      up_within fan 0 n two high,
      pow-zero fan,
      up_gt n fan 0 (omega arith) (omega arith),
      levels_suc fan 0 n,
      levels_zero fan n,
      levels_zero fan (up n fan),
    )
levels_top fan (suc h) n two low high =
    let some = up_gt n fan 0 (omega arith) (omega arith) in
    omega (arith, levels_top fan h (up n fan) two some (up_within fan (suc h) n two high), levels_suc fan (suc h) n, levels_suc fan h n)

-- the rows of one tree, whose root has two children or more, are its block total
pub total_levels : (fan h n : ℕ) → 2 ≤ fan → fan ^ h < n → n ≤ fan ^ suc h → total fan n ≡ levels fan (suc h) n
total_levels fan zero n two low high =
    let more = total_more fan n two (omega (arith, pow-zero fan)) in
    let share : up n fan ≡ 1 = omega (arith, up_within fan 0 n two high, pow-zero fan, up_gt n fan 0 (omega arith) (omega arith)) in
    let top : total fan (up n fan) ≡ 1 = rw share (total_one fan) in
    omega (arith, levels_suc fan 0 n, levels_zero fan (up n fan))
total_levels fan (suc h) n two low high =
    let more = total_more fan n two (omega (arith, one-le-pow (suc h) fan (omega arith))) in
    let least = up_gt n fan (fan ^ h) (omega arith) (omega (arith, pow-succ' fan h)) in
    omega (arith, total_levels fan h (up n fan) two least (up_within fan (suc h) n two high), levels_suc fan (suc h) n)
