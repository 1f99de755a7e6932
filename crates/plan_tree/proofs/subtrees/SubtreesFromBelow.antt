-- Full subtrees in numbers, as code computes them: what each definition is from one height lower, and bounds on it.
-- Values come with their equations, `w ≡ fan ^ h`, as code has them.
use mathlib.Core.Path.{◌≡◌, refl, sym, ap}
use Prim.Native.Nat.{ℕ, zero, suc, ◌+◌, ◌-◌, ◌*◌, ◌/◌, ◌^◌, ◌≤◌, ◌<◌}
use native.Mathlib.Nat.{pow-zero, pow-succ', one-le-pow, pow-le-pow_right, mul-le-mul_left}
use native.Mathlib.Nat.{min-eq_left, min-eq_right, min-zero}
use native.Mathlib.Omega.{arith}
use Rattle.meaning.specs.declared.Edition.{Edition}
use Rattle.meaning.specs.Edition.{Proper}
use Rattle.meaning.specs.Shape.{up}
use Rattle.laws.proofs.Totals.{up_is, up_zero}
use Rattle.laws_resize.specs.growth.Forms.{bulk, places}
use Rattle.std.specs.Int.{div_ceil}
use Rattle.std.specs.Prelude.{min}
use Rattle.std.proofs.lemmas.Grind.{div_ceil_times}

-- powers, from the one before
pub pow_none : (fan h : ℕ) → h ≡ 0 → 1 ≡ fan ^ h
pow_none fan h is = rw is (sym (pow-zero fan))

pub pow_back : (fan h w : ℕ) → (h ≡ 0 → ⊥) → w ≡ fan ^ (h - 1) → fan * w ≡ fan ^ h
pow_back fan zero w tall wide = absurd (tall refl)
pow_back fan (suc h) w tall wide = let z : suc h - 1 ≡ h = omega arith in rw (wide, z) (sym (pow-succ' fan h))

pub pow_next : (fan i w : ℕ) → w ≡ fan ^ i → w * fan ≡ fan ^ (i + 1)
pow_next fan i w is =
    let z : i + 1 ≡ suc i = omega arith in
    rw (is, z) (omega (arith, pow-succ' fan i))

-- a lower power is no larger, and none is 0
pub pow_rises : (fan g h : ℕ) → 1 ≤ fan → g ≤ h → fan ^ g ≤ fan ^ h
pow_rises fan g h some low = pow-le-pow_right some low

pub pow_down : (fan h : ℕ) → 1 ≤ fan → fan ^ (h - 1) ≤ fan ^ h
pow_down fan h some = pow_rises fan (h - 1) h some (omega arith)

-- on the way down from height h a power stays small
pub pow_small : (fan g h : ℕ) → 2 ≤ fan → g ≤ h → fan ^ h ≤ 2 ^ 50 → fan ^ (g - 1) ≤ 2 ^ 50
pow_small fan g h two low small = omega (arith, pow_rises fan (g - 1) h (omega arith) (omega arith))

pub low_power : (e : Edition) → Proper e → (h m : ℕ) → e.fan ^ h ≤ m → e.fan ^ (h - 1) ≤ m
low_power e p h m small = omega (arith, pow_down e.fan h (omega (arith, p.two)))

pub pow_some : (fan h : ℕ) → 1 ≤ fan → 1 ≤ fan ^ h
pow_some fan h some = one-le-pow h fan some

-- blocks of a full subtree: one, if it is a leaf, and from one lower
pub bulk_none : (fan h : ℕ) → h ≡ 0 → 1 ≡ bulk fan h
unfolding bulk
bulk_none fan h is = rw is refl

pub bulk_back : (fan h b : ℕ) → (h ≡ 0 → ⊥) → b ≡ bulk fan (h - 1) → 1 + fan * b ≡ bulk fan h
unfolding bulk
bulk_back fan zero b tall whole = absurd (tall refl)
bulk_back fan (suc h) b tall whole = let z : suc h - 1 ≡ h = omega arith in rw (whole, z) refl

-- they are the leaves or more, and fewer than twice the leaves
pub bulk_leaves : (fan h : ℕ) → 1 ≤ fan → fan ^ h ≤ bulk fan h
unfolding bulk
bulk_leaves fan zero some = omega (arith, pow-zero fan)
bulk_leaves fan (suc h) some = omega (arith, pow-succ' fan h, mul-le-mul_left fan (bulk_leaves fan h some))

pub bulk_twice : (fan h : ℕ) → 2 ≤ fan → bulk fan h + 1 ≤ 2 * fan ^ h
unfolding bulk
bulk_twice fan zero two = omega (arith, pow-zero fan)
bulk_twice fan (suc h) two = omega (arith, pow-succ' fan h, mul-le-mul_left fan (bulk_twice fan h two))

-- one higher, from its blocks
pub bulk_next : (fan i b : ℕ) → b ≡ bulk fan i → 1 + fan * b ≡ bulk fan (i + 1)
unfolding bulk
bulk_next fan i b whole = let z : i + 1 ≡ suc i = omega arith in rw (whole, z) refl

-- if the leaves at height h are few, so are the blocks up to that height
pub bulk_few : (fan i h b : ℕ) → 2 ≤ fan → fan ^ h ≤ 2 ^ 50 → i ≤ h → b ≡ bulk fan i → b < 2 ^ 51
bulk_few fan i h b two small low whole = omega (arith, pow_rises fan i h (omega arith) low, bulk_twice fan i two)

pub next_few : (fan i h b : ℕ) → 2 ≤ fan → fan ^ h ≤ 2 ^ 50 → i < h → b ≡ bulk fan i → 1 + fan * b < 2 ^ 51
next_few fan i h b two small low whole =
    bulk_few fan (i + 1) h (1 + fan * b) two small (omega arith) (bulk_next fan i b whole)

-- and a block or more
pub bulk_some : (fan h b : ℕ) → 1 ≤ fan → b ≡ bulk fan h → 1 ≤ b
bulk_some fan h b some whole = omega (arith, bulk_leaves fan h some, pow_some fan h some)

pub bulk_two : (fan h b : ℕ) → 2 ≤ fan → b ≡ bulk fan h → 0 < b
bulk_two fan h b two whole = omega (arith, bulk_some fan h b (omega arith) whole)

-- a height is below the top if its full subtree has the number of blocks or fewer, and the top's has more
pub level_less : (fan h top number : ℕ) → h ≤ top → bulk fan h ≤ number → number < bulk fan top → h < top
level_less fan h top number low old new = apart (top - h) refl
  where
    apart : (d : ℕ) → d ≡ top - h → h < top
    apart zero is = let z : h ≡ top = omega arith in absurd (omega (arith, ap (bulk fan) z))
    apart (suc d) is = omega arith

-- it is the height to find if the next one's full subtree has more
pub level_found : (fan h number b : ℕ) → b ≡ bulk fan (h + 1) → number < b → number < bulk fan (suc h)
level_found fan h number b whole less = let z : suc h ≡ h + 1 = omega arith in rw (z, ← whole) less

-- places for children, from the power: a rounded-up share is the least that is enough
up_ceil : (n k : ℕ) → 1 ≤ k → div_ceil n k ≡ up n k
up_ceil n k some =
    let b = div_ceil_times n k some in
    sym (up_is n k (div_ceil n k) some (omega arith) (omega arith))

pub places_is : (fan m c h j w d u r : ℕ) → 2 ≤ fan → w ≡ fan ^ h → d ≡ m - j → u ≡ div_ceil d w → r ≡ min c u → r ≡ places fan m c h j
unfolding places
places_is fan m c h j w d u r two wide left rounded least =
    rw (least, rounded, left, wide, up_ceil (m - j) (fan ^ h) (pow_some fan h (omega arith))) refl

-- they are none, fewer than are left, or all that are left
pub places_none : (fan m c h j : ℕ) → 1 ≤ fan → m ≤ j → 0 ≡ places fan m c h j
unfolding places
places_none fan m c h j some done =
    let z : m - j ≡ 0 = omega arith in
    rw (z, up_zero (fan ^ h) (pow_some fan h some), min-zero) refl

pub places_few : (fan m c h j w : ℕ) → w ≡ fan ^ h → (m - j + (w - 1)) / w < c → (m - j + (w - 1)) / w ≡ places fan m c h j
unfolding places up
places_few fan m c h j w wide less =
    let low : (m - j + (w - 1)) / w ≤ c = omega arith in
    let few : (m - j + (fan ^ h - 1)) / fan ^ h ≤ c = rw wide at low in
    rw (wide, min-eq_right few) refl

pub places_all : (fan m c h j w : ℕ) → w ≡ fan ^ h → c ≤ (m - j + (w - 1)) / w → c ≡ places fan m c h j
unfolding places up
places_all fan m c h j w wide less =
    let all : c ≤ (m - j + (fan ^ h - 1)) / fan ^ h = rw wide at less in
    rw (min-eq_left all) refl
