-- The right edge in numbers, as code computes them: what each definition is one height higher, and bounds on it.
-- Values come with their equations, `w ≡ fan ^ i`, as code has them.
use mathlib.Core.Path.{◌≡◌, refl, ap}
use Prim.Native.Nat.{ℕ, zero, suc, ◌+◌, ◌-◌, ◌*◌, ◌/◌, ◌%◌, ◌^◌, ◌≤◌, ◌<◌}
use native.Mathlib.Nat.{pow-zero, pow-succ', mul-le-mul_left, mul-le-mul_right, mod-lt}
use native.Mathlib.Omega.{arith}
use Rattle.laws_resize.specs.growth.Forms.{bulk, last_children, room, space}
use Rattle.plan_tree.specs.edge.{lacking, Lacking}
use Rattle.plan_tree.proofs.subtrees.SubtreesFromBelow.{pow_rises, bulk_few}

-- children of the right edge's block, from the power
pub last_is : (fan h n w : ℕ) → w ≡ fan ^ h → (n - 1) / w % fan + 1 ≡ last_children fan h n
unfolding last_children
last_is fan h n w is = rw is refl

-- one or more, and the fan-out or fewer
last_some : (fan h n : ℕ) → 1 ≤ last_children fan h n
unfolding last_children
last_some fan h n = omega arith

pub last_fits : (fan h n : ℕ) → 1 ≤ fan → last_children fan h n ≤ fan
unfolding last_children
last_fits fan h n some = omega (arith, mod-lt ((n - 1) / fan ^ h) some)

-- What adds up along the right edge, from the leaves up.
module _ (fan h n : ℕ) (two : 2 ≤ fan) (post : (i r : ℕ) → Type 0) where
  pub lacking_none : Lacking fan h n 0 post 0
  unfolding lacking
  lacking_none = record { sum = λ full is. refl; few = omega (arith, pow-zero fan) }

  -- one height higher: the block lacks fewer children than the fan-out
  pub lacking_next : (i r c w : ℕ) → i < h → Lacking fan h n i post r → c ≡ last_children fan i n → post i w → w < 2 * fan ^ i
      → Lacking fan h n (i + 1) post (r + (fan - c) * w)
  unfolding lacking
  lacking_next i r c w low at last given less =
      let z : i + 1 ≡ suc i = omega arith in
      let some : fan - c ≤ fan - 1 = omega (arith, last_some fan i n) in
      let y : fan ≡ suc (fan - 1) = omega arith in
      let within = mul-le-mul_left (fan - 1) less in
      record {
        sum = λ full is. rw (at.sum full is, last, is i w low given, z) refl;
        few = rw z (omega (arith, at.few, mul-le-mul_right w some, within, pow-succ' fan i, ap (λ (x : ℕ). x * fan ^ i) y, ap (λ (x : ℕ). x * w) y));
      }

-- room for leaves: a subtree of height h has fan ^ h of them
pub room_is : (fan h n : ℕ) → lacking fan (λ i. fan ^ i) h n ≡ room fan h n
unfolding room lacking
room_is fan zero n = refl
room_is fan (suc h) n = rw (room_is fan h n) refl

pub room_fits : (fan h n : ℕ) → 1 ≤ fan → room fan h n ≤ fan ^ h
unfolding room
room_fits fan zero n some = omega arith
room_fits fan (suc h) n some =
    let few : fan - last_children fan h n ≤ fan - 1 = omega (arith, last_some fan h n) in
    let z : fan ≡ suc (fan - 1) = omega arith in
    omega (arith, room_fits fan h n some, mul-le-mul_right (fan ^ h) few, pow-succ' fan h, ap (λ (x : ℕ). x * fan ^ h) z)

pub room_none : (fan h n : ℕ) → h ≡ 0 → 0 ≡ room fan h n
unfolding room
room_none fan h n is = rw is refl

pub room_next : (fan i n r c w : ℕ) → r ≡ room fan i n → c ≡ last_children fan i n → w ≡ fan ^ i → r + (fan - c) * w ≡ room fan (i + 1) n
unfolding room
room_next fan i n r c w at last wide = let z : i + 1 ≡ suc i = omega arith in rw (at, last, wide, z) refl

-- up to height h no more than the leaves of a subtree of that height
pub room_few : (fan i h n r : ℕ) → 1 ≤ fan → i ≤ h → r ≡ room fan i n → r ≤ fan ^ h
room_few fan i h n r some low is = omega (arith, room_fits fan i n some, pow_rises fan i h some low)

-- the blocks of those leaves: a subtree of height h has bulk h of them
pub space_is : (fan h n : ℕ) → lacking fan (bulk fan) h n ≡ space fan h n
unfolding space lacking
space_is fan zero n = refl
space_is fan (suc h) n = rw (space_is fan h n) refl

pub space_none : (fan h n : ℕ) → h ≡ 0 → 0 ≡ space fan h n
unfolding space
space_none fan h n is = rw is refl

pub space_next : (fan i n s c b : ℕ) → s ≡ space fan i n → c ≡ last_children fan i n → b ≡ bulk fan i → s + (fan - c) * b ≡ space fan (i + 1) n
unfolding space
space_next fan i n s c b at last whole = let z : i + 1 ≡ suc i = omega arith in rw (at, last, whole, z) refl

space_fits : (fan h n : ℕ) → 1 ≤ fan → space fan h n ≤ bulk fan h
unfolding space bulk
space_fits fan zero n some = omega arith
space_fits fan (suc h) n some =
    let few : fan - last_children fan h n ≤ fan - 1 = omega (arith, last_some fan h n) in
    let z : fan ≡ suc (fan - 1) = omega arith in
    omega (arith, space_fits fan h n some, mul-le-mul_right (bulk fan h) few, ap (λ (x : ℕ). x * bulk fan h) z)

-- up to height h they fit, if the leaves of a subtree of that height are few
pub space_few : (fan i h n s : ℕ) → 2 ≤ fan → fan ^ h ≤ 2 ^ 50 → i ≤ h → s ≡ space fan i n → s ≤ 2 ^ 51
space_few fan i h n s two small low is =
    omega (arith, space_fits fan i n (omega arith), bulk_few fan i h (bulk fan i) two small low refl)
