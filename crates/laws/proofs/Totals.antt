-- Rounded-up shares, block totals and leaf counts, for any fan-out from 2 and any payload from 1. A share `up n k` is the least m with
-- n ≤ k * m, and with 2 ≤ k it is below n from n = 2 on: so a claim of every n follows from 0, 1 and the step from the share to n.
use mathlib.Core.Path.{◌≡◌, refl, ◌∙◌}
use Prim.Native.Nat.{ℕ, zero, suc, ◌+◌, ◌-◌, ◌*◌, ◌≤◌, ◌<◌}
use native.Mathlib.Nat.{div-lt_iff_lt-mul, lt-div-mul-add, div-mul-le_self, mul-add-div}
use native.Mathlib.Nat.{mul-le-mul_left, mul-le-mul_right, lt_of_mul-lt-mul_left, add_assoc}
use native.Mathlib.Omega.{arith}
use borrow.Author.Tests.{lt-leb}
use Rattle.meaning.specs.Lists.{pick}
use Rattle.meaning.specs.Shape.{up, leaves_for, total_within, total}

-- k shares are enough
pub up_enough : (n k : ℕ) → 1 ≤ k → n ≤ k * up n k
unfolding up
up_enough n k some = omega (arith, lt-div-mul-add {a = n + (k - 1)} some)

-- and one fewer in each is not
pub up_tight : (n k : ℕ) → 1 ≤ k → k * up n k < n + k
unfolding up
up_tight n k some = omega (arith, div-mul-le_self (n + (k - 1)) k)

-- the share is the least that is enough
pub up_le : (n k m : ℕ) → 1 ≤ k → n ≤ k * m → up n k ≤ m
unfolding up
up_le n k m some h = omega (arith, (div-lt_iff_lt-mul {x = n + (k - 1)} {y = suc m} some).1 (omega arith))

-- and above all that is too little
pub up_gt : (n k m : ℕ) → 1 ≤ k → k * m < n → m < up n k
up_gt n k m some h = lt_of_mul-lt-mul_left k (omega (arith, up_enough n k some))

-- what is enough by less than one in each is the share
pub up_is : (n k m : ℕ) → 1 ≤ k → k * m < n + k → n ≤ k * m → up n k ≡ m
up_is n k zero some low high = omega (arith, up_le n k zero some high)
up_is n k (suc m) some low high = omega (arith, up_le n k (suc m) some high, up_gt n k m some (omega arith))

-- the share of nothing
pub up_zero : (k : ℕ) → 1 ≤ k → up 0 k ≡ 0
up_zero k some = up_is 0 k 0 some (omega arith) (omega arith)

-- full groups apart
pub up_add : (k q n : ℕ) → 1 ≤ k → up (k * q + n) k ≡ q + up n k
unfolding up
up_add k q n some = rw add_assoc (mul-add-div some q (n + (k - 1)))

-- full groups only
pub up_full : (k q : ℕ) → 1 ≤ k → up (k * q) k ≡ q
up_full k q some = up_is (k * q) k q some (omega arith) (omega arith)

-- more has no smaller share
pub up_mono : (m n k : ℕ) → 1 ≤ k → m ≤ n → up m k ≤ up n k
up_mono m n k some h = up_le m k (up n k) some (omega (arith, up_enough n k some))

-- from two on a share is at most two thirds
up_thirds : (n k : ℕ) → 2 ≤ k → 2 ≤ n → 3 * up n k ≤ 2 * n
up_thirds n k two h = thirds (up n k) (up_tight n k (omega arith))
  where
    thirds : (u : ℕ) → k * u < n + k → 3 * u ≤ 2 * n
    thirds zero t = omega arith
    thirds (suc u) t = omega (arith, mul-le-mul_right u two)

-- from two on a share is less
pub up_falls : (n k : ℕ) → 2 ≤ k → 2 ≤ n → up n k < n
up_falls n k two h = omega (arith, up_thirds n k two h)

-- a claim of 0, of 1, and of each n whose share has it, is one of every n
pub by_share : (P : ℕ → Type 0) (fan : ℕ) → 2 ≤ fan → ((n : ℕ) → n ≤ 1 → P n) → ((n : ℕ) → 2 ≤ n → P (up n fan) → P n) → (n : ℕ) → P n
by_share P fan two few more n = within n n (omega arith)
  where
    within : (k n : ℕ) → n ≤ k → P n
    within zero n h = few n (omega arith)
    within (suc k) zero h = few 0 (omega arith)
    within (suc k) (suc zero) h = few 1 (omega arith)
    within (suc k) (suc (suc m)) h =
        let n = suc (suc m) in
        more n (omega arith) (within k (up n fan) (omega (arith, up_falls n fan two (omega arith))))

-- total_within of one leaf
within_one : (k fan : ℕ) → total_within (suc k) fan 1 ≡ 1
unfolding total_within pick
within_one k fan = refl

-- and of more
within_more : (k fan n : ℕ) → 2 ≤ n → total_within (suc k) fan n ≡ n + total_within k fan (up n fan)
unfolding total_within pick
within_more k fan n h = rw (lt-leb n 1 h)

-- fuel from n on does not show
within_any : (j k fan n : ℕ) → 2 ≤ fan → 1 ≤ n → n ≤ j → n ≤ k → total_within j fan n ≡ total_within k fan n
within_any zero k fan n two some a b = absurd (omega arith)
within_any (suc j) zero fan n two some a b = absurd (omega arith)
within_any (suc j) (suc k) fan zero two some a b = absurd (omega arith)
within_any (suc j) (suc k) fan (suc zero) two some a b = cc (within_one j fan, within_one k fan)
within_any (suc j) (suc k) fan (suc (suc m)) two some a b =
    let n = suc (suc m) in
    let less = up_falls n fan two (omega arith) in
    let rest = within_any j k fan (up n fan) two (up_gt n fan 0 (omega arith) (omega arith)) (omega arith) (omega arith) in
    omega (arith, within_more j fan n (omega arith), within_more k fan n (omega arith))

-- no leaf has no block, and one leaf is one
pub total_small : (fan n : ℕ) → n ≤ 1 → total fan n ≡ n
unfolding total total_within
total_small fan zero h = refl
total_small fan (suc zero) h = within_one 0 fan
total_small fan (suc (suc n)) h = absurd (omega arith)

-- document 01's rule, first half
pub total_one : (fan : ℕ) → total fan 1 ≡ 1
total_one fan = total_small fan 1 (omega arith)

-- document 01's rule, second half
pub total_more : (fan n : ℕ) → 2 ≤ fan → 2 ≤ n → total fan n ≡ n + total fan (up n fan)
unfolding total
total_more fan zero two h = absurd (omega arith)
total_more fan (suc n) two h =
    let u = up (suc n) fan in
    let less = up_falls (suc n) fan two h in
    let some = up_gt (suc n) fan 0 (omega arith) (omega arith) in
    omega (arith, within_more n fan (suc n) h, within_any n u fan u two some (omega arith) (omega arith))

-- a block for each leaf or more
pub total_ge : (fan n : ℕ) → 2 ≤ fan → n ≤ total fan n
total_ge fan n two = by_share (λ n. n ≤ total fan n) fan two
    (λ n few. omega (arith, total_small fan n few)) (λ n more rest. omega (arith, total_more fan n two more)) n

-- three blocks for each leaf or fewer
pub total_le : (fan n : ℕ) → 2 ≤ fan → total fan n ≤ 3 * n
total_le fan n two = by_share (λ n. total fan n ≤ 3 * n) fan two
    (λ n few. omega (arith, total_small fan n few))
    (λ n more rest. omega (arith, total_more fan n two more, up_thirds n fan two more)) n

-- more leaves have no fewer blocks
pub total_mono : (fan m n : ℕ) → 2 ≤ fan → m ≤ n → total fan m ≤ total fan n
total_mono fan m n two h = by_share (λ m. (n : ℕ) → m ≤ n → total fan m ≤ total fan n) fan two
    (λ m few n h. omega (arith, total_small fan m few, total_ge fan n two))
    (λ m more rest n h. omega (
      arith,
      total_more fan m two more,
      total_more fan n two (omega arith),
      rest (up n fan) (up_mono m n fan (omega arith) h),
    )) m n h

-- no bytes are one leaf
pub leaves_zero : (leaf : ℕ) → leaves_for leaf 0 ≡ 1
unfolding leaves_for pick
leaves_zero leaf = refl

-- any other length is cut into leaves
pub leaves_up : (leaf len : ℕ) → 1 ≤ len → leaves_for leaf len ≡ up len leaf
unfolding leaves_for pick
leaves_up leaf len h = rw (lt-leb len 0 h)

-- the leaves have room for every byte
pub leaves_fit : (leaf len : ℕ) → 1 ≤ leaf → len ≤ leaf * leaves_for leaf len
leaves_fit leaf zero some = omega arith
leaves_fit leaf (suc len) some = rw (leaves_up leaf (suc len) (omega arith)) (up_enough (suc len) leaf some)

-- and one leaf fewer has not
pub leaves_tight : (leaf len : ℕ) → 1 ≤ leaf → 1 ≤ len → leaf * leaves_for leaf len < len + leaf
leaves_tight leaf len some h = rw (leaves_up leaf len h) (up_tight len leaf some)

-- a length has a leaf or more
pub leaves_some : (leaf len : ℕ) → 1 ≤ leaf → 1 ≤ leaves_for leaf len
leaves_some leaf zero some = omega (arith, leaves_zero leaf)
leaves_some leaf (suc len) some =
    rw (leaves_up leaf (suc len) (omega arith)) (up_gt (suc len) leaf 0 some (omega arith))

-- a longer blob has no fewer leaves
pub leaves_mono : (leaf m n : ℕ) → 1 ≤ leaf → m ≤ n → leaves_for leaf m ≤ leaves_for leaf n
leaves_mono leaf zero n some h = omega (arith, leaves_zero leaf, leaves_some leaf n some)
leaves_mono leaf (suc m) n some h =
    rw (leaves_up leaf (suc m) (omega arith), leaves_up leaf n (omega arith)) (up_mono (suc m) n leaf some h)

-- what has room by less than a leaf is the count
pub leaves_is : (leaf len n : ℕ) → 1 ≤ leaf → 1 ≤ n → len ≤ leaf * n → leaf * n < len + leaf → leaves_for leaf len ≡ n
leaves_is leaf zero n some low fits tight = absurd (omega (arith, mul-le-mul_left leaf low))
leaves_is leaf (suc len) n some low fits tight =
    leaves_up leaf (suc len) (omega arith) ∙ up_is (suc len) leaf n some tight fits
