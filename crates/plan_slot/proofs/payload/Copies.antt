-- A payload as the code makes it: a block's first payload bytes over zeros, and how many bytes a leaf holds.
use mathlib.Core.Path.{◌≡◌, ap, ◌∙◌}
use mathlib.Core.List.{List}
use Prim.Native.Nat.{ℕ, ◌+◌, ◌-◌, ◌*◌, ◌^◌, ◌≤◌, ◌<◌, min}
use native.Mathlib.Nat.{mul-le-mul_left}
use native.Mathlib.Omega.{arith}
use lib.ListN.{length, take, drop, replicate, length-replicate}
use borrow.Rule.Slice.PartMut.{put_mid}
use Rattle.meaning.specs.declared.Edition.{Edition}
use Rattle.meaning.specs.Lists.{part, pasted, padded}
use Rattle.meaning.specs.Edition.{Proper}
use Rattle.meaning.specs.Resize.{share}
use Rattle.laws.proofs.Numbers.{part_length}
use Rattle.laws.proofs.Parts.{copy_back}
use Rattle.plan_slot.proofs.payload.Rows.{over_zeros}

-- the first n bytes of a block's payload in a part of zeros
pub copied_front : (n : ℕ) (x₀ x₁ b ys : List ℕ) → n ≤ length x₀ → 16 + n ≤ length b → x₁ ≡ replicate (length x₀) 0
    → ys ≡ part 16 (length (take (n - 0) (drop 0 x₁))) b → put_mid 0 (n - 0) x₁ ys ≡ padded (length x₀) (part 16 n b)
copied_front n x₀ x₁ b ys fits long e₁ e =
    let z : n - 0 ≡ 0 + n - 0 = omega arith in
    let k : length x₁ ≡ length x₀ = ap length e₁ ∙ length-replicate (length x₀) 0 in
    let w : length (part 16 n b) ≡ n = part_length 16 n b long in
    ap (λ (j : ℕ). put_mid 0 j x₁ ys) z
    ∙ copy_back 0 n 16 x₁ b ys (omega arith) long (e ∙ ap (λ (j : ℕ). part 16 (length (take j (drop 0 x₁))) b) z)
    ∙ ap (λ (l : List ℕ). pasted 0 (part 16 n b) l) e₁ ∙ over_zeros (length x₀) (part 16 n b) (omega arith)

-- a leaf's number times a leaf's bytes fits 64 bits
pub start_small : (e : Edition) → Proper e → (i : ℕ) → i ≤ 2 ^ 50 → e.leaf * i < 2 ^ 64
start_small e p i h = omega (arith, p.byte, mul-le-mul_left e.leaf h)

-- a leaf holds what is left from its start on, and no more than it takes
pub share_is : (e : Edition) (len i d r : ℕ) → d ≡ len - e.leaf * i → r ≡ min e.leaf d → r ≡ share e len i
unfolding share
share_is e len i d r left least = omega arith

-- past the length, nothing; in the last leaf, what is left; else all that fits
pub share_past : (e : Edition) (len i : ℕ) → len ≤ e.leaf * i → 0 ≡ share e len i
unfolding share
share_past e len i h = omega arith

pub share_last : (e : Edition) (len i : ℕ) → e.leaf * i < len → len - e.leaf * i < e.leaf → len - e.leaf * i ≡ share e len i
unfolding share
share_last e len i h k = omega arith

pub share_full : (e : Edition) (len i : ℕ) → e.leaf ≤ len - e.leaf * i → e.leaf ≡ share e len i
unfolding share
share_full e len i k = omega arith
