-- Refusal 11 in numbers of 64 bits: more leaves are wanted than there are, and the blocks that there are and the free slots together are fewer than the
-- blocks wanted.
use mathlib.Core.Path.{◌≡◌, sym, ◌∙◌}
use mathlib.Core.Bool.{false}
use Prim.Native.Nat.{ℕ, suc, zero, ◌+◌, ◌-◌, ◌*◌, ◌^◌, ◌≤◌, ◌<◌}
use native.Mathlib.Nat.{mul-le-mul_right}
use native.Mathlib.Omega.{arith}
use borrow.Author.Tests.{lt-ltb, le-ltb, ltb-true, ltb-false}
use lib.Dec.{ltb}
use mir.Syntax.{w64}
use mir.Val.{Fits}
use Rattle.meaning.specs.declared.Edition.{Edition}
use Rattle.meaning.specs.Edition.{Proper}
use Rattle.meaning.specs.Shape.{leaves_for, total}
use Rattle.laws.proofs.Inversions.{by_test}
use Rattle.laws.proofs.Totals.{total_le, total_mono, leaves_zero, leaves_tight}

-- the leaves of a length of 64 bits are few enough to be totalled
pub leaves_few : (e : Edition) → Proper e → (len : ℕ) → len < 2 ^ 64 → leaves_for e.leaf len ≤ 2 ^ 62
leaves_few e p zero less = rw (leaves_zero e.leaf) (omega arith)
leaves_few e p (suc len) less =
    let t = leaves_tight e.leaf (suc len) p.some (omega arith) in
    let f : 8 ≤ e.leaf = omega (arith, p.fills, p.two) in
    let m : 8 * leaves_for e.leaf (suc len) ≤ e.leaf * leaves_for e.leaf (suc len) = mul-le-mul_right (leaves_for e.leaf (suc len)) f in
    omega (arith, p.byte)

-- so that they may be
pub leaves_totalled : (e : Edition) → Proper e → (len want : ℕ) → Fits w64 len → want ≡ leaves_for e.leaf len → want ≤ 2 ^ 62
leaves_totalled e p len want fits is = let few = leaves_few e p len (omega (arith, fits.fits)) in omega arith

-- no more leaves need no new block
pub room_unasked : (e : Edition) → Proper e → (leaves len free want : ℕ) → want ≡ leaves_for e.leaf len → want ≤ leaves
    → false ≡ ltb free (total e.fan (leaves_for e.leaf len) - total e.fan leaves)
room_unasked e p leaves len free want ew few =
    sym (le-ltb free (total e.fan (leaves_for e.leaf len) - total e.fan leaves)
    (omega (arith, total_mono e.fan (leaves_for e.leaf len) leaves p.two (omega arith))))

-- the blocks that there are and the free slots fit
pub room_fits : (e : Edition) → Proper e → (leaves free have : ℕ) → have ≡ total e.fan leaves → leaves ≤ 2 ^ 32 → free ≤ 2 ^ 32 → Fits w64 (have + free)
room_fits e p leaves free have eh l f = record { fits = omega (arith, total_le e.fan leaves p.two) }

-- compared as sums
pub room_compared : (have need free : ℕ) → ltb (have + free) need ≡ ltb free (need - have)
room_compared have need free =
    by_test (ltb (have + free) need)
    (λ t. t ∙ sym (lt-ltb free (need - have) (omega (arith, ltb-true (have + free) need t))))
    (λ t. t ∙ sym (le-ltb free (need - have) (omega (arith, ltb-false (have + free) need t))))

-- of totals
pub room_lacks : (e : Edition) (leaves len free have want need : ℕ) → have ≡ total e.fan leaves → want ≡ leaves_for e.leaf len
    → need ≡ total e.fan want → ltb (have + free) need ≡ ltb free (total e.fan (leaves_for e.leaf len) - total e.fan leaves)
room_lacks e leaves len free have want need eh ew en = rw (eh, en, ew) (room_compared (total e.fan leaves) (total e.fan (leaves_for e.leaf len)) free)
