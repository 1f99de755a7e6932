-- `base_shape::shape::leaf_count` meets its contract: for 1 ≤ len, `(len - 1) / leaf + 1` leaves have room for len bytes, and one fewer have not.
use mathlib.Core.Path.{◌≡◌, sym, ◌∙◌}
use Prim.Native.Nat.{ℕ, ◌+◌, ◌-◌, ◌/◌, ◌≤◌}
use native.Mathlib.Nat.{lt-div-mul-add, div-mul-le_self, div-le_self}
use native.Mathlib.Omega.{arith}
use Rattle.meaning.specs.Shape.{leaves_for}
use Rattle.laws.proofs.Totals.{leaves_zero, leaves_up, up_is}
use Rattle.base_shape.proofs.shape.leaf_count.Goals as goal

none : (leaf len : ℕ) → len ≡ 0 → 1 ≡ leaves_for leaf len
none leaf len h = rw h (sym (leaves_zero leaf))

more : (leaf len : ℕ) → 1 ≤ leaf → (len ≡ 0 → ⊥) → (len - 1) / leaf + 1 ≡ leaves_for leaf len
more leaf len some h =
    let room = lt-div-mul-add {a = len - 1} some in
    let tight = div-mul-le_self (len - 1) leaf in
    sym (leaves_up leaf len (omega arith) ∙ up_is len leaf ((len - 1) / leaf + 1) some (omega arith) (omega arith))

pub returns-then-len-eq0 : goal.returns-then-len-eq0
returns-then-len-eq0 c = search none

pub overflow_add-result : goal.overflow_add-result
overflow_add-result c = let x = c.args in omega (arith, div-le_self (x.len - 1) x.leaf)

pub returns : goal.returns
returns c = search more
