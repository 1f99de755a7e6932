-- `base_shape::shape::height_for` meets its contract: the height of n leaves is one above that of their share, which is less, so that the calls end.
use Prim.Native.Nat.{◌≤◌}
use native.Mathlib.Omega.{arith}
use Rattle.meaning.specs.Shape.{up}
use Rattle.laws.proofs.Totals.{up_falls}
use Rattle.laws.proofs.Heights.{height_small, height_more}
use Rattle.base_shape.proofs.shape.+height_for.Goals as goal

pub returns-then-n-le1 : goal.returns-then-n-le1
returns-then-n-le1 t c =
    let x = c.args in
    omega (arith, height_small x.fan x.n (omega arith) (omega arith))

pub height_for-requires : goal.height_for-requires
unfolding up
height_for-requires t c =
    let x = c.args in
    omega (arith, up_falls x.n x.fan (omega arith) (omega arith))

pub overflow_add-result : goal.overflow_add-result
unfolding up
overflow_add-result t c =
    let x = c.args in
    omega (arith, up_falls x.n x.fan (omega arith) (omega arith))

pub returns : goal.returns
unfolding up
returns t c =
    let x = c.args in
    let more : 2 ≤ x.n = omega arith in
    omega (arith, height_more x.fan x.n (omega arith) more, up_falls x.n x.fan (omega arith) more)
