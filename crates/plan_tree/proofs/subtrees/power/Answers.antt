-- A lower power is no larger, so each fits.
use mathlib.Core.Path.{sym}
use Prim.Native.Nat.{◌+◌}
use native.Mathlib.Nat.{pow-zero}
use native.Mathlib.Omega.{arith}
use Rattle.plan_tree.proofs.subtrees.SubtreesFromBelow.{pow_next, pow_rises}
use Rattle.plan_tree.proofs.subtrees.power.Goals as goal

pub loop-init : goal.loop-init
loop-init c = sym (pow-zero c.args.fan)

pub overflow_mul-w : goal.overflow_mul-w
overflow_mul-w c =
    let x = c.args in
    let l = c.loop in
    omega (arith, pow_next x.fan l.counter l.w l.invariant, pow_rises x.fan (l.counter + 1) x.h (omega arith) (omega arith))

pub loop-preserved : goal.loop-preserved
loop-preserved c = grind (arith, pow_next)
