use Prim.Native.Nat.{◌+◌}
use native.Mathlib.Omega.{arith}
use Rattle.plan_tree.proofs.subtrees.SubtreesFromBelow.{pow_rises}
use Rattle.plan_tree.proofs.edge.EdgeFromBelow.{lacking_none, lacking_next}
use Rattle.plan_tree.proofs.edge.lacking.Goals as goal

pub loop-i-init : goal.loop-i-init
loop-i-init g c =
    let x = c.args in
    lacking_none x.fan x.h x.n (omega arith) _

pub last_children-requires : goal.last_children-requires
last_children-requires g c = grind (arith, pow_rises)

pub overflow_mul-r : goal.overflow_mul-r
overflow_mul-r g c =
    let x = c.args in
    let l = c.loop-i in
    let less = c.requires.sized.few _ _ c.loop-i-test.true c.size.ensures in
    let next = lacking_next x.fan x.h x.n (omega arith) _ l.i _ _ _ c.loop-i-test.true l.invariant c.last_children.ensures.0 c.size.ensures less in
    omega (arith, next.few, pow_rises x.fan (l.i + 1) x.h (omega arith) (omega arith))

pub overflow_add-r : goal.overflow_add-r
overflow_add-r g c =
    let x = c.args in
    let l = c.loop-i in
    let less = c.requires.sized.few _ _ c.loop-i-test.true c.size.ensures in
    let next = lacking_next x.fan x.h x.n (omega arith) _ l.i _ _ _ c.loop-i-test.true l.invariant c.last_children.ensures.0 c.size.ensures less in
    omega (arith, next.few, pow_rises x.fan (l.i + 1) x.h (omega arith) (omega arith))

pub loop-i-preserved : goal.loop-i-preserved
loop-i-preserved g c =
    let x = c.args in
    let l = c.loop-i in
    let less = c.requires.sized.few _ _ c.loop-i-test.true c.size.ensures in
    lacking_next x.fan x.h x.n (omega arith) _ l.i _ _ _ c.loop-i-test.true l.invariant c.last_children.ensures.0 c.size.ensures less
