-- `plan_tree::edge::last_children` meets its contract: the definition is the same, and a rest is below the fan-out.
use native.Mathlib.Omega.{arith}
use Rattle.plan_tree.proofs.subtrees.SubtreesFromBelow.{pow_some}
use Rattle.plan_tree.proofs.edge.EdgeFromBelow.{last_is, last_fits}
use Rattle.plan_tree.proofs.edge.last_children.Goals as goal

pub nonzero_div-result : goal.nonzero_div-result
nonzero_div-result c =
    let x = c.args in
    omega (arith, pow_some x.fan x.h (omega arith))

pub overflow_add-result : goal.overflow_add-result
overflow_add-result c =
    let x = c.args in
    omega (arith, last_is x.fan x.h x.n _ c.power.ensures, last_fits x.fan x.h x.n (omega arith))

pub returns : goal.returns
returns c =
    let x = c.args in
    omega (arith, last_is x.fan x.h x.n _ c.power.ensures, last_fits x.fan x.h x.n (omega arith))
