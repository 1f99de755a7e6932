use mathlib.Core.Path.{refl}
use native.Mathlib.Omega.{arith}
use Rattle.plan_tree.proofs.subtrees.SubtreesFromBelow.{bulk_none, bulk_next, bulk_few, next_few}
use Rattle.plan_tree.proofs.subtrees.bulk.Goals as goal

pub loop-init : goal.loop-init
loop-init c = bulk_none c.args.fan 0 refl

pub overflow_mul-r : goal.overflow_mul-r
overflow_mul-r c = grind (arith, next_few)

pub overflow_add-r : goal.overflow_add-r
overflow_add-r c = grind (arith, next_few)

pub loop-preserved : goal.loop-preserved
loop-preserved c = grind (arith, bulk_next)

pub returns : goal.returns
returns c = grind (arith, bulk_few)
