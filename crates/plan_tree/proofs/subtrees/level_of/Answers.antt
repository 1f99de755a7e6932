use native.Mathlib.Omega.{arith}
use Rattle.plan_tree.proofs.subtrees.SubtreesFromBelow.{pow_rises, bulk_next, next_few, level_less, level_found}
use Rattle.plan_tree.proofs.subtrees.level_of.Goals as goal

pub overflow_add-h : goal.overflow_add-h
overflow_add-h c = grind (arith, level_less)

pub bulk-next-requires : goal.bulk-next-requires
bulk-next-requires c = grind (arith, level_less, pow_rises)

pub loop-next-init : goal.loop-next-init
loop-next-init c = grind (arith, level_less)

pub overflow_mul-next : goal.overflow_mul-next
overflow_mul-next c = grind (arith, level_less, next_few)

pub overflow_add-next : goal.overflow_add-next
overflow_add-next c = grind (arith, level_less, next_few)

pub loop-next-preserved : goal.loop-next-preserved
loop-next-preserved c = grind (arith, level_less, bulk_next)

pub returns : goal.returns
returns c = grind (arith, level_found)
