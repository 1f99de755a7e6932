use native.Mathlib.Omega.{arith}
use borrow.Author.Rules.{rules}
use Rattle.plan_tree.proofs.subtrees.SubtreesFromBelow.{pow_small, bulk_two}
use Rattle.plan_tree.proofs.seats.SeatsFromBelow.{nears_start, nears_down, share_of_left, sits_leaf, sits_above}
use Rattle.plan_tree.proofs.seats.locate.Goals as goal

pub loop-height-init : goal.loop-height-init
loop-height-init c = search nears_start

pub returns-then-left-eq0 : goal.returns-then-left-eq0
returns-then-left-eq0 c =
    let n = c.loop-height.invariant in
    record { sits = search sits_above; first_le_p = omega (arith, n.low, n.few) }

pub bulk-size-requires : goal.bulk-size-requires
bulk-size-requires c = search (rules, pow_small)

pub nonzero_div-first : goal.nonzero_div-first
nonzero_div-first c = search (rules, bulk_two)

pub power-requires : goal.power-requires
power-requires c = search (rules, pow_small)

pub overflow_mul-first : goal.overflow_mul-first
overflow_mul-first c = grind (arith, share_of_left)

pub overflow_add-first : goal.overflow_add-first
overflow_add-first c = grind (arith, share_of_left)

pub nonzero_rem-left : goal.nonzero_rem-left
nonzero_rem-left c = search (rules, bulk_two)

pub loop-height-preserved : goal.loop-height-preserved
loop-height-preserved c = search nears_down

pub returns : goal.returns
returns c =
    let n = c.loop-height.invariant in
    record { sits = search sits_leaf; first_le_p = omega (arith, n.low, n.few) }
