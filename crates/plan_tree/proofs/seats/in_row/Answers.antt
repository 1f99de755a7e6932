-- `plan_tree::seats::in_row` meets its contract: the definition is the same, and a row has no more leaves than blocks.
use native.Mathlib.Omega.{arith}
use borrow.Author.Rules.{rules}
use Rattle.plan_tree.proofs.subtrees.SubtreesFromBelow.{bulk_two}
use Rattle.plan_tree.proofs.seats.SeatsFromBelow.{share_two, sits_row}
use Rattle.plan_tree.proofs.seats.in_row.Goals as goal

pub nonzero_rem-p : goal.nonzero_rem-p
nonzero_rem-p c = search (rules, bulk_two)

pub nonzero_div-result : goal.nonzero_div-result
nonzero_div-result c = search (rules, bulk_two)

pub overflow_mul-result : goal.overflow_mul-result
overflow_mul-result c = grind (arith, share_two)

pub overflow_add-result : goal.overflow_add-result
overflow_add-result c = grind (arith, share_two)

pub overflow_add-result-2 : goal.overflow_add-result-2
overflow_add-result-2 c = grind (arith, share_two)

pub returns : goal.returns
returns c =
    let x = c.args in
    let whole = c.bulk-size.ensures.0 in
    let rest = c.locate-s.ensures.first_le_p.0 in
    let fits = share_two x.fan x.h x.p _ _ _ (omega arith) whole c.power.ensures rest in
    record { sits = search sits_row; first_bound = omega arith }
