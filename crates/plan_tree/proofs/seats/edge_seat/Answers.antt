use mathlib.Core.Path.{refl}
use Prim.Native.Nat.{◌-◌}
use native.Mathlib.Omega.{arith}
use borrow.Author.Rules.{rules}
use Rattle.plan_tree.proofs.subtrees.SubtreesFromBelow.{pow_rises, pow_small}
use Rattle.plan_tree.proofs.seats.SeatsFromBelow.{edge_none, edge_below, edge_beside}
use Rattle.plan_tree.proofs.seats.edge_seat.Goals as goal

pub loop-height-init : goal.loop-height-init
loop-height-init c = (refl, omega arith)

pub space-below-requires : goal.space-below-requires
space-below-requires c = search (rules, pow_small)

pub room-requires : goal.room-requires
room-requires c = search (rules, pow_small)

pub in_row-requires : goal.in_row-requires
in_row-requires c = search (rules, pow_small)

pub returns-then-below-p : goal.returns-then-below-p
returns-then-below-p c =
    let x = c.args in
    let l = c.loop-height in
    let low = pow_rises x.fan (l.height - 1) x.h (omega arith) (omega arith) in
    let tall = c.loop-height-test.true in
    let all = c.space-below.ensures.0 in
    let here = c.room.ensures.0 in
    let sits = c.in_row.ensures.sits in
    record { sits = edge_beside x.fan x.h x.n x.p l.height _ _ _ l.invariant.0 tall all (omega arith) here sits; first_bound = omega arith }

pub loop-height-preserved : goal.loop-height-preserved
loop-height-preserved c = (search edge_below, omega arith)

pub returns : goal.returns
returns c = record { sits = search edge_none; first_bound = omega arith }
