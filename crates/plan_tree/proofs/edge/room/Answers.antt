-- `plan_tree::edge::room` meets its contract: what adds up are the leaves of full subtrees, whose number is not 0.
use Prim.Native.Nat.{◌^◌}
use native.Mathlib.Omega.{arith}
use borrow.Author.Rules.{rules}
use Rattle.plan_tree.proofs.subtrees.SubtreesFromBelow.{pow_rises, pow_some}
use Rattle.plan_tree.proofs.edge.EdgeFromBelow.{room_is, room_fits}
use Rattle.plan_tree.proofs.edge.room.Goals as goal

pub lacking-requires : goal.lacking-requires
lacking-requires c =
    let x = c.args in
    record {
      fan_bound = search rules;
      sized = record {
        may = λ i low. grind (arith, pow_rises);
        few = λ i r low is. grind (arith, pow_some);
      };
    }

pub returns : goal.returns
returns c =
    let x = c.args in
    let sum = c.lacking.ensures.sum (λ i. x.fan ^ i) (λ i r low is. is) in
    omega (arith, sum, room_is x.fan x.h x.n, room_fits x.fan x.h x.n (omega arith))
