-- `plan_tree::edge::space` meets its contract: what adds up are the blocks of full subtrees, fewer than twice the leaves.
use native.Mathlib.Omega.{arith}
use borrow.Author.Rules.{rules}
use Rattle.laws_resize.specs.growth.Forms.{bulk}
use Rattle.plan_tree.proofs.subtrees.SubtreesFromBelow.{pow_rises, bulk_twice}
use Rattle.plan_tree.proofs.edge.EdgeFromBelow.{space_is}
use Rattle.plan_tree.proofs.edge.space.Goals as goal

pub lacking-requires : goal.lacking-requires
lacking-requires c =
    let x = c.args in
    record {
      fan_bound = search rules;
      sized = record {
        may = λ i low. grind (arith, pow_rises);
        few = λ i r low is. grind (arith, bulk_twice);
      };
    }

pub returns : goal.returns
returns c =
    let x = c.args in
    let sum = c.lacking.ensures.sum (bulk x.fan) (λ i r low is. is.0) in
    omega (arith, sum, space_is x.fan x.h x.n, c.lacking.ensures.few)
