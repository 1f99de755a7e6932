-- `plan_tree::subtrees::bulk` meets its contract. The loop's invariant: r is the blocks of a full subtree as high as the turns made.
use mathlib.Core.Path.{◌≡◌}
use Rattle.laws_resize.specs.growth.Forms.{bulk}
use Rattle.plan_tree.proofs.subtrees.bulk.Given as goal

abbrev pub invariant-loop : goal.invariant-loop
invariant-loop l = l.r ≡ bulk l.fan l.counter
