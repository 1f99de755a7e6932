-- `plan_tree::subtrees::places` meets its contract: a rounded-up share is the same, and a power is not 0.
use native.Mathlib.Omega.{arith}
use Rattle.plan_tree.proofs.subtrees.SubtreesFromBelow.{pow_some, places_is}
use Rattle.plan_tree.proofs.subtrees.places.Goals as goal

pub div_ceil-requires : goal.div_ceil-requires
div_ceil-requires c = grind (arith, pow_some)

pub returns : goal.returns
returns c = (search places_is, omega arith)
