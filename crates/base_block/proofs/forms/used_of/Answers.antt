-- By height; a count within its range uses no more than the payload.
use Prim.Native.Nat.{◌*◌, ◌≤◌}
use Rattle.laws.proofs.Checks.{used_leaf, used_inner, leaf_fits, inner_fits}
use native.Mathlib.Omega.{arith}
use Rattle.base_block.proofs.forms.used_of.Goals as goal

pub overflow_mul-result : goal.overflow_mul-result
overflow_mul-result c =
    let k : 4 * c.args.count ≤ c.args.e.leaf = search inner_fits in
    omega arith

pub returns-then-h-eq0 : goal.returns-then-h-eq0
returns-then-h-eq0 c = (search used_leaf, search leaf_fits)

pub returns-else-h-eq0 : goal.returns-else-h-eq0
returns-else-h-eq0 c = (search used_inner, search inner_fits)
