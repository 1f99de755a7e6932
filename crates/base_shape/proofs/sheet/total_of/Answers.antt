-- `base_shape::sheet::total_of` meets its contract: the sheet as it stands in the code is the list of the totals of 1 to 937, which the checker computes, and so
-- row n - 1 is that of n leaves.
use mathlib.Core.Path.{◌≡◌, refl, ap, ◌∙◌}
use Prim.Native.Nat.{◌+◌, ◌-◌}
use native.Mathlib.Omega.{arith}
use Rattle.meaning.specs.Lists.{pick, range}
use Rattle.meaning.specs.Shape.{up, total_within, total}
use Rattle.base_shape.proofs.sheet.SettledOnce.{row_right}
use Rattle.base_shape.proofs.sheet.total_of.Goals as goal

pub returns : goal.returns
unfolding range total total_within up pick
returns c =
    let n = c.args.n in
    let e : n - 1 + 1 ≡ n = omega arith in
    row_right (total 12) 937 refl (n - 1) (omega arith) ∙ ap (total 12) e
