-- Whether the test holds of one of the numbers below n.
use native.Mathlib.Omega.{arith}
use mathlib.Core.Bool.{not}
use mathlib.Core.Path.{refl}
use Rattle.std.proofs.Common.{rules, tests}
use Rattle.std.proofs.lemmas.Iterator.{YieldsList-from_range}
use Rattle.std.proofs.lemmas.Iterator.Search.{any_from_yields_List}
use Rattle.check_survey.specs.worn.{fresh_slot}
use Rattle.check_survey.proofs.worn.WornSoFar.{worn_any}
use Rattle.check_survey.proofs.worn.is_worn.Goals as goal

pub returns : goal.returns
returns c =
    let a = c.args in
    worn_any a.records.now a.heights.now a.n c.any.result
    (any_from_yields_List (λ i. not (fresh_slot a.records.now a.heights.now i)) _ _ c.any.result c.any.ensures.ran (YieldsList-from_range 0 a.n a.n refl (omega arith)) (λ x b q k. search (rules, tests)))
