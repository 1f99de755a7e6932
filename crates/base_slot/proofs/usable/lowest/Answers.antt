-- The first of the numbers below n at which the test holds.
use native.Mathlib.Omega.{arith}
use mathlib.Core.Path.{refl}
use Rattle.std.proofs.Common.{rules, tests}
use Rattle.std.proofs.lemmas.Iterator.{YieldsList-from_range}
use Rattle.std.proofs.lemmas.Iterator.Search.{find_from_yields_List}
use Rattle.meaning.specs.Bytes.{usable_slot}
use Rattle.base_slot.proofs.usable.UsableInOrder.{lowest_found}
use Rattle.base_slot.proofs.usable.lowest.Goals as goal

pub returns : goal.returns
returns c =
    let a = c.args in
    lowest_found a.records.now a.n c.find.result
    (find_from_yields_List (usable_slot a.records.now) _ _ c.find.result c.find.ensures.ran (YieldsList-from_range 0 a.n a.n refl (omega arith)) (λ x b q k. search (rules, tests)))
