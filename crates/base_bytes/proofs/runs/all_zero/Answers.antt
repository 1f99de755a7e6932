-- The eights decide, and then the bytes after them.
use mathlib.Core.Path.{◌∙◌}
use Prim.Native.Nat.{ℕ}
use Rattle.std.proofs.Common.{rules, tests}
use Rattle.std.proofs.lemmas.Iterator.{YieldsList-from_slice}
use Rattle.std.proofs.lemmas.Iterator.Search.{all_from_yields_List}
use Rattle.std.specs.Prelude.{◌==◌}
use Rattle.meaning.specs.Lists.{zeros}
use Rattle.base_bytes.proofs.runs.Zeros.{eights_stop, eights_passed}
use Rattle.base_bytes.proofs.runs.all_zero.Goals as goal

pub returns-else-all : goal.returns-else-all
returns-else-all c =
    let k = all_from_yields_List zeros _ _ c.all.result c.all.ensures.ran (YieldsList-from_slice _ (c.iter.ensures.rest ∙ c.as_chunks.ensures.front)) (λ x b q k. search (rules, tests)) in
    eights_stop c.args.s.now c.all.result k c.if-all.false

pub returns-then-all : goal.returns-then-all
returns-then-all c =
    let k = all_from_yields_List zeros _ _ c.all.result c.all.ensures.ran (YieldsList-from_slice _ (c.iter.ensures.rest ∙ c.as_chunks.ensures.front)) (λ x b q k. search (rules, tests)) in
    let j = all_from_yields_List (λ (b : ℕ). b == 0) _ _ c.all-then-all.result c.all-then-all.ensures.ran (YieldsList-from_slice _ (c.iter-then-all.ensures.rest ∙ c.as_chunks.ensures.back)) (λ x b q k. search (rules, tests)) in
    eights_passed c.args.s.now c.all.result k c.if-all.true _ j
