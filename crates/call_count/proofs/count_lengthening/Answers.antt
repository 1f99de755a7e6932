use borrow.Author.Rules.{rules}
use native.Mathlib.Omega.{arith}
use Rattle.call_reshape.proofs.longer_slots.TurnsAsPlanned.{below_start, below_more}
use Rattle.call_count.proofs.Counts.{counting_on, counting_end, grow_one}
use Rattle.call_count.proofs.count_lengthening.Goals as goal

pub loop-i-init : goal.loop-i-init
loop-i-init c = (search rules, search below_start, search rules)

pub plan_slot-turn-requires-clause-here : goal.plan_slot-turn-requires-clause-here
plan_slot-turn-requires-clause-here c = c.requires.all_here.each _ c.loop-i-test.true

pub loop-i-preserved : goal.loop-i-preserved
loop-i-preserved c =
    let inv = c.loop-i.invariant in (
      counting_on _ _ _ _ inv.0 c.loop-i-test.true _ c.changes-count.ensures.1
          (λ x. grow_one _ _ _ _ _ _ _ _ _ _ _ _ inv.1 _ _ c.plan_slot-turn.ensures.payload_after _ c.changes-count.ensures.0),
      below_more _ _ _ inv.1 _ c.is_usable.ensures _ c.one_if-below.ensures.0,
      omega (arith, inv.2, c.one_if-below.ensures.1),
    )

pub returns-clause-value : goal.returns-clause-value
returns-clause-value c = counting_end _ _ _ _ c.loop-i.invariant.0 c.loop-i-test.false tt
