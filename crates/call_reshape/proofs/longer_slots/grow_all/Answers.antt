use native.Mathlib.Omega.{arith}
use Rattle.plan_slot.proofs.change.SlotLoop.{turning_start, pool_turned, records_turned}
use Rattle.call_reshape.proofs.longer_slots.TurnsAsPlanned.{below_start, here_now, grow_turn, below_turn}
use borrow.Author.Rules.{rules}
use Rattle.call_reshape.proofs.longer_slots.grow_all.Goals as goal

pub loop-i-init : goal.loop-i-init
loop-i-init c = (search turning_start, search below_start, search rules)

pub grow_slot-requires-clause-here : goal.grow_slot-requires-clause-here
grow_slot-requires-clause-here c = search here_now

pub loop-i-preserved : goal.loop-i-preserved
loop-i-preserved c =
    let inv = c.loop-i.invariant in (
      grow_turn _ _ _ _ _ _ _ _ _ _ _ _ _ _ inv.0 c.requires.whole c.loop-i-test.true _ inv.1 _ _
          c.grow_slot.ensures.pool_after c.grow_slot.ensures.records_after,
      below_turn _ _ _ _ _ _ _ _ _ _ _ _ _ _ inv.0 _ inv.1 _ c.is_usable.ensures _ c.one_if-more.ensures.0,
      omega (arith, inv.2, c.one_if-more.ensures.1),
    )

pub returns : goal.returns
returns c = record { pool_after = search pool_turned; records_after = search records_turned }
