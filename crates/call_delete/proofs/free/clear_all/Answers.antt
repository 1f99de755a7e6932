use Rattle.plan_slot.proofs.change.SlotLoop.{pool_turned, records_turned}
use Rattle.call_delete.proofs.free.FreedSoFar.{clear_turn}
use Rattle.call_delete.proofs.free.clear_all.Goals as goal

pub loop-i-preserved : goal.loop-i-preserved
loop-i-preserved c = search clear_turn

pub returns : goal.returns
returns c = record { pool_after = search pool_turned; records_after = search records_turned }
