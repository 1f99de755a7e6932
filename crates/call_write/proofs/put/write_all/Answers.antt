use Rattle.plan_slot.proofs.change.SlotLoop.{turning_start, pool_turned, records_turned}
use Rattle.call_write.proofs.put.WrittenSoFar.{turn_writable, write_turn}
use Rattle.call_write.proofs.put.write_all.Goals as goal

pub loop-i-init : goal.loop-i-init
loop-i-init c = search turning_start

pub write_slot-requires-clause-writable : goal.write_slot-requires-clause-writable
write_slot-requires-clause-writable c = search turn_writable

pub loop-i-preserved : goal.loop-i-preserved
loop-i-preserved c = search write_turn

pub returns : goal.returns
returns c = record { pool_after = search pool_turned; records_after = search records_turned }
