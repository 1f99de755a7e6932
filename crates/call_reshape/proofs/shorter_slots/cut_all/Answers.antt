use Rattle.plan_slot.proofs.change.SlotLoop.{pool_turned, records_turned}
use Rattle.call_reshape.proofs.shorter_slots.TurnsAsPlanned.{turn_here, turn_fresh, turn_done}
use Rattle.call_reshape.proofs.shorter_slots.cut_all.Goals as goal

pub cut_slot-requires-clause-here : goal.cut_slot-requires-clause-here
cut_slot-requires-clause-here c = search turn_here

pub cut_slot-requires-clause-i_bound_2 : goal.cut_slot-requires-clause-i_bound_2
cut_slot-requires-clause-i_bound_2 c = search turn_fresh

pub loop-i-preserved : goal.loop-i-preserved
loop-i-preserved c = search turn_done

pub returns : goal.returns
returns c = record { pool_after = search pool_turned; records_after = search records_turned }
