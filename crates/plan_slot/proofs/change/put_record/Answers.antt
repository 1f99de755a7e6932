-- The record that was built is what is stored.
use Rattle.plan_slot.proofs.change.SlotLoop.{line_stored}
use Rattle.plan_slot.proofs.change.put_record.Goals as goal

pub returns : goal.returns
returns c = search line_stored
