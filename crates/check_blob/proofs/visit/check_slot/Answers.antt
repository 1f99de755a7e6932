-- The record's version and the block are those of the slot.
use Rattle.check_blob.proofs.visit.VisitAsDefined.{slot_checked}
use Rattle.check_blob.proofs.visit.check_slot.Goals as goal

pub returns : goal.returns
returns c = search slot_checked
