-- The version of a slot of the blob is at most the last, for it is of 64 bits.
use Rattle.check_survey.proofs.worn.WornSoFar.{slot_version}
use Rattle.check_survey.proofs.worn.is_worn_slot.Goals as goal

pub returns-then-noted : goal.returns-then-noted
returns-then-noted c = search slot_version
