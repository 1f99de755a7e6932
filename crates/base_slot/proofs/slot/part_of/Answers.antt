-- The lent part from width * slot on is that slot's.
use Rattle.laws.proofs.Parts.{lent_part, lent_length}
use Rattle.base_slot.proofs.slot.part_of.Goals as goal

pub returns : goal.returns
returns c = (search lent_part, search lent_length)
