-- By cases.
use Rattle.base_slot.proofs.usable.UsableInOrder.{one_taken}
use Rattle.base_slot.proofs.usable.one_if.Goals as goal

pub returns : goal.returns
returns c = search one_taken
