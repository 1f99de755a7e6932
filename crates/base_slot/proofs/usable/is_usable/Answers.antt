-- By the record's state, then its version.
use Rattle.base_slot.proofs.usable.UsableInOrder.{usable_live, usable_free}
use Rattle.base_slot.proofs.usable.is_usable.Goals as goal

pub returns-else-state_of-eq0 : goal.returns-else-state_of-eq0
returns-else-state_of-eq0 c = search usable_live

pub returns-then-state_of-eq0 : goal.returns-then-state_of-eq0
returns-then-state_of-eq0 c = search usable_free
