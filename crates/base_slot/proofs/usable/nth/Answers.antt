-- Of the list, or past its end.
use Rattle.base_slot.proofs.usable.UsableInOrder.{nth_there, nth_none}
use Rattle.base_slot.proofs.usable.nth.Goals as goal

pub returns-then-k-free : goal.returns-then-k-free
returns-then-k-free c = search nth_there

pub returns-else-k-free : goal.returns-else-k-free
returns-else-k-free c = search nth_none
