-- The version is pasted, then the lent stretch comes back filled: both lie in one slot's part.
use Rattle.base_slot.proofs.slot.WithinOneSlot.{stretch_stored}
use Rattle.base_slot.proofs.slot.store_stretch.Goals as goal

pub returns : goal.returns
returns c = search stretch_stored
