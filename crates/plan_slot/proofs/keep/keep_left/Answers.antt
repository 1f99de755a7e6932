-- The slot is found, and its whole block copied.
use Rattle.plan_slot.proofs.keep.LeftEdgeFound.{keep_fits, keep_done}
use Rattle.plan_slot.proofs.keep.keep_left.Goals as goal

pub block_of-requires : goal.block_of-requires
block_of-requires c = search keep_fits

pub returns : goal.returns
returns c = search keep_done
