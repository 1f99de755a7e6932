-- The whole block of the root's slot.
use Rattle.plan_slot.proofs.keep.LeftEdgeFound.{kept_block}
use Rattle.plan_slot.proofs.keep.keep_root.Goals as goal

pub returns : goal.returns
returns c = search kept_block
