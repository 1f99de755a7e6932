use Rattle.call_head.proofs.descend.Descended.{slot_there, height_there, height_gone}
use Rattle.call_head.proofs.descend.height_at.Goals as goal

pub block_of-requires : goal.block_of-requires
block_of-requires c = search slot_there

pub returns-then-root-pool : goal.returns-then-root-pool
returns-then-root-pool c = search height_there

pub returns : goal.returns
returns c = search height_gone
