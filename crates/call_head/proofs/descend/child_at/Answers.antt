use Rattle.call_head.proofs.descend.Descended.{slot_there, child_there, child_gone}
use Rattle.call_head.proofs.descend.child_at.Goals as goal

pub block_of-requires : goal.block_of-requires
block_of-requires c = search slot_there

pub returns-then-s-pool : goal.returns-then-s-pool
returns-then-s-pool c = search child_there

pub returns : goal.returns
returns c = search child_gone
