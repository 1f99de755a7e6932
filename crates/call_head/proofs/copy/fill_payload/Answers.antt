use Rattle.call_head.proofs.descend.Descended.{slot_there}
use Rattle.call_head.proofs.copy.Copied.{filled_there, filled_gone}
use Rattle.call_head.proofs.copy.fill_payload.Goals as goal

pub block_of-requires : goal.block_of-requires
block_of-requires c = search slot_there

pub returns-then-s-pool : goal.returns-then-s-pool
returns-then-s-pool c = search filled_there

pub returns : goal.returns
returns c = search filled_gone
