-- Header, payload and zeros pasted one after the other are the block.
use Rattle.laws.proofs.Building.{block_made}
use Rattle.base_block.proofs.build.build_block.Goals as goal

pub returns : goal.returns
returns c = search block_made
