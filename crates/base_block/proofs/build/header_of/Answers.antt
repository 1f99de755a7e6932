-- The array's four bytes, the slot's four and the version's eight are the header.
use Rattle.laws.proofs.Building.{header_made}
use Rattle.base_block.proofs.build.header_of.Goals as goal

pub returns : goal.returns
returns c = search header_made
