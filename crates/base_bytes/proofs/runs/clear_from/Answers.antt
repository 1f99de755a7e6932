-- The lent rest comes back as zeros.
use Rattle.laws.proofs.Parts.{cleared_back}
use Rattle.base_bytes.proofs.runs.clear_from.Goals as goal

pub returns : goal.returns
returns c = search cleared_back
