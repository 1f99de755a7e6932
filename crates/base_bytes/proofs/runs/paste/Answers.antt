-- The lent part comes back as the new bytes, which is what pasting says.
use Rattle.laws.proofs.Parts.{paste_back}
use Rattle.base_bytes.proofs.runs.paste.Goals as goal

pub returns : goal.returns
returns c = search paste_back
