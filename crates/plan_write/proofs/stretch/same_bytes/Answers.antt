-- The library compares the two parts.
use Rattle.plan_write.proofs.stretch.StretchAnswered.{same_parts}
use Rattle.plan_write.proofs.stretch.same_bytes.Goals as goal

pub returns : goal.returns
returns c = search same_parts
