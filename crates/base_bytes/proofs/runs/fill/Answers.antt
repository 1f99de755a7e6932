-- The first i bytes are copied; at the end i is the length.
use mathlib.Core.Path.{refl}
use Rattle.meaning.specs.Lists.{part}
use Rattle.base_bytes.proofs.runs.Copied.{copied_more, copied_whole}
use Rattle.base_bytes.proofs.runs.fill.Goals as goal

pub loop-i-init : goal.loop-i-init
unfolding part
loop-i-init c = refl

pub loop-i-preserved : goal.loop-i-preserved
loop-i-preserved c = search copied_more

pub returns : goal.returns
returns c = search copied_whole
