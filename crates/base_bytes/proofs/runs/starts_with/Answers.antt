-- The library's test of the front.
use mathlib.Core.Path.{◌∙◌}
use Rattle.base_bytes.proofs.runs.FirstBytes.{starts_is}
use Rattle.base_bytes.proofs.runs.starts_with.Goals as goal

pub returns : goal.returns
returns c = c.starts_with.ensures.value ∙ starts_is c.args.s.now c.args.x c.args.y
