-- What opening answered, or no byte.
use mathlib.Core.Path.{◌∙◌}
use Rattle.store_head.proofs.Handing.{bytes_or_none}
use Rattle.store_head.proofs.bytes_of.Goals as goal

pub returns : goal.returns
returns c = c.unwrap_or.ensures ∙ bytes_or_none c.args.answer
