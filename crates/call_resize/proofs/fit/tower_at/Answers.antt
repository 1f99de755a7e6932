-- The height is read off the root's block.
use Rattle.call_resize.proofs.fit.Longer.{measured}
use Rattle.call_resize.proofs.fit.tower_at.Goals as goal

pub returns : goal.returns
returns c = search measured
