-- The first slots of the payload are those of the cut row.
use Rattle.plan_shorter.proofs.trimmed.RowCut.{cut_inner}
use Rattle.plan_shorter.proofs.trimmed.cut_inner.Goals as goal

pub returns : goal.returns
returns c = search cut_inner
