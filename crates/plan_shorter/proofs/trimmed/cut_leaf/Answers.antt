-- The kept bytes are those of the cut row.
use Rattle.plan_shorter.proofs.trimmed.RowCut.{cut_leaf}
use Rattle.plan_shorter.proofs.trimmed.cut_leaf.Goals as goal

pub returns : goal.returns
returns c = search cut_leaf
