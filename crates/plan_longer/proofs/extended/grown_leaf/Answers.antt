-- The old bytes with zeros after are the grown row's.
use Rattle.plan_longer.proofs.extended.RowContinued.{grown_leaf}
use Rattle.plan_longer.proofs.extended.grown_leaf.Goals as goal

pub returns : goal.returns
returns c = search grown_leaf
