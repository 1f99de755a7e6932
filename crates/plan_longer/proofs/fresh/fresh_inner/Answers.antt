-- The slots put over zeros are the new row.
use Rattle.plan_longer.proofs.fresh.NewBlocksDrawn.{fresh_inner}
use Rattle.plan_longer.proofs.fresh.fresh_inner.Goals as goal

pub returns : goal.returns
returns c = search fresh_inner
