-- One slot over zeros, and the new children's behind it.
use Rattle.plan_longer.proofs.fresh.NewBlocksDrawn.{above_drawn}
use Rattle.plan_longer.proofs.fresh.draw_above.Goals as goal

pub returns : goal.returns
returns c = search above_drawn
