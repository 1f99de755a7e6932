-- Totals and a height, each worked out once.
use Rattle.call_resize.proofs.fit.MoreLeaves.{blocks_within}
use Rattle.call_resize.proofs.fit.tower_of.Goals as goal

pub overflow_sub-taken : goal.overflow_sub-taken
overflow_sub-taken c = search blocks_within
