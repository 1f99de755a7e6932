use borrow.Author.Rules.{rules}
use Rattle.plan_slot.proofs.keep.LeftEdgeFound.{some_fan, below_start, below_fits, below_next}
use Rattle.plan_slot.proofs.keep.left_slot.Goals as goal

pub loop-init : goal.loop-init
loop-init c = search below_start

pub child_of-at-requires : goal.child_of-at-requires
child_of-at-requires c = record { proper = search rules; size_in_bounds = (search below_fits, search some_fan) }

pub loop-preserved : goal.loop-preserved
loop-preserved c = search below_next
