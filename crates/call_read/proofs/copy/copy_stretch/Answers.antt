-- One stretch lies in one block, and stands behind what is there already.
use Rattle.call_read.proofs.copy.Stretches.{some_left, not_past, start_fits, leaf_in_row, slot_in_pool, stretch_in_block, copied_more}
use Rattle.call_read.proofs.copy.copy_stretch.Goals as goal

pub slot_at-requires : goal.slot_at-requires
slot_at-requires c = search leaf_in_row

pub block_of-b-requires : goal.block_of-b-requires
block_of-b-requires c = search slot_in_pool

pub overflow_add-place-2 : goal.overflow_add-place-2
overflow_add-place-2 c = search start_fits

pub fill-requires : goal.fill-requires
fill-requires c = search stretch_in_block

pub returns : goal.returns
returns c = record { lower_bound = (search some_left, search not_past); out_after = search copied_more }
