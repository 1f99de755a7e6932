-- No more leaves need no more blocks. Otherwise the sum fits 64 bits, and the comparison of sums is that of the difference.
use Rattle.base_shape.proofs.vacancy.RoomInSums.{leaves_totalled, room_unasked, room_fits, room_lacks}
use borrow.Author.Rules.{rules}
use Rattle.base_shape.proofs.vacancy.lacks_room.Goals as goal

pub returns-then-want-leaves : goal.returns-then-want-leaves
returns-then-want-leaves c = search room_unasked

pub block_total-need-requires : goal.block_total-need-requires
block_total-need-requires c = (search rules, search rules, search leaves_totalled)

pub overflow_add-result : goal.overflow_add-result
overflow_add-result c = search room_fits

pub returns : goal.returns
returns c = search room_lacks
