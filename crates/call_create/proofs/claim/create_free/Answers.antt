-- No usable slot, or one change.
use Rattle.call_create.proofs.claim.OneNewSlot.{create_full, create_line, create_places, create_small, create_fits, create_done}
use borrow.Author.Rules.{rules}
use Rattle.call_create.proofs.claim.create_free.Goals as goal

pub returns-in_default : goal.returns-in_default
returns-in_default c = search create_full

pub record_of-requires : goal.record_of-requires
record_of-requires c = search create_line

pub overflow_add-next : goal.overflow_add-next
overflow_add-next c = search create_fits

pub put_cell-requires : goal.put_cell-requires
put_cell-requires c = record { proper = search rules; places = search create_places; slot_bound = (search create_small, search rules) }

pub returns : goal.returns
returns c = search create_done
