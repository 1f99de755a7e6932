-- A place becomes the part of the pool that starts there, a refusal an empty part at the pool's start and its two numbers.
use Rattle.call_show.proofs.Handing.{placed_within, placed_fits, shown_at_lem, shown_part_lem, shown_nothing_refused, shown_nowhere, shown_at_start, shown_empty, shown_number_lem, shown_slot_lem}
use borrow.Author.Rules.{rules}
use Rattle.store.proofs.reads.show.Goals as goal

pub overflow_add-end : goal.overflow_add-end
overflow_add-end c = search placed_fits

pub slice_bounds-result-end : goal.slice_bounds-result-end
slice_bounds-result-end c = search placed_within

pub returns-in-Ok : goal.returns-in-Ok
returns-in-Ok c = record {
  ref_ptr_value = (search rules, search shown_at_lem);
  result_value = search shown_part_lem;
  number_after = search shown_nothing_refused;
  slot_after = search shown_nowhere;
}

pub returns-in-Err : goal.returns-in-Err
returns-in-Err c = record {
  ref_ptr_value = (search rules, search shown_at_start);
  result_value = search shown_empty;
  number_after = search shown_number_lem;
  slot_after = search shown_slot_lem;
}
