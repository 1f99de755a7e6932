-- Refusal 1, or the new blob in rows that suffice.
use Rattle.store.proofs.Lengths.{most_slots, no_create}
use Rattle.store.proofs.changes.create.Goals as goal
use Rattle.laws.proofs.HandedOn.{handed}

pub returns-in_err-check_lengths : goal.returns-in_err-check_lengths
returns-in_err-check_lengths c = rw (handed c.from_residual.ensures.1) (search (no_create, c.in_err-check_lengths.was))

pub in_rows-requires : goal.in_rows-requires
in_rows-requires c = search (most_slots, c.in_ok-check_lengths.was)
