-- Rows with a place for each slot are enough.
use Rattle.rows_change.proofs.ChangesAtOne.{long_rows}
use Rattle.rows_change.proofs.change.in_places.Goals as goal

pub in_lent-requires : goal.in_lent-requires
in_lent-requires g c = search long_rows
