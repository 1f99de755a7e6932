-- Rows with a place for each slot are enough.
use Rattle.rows_size.proofs.EnoughPlaces.{clear_row}
use Rattle.rows_read.proofs.audit.in_places.Goals as goal

pub in_lent-requires : goal.in_lent-requires
in_lent-requires g c = search clear_row
