-- A pool's length in blocks is its number of slots.
use Rattle.rows_size.proofs.EnoughPlaces.{slots_said}
use Rattle.rows_size.proofs.slots_of.Goals as goal

pub returns : goal.returns
returns c = search slots_said
