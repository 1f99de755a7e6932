-- Wipe at edition one.
use Rattle.rows_size.proofs.AtEditionOne.{one_here}
use Rattle.store.proofs.changes.wipe.Goals as goal

pub wipe_call-requires : goal.wipe_call-requires
wipe_call-requires c = search one_here
