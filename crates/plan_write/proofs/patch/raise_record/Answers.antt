-- The state that was read is the state that is put.
use Rattle.plan_write.proofs.patch.PatchedAsPlanned.{record_raised}
use Rattle.plan_write.proofs.patch.raise_record.Goals as goal

pub returns : goal.returns
returns c = search record_raised
