-- Block and record are stored with the same version.
use Rattle.plan_write.proofs.patch.PatchedAsPlanned.{pool_stored, records_stored}
use Rattle.plan_write.proofs.patch.store_leaf.Goals as goal

pub returns : goal.returns
returns c = record { pool_after = search pool_stored; records_after = search records_stored }
