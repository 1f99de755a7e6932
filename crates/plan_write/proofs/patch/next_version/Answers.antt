-- The version that was read is below the last, so one more fits.
use Rattle.plan_write.proofs.patch.PatchedAsPlanned.{version_fits, version_next}
use Rattle.plan_write.proofs.patch.next_version.Goals as goal

pub overflow_add-result : goal.overflow_add-result
overflow_add-result c = search version_fits

pub returns : goal.returns
returns c = search version_next
