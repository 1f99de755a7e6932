-- Delete of any edition, at edition one.
use Rattle.rows_size.proofs.AtEditionOne.{one_here, scratch_here}
use Rattle.rows_change.proofs.change.DeleteChange.in_lent.Goals as goal

pub delete_call-requires-clause-proper : goal.delete_call-requires-clause-proper
delete_call-requires-clause-proper c = search one_here

pub delete_call-requires-clause-scratch_len : goal.delete_call-requires-clause-scratch_len
delete_call-requires-clause-scratch_len c = search scratch_here
