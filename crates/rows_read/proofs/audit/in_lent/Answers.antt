-- The audit of any edition, at edition one.
use Rattle.rows_size.proofs.AtEditionOne.{one_here}
use Rattle.rows_read.proofs.audit.in_lent.Goals as goal

pub audit_call-requires-clause-proper : goal.audit_call-requires-clause-proper
audit_call-requires-clause-proper c = search one_here
