-- A read of any edition, at edition one.
use Rattle.rows_size.proofs.AtEditionOne.{one_here}
use Rattle.rows_read.proofs.read.in_lent.Goals as goal

pub read_call-requires-clause-proper : goal.read_call-requires-clause-proper
read_call-requires-clause-proper c = search one_here
