-- The length of any edition, at edition one.
use Rattle.rows_size.proofs.AtEditionOne.{one_here}
use Rattle.rows_read.proofs.length.in_lent.Goals as goal

pub length_call-requires-clause-proper : goal.length_call-requires-clause-proper
length_call-requires-clause-proper c = search one_here
