-- Write of any edition, at edition one.
use Rattle.rows_size.proofs.AtEditionOne.{one_here}
use Rattle.rows_change.proofs.ChangesAtOne.{filled_here}
use Rattle.rows_change.proofs.change.WriteChange.in_lent.Goals as goal

pub write_call-requires-clause-proper : goal.write_call-requires-clause-proper
write_call-requires-clause-proper c = search one_here

pub write_call-requires-clause-size_value : goal.write_call-requires-clause-size_value
write_call-requires-clause-size_value c = search filled_here
