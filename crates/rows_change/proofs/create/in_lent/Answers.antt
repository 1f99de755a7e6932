-- Create of any edition, at edition one.
use Rattle.rows_size.proofs.AtEditionOne.{one_here, scratch_here}
use borrow.Author.Rules.{rules}
use Rattle.rows_change.proofs.create.in_lent.Goals as goal

pub create_call-requires-clause-proper : goal.create_call-requires-clause-proper
create_call-requires-clause-proper c = search one_here

pub create_call-requires-clause-clear : goal.create_call-requires-clause-clear
create_call-requires-clause-clear c = (search rules, search scratch_here)
