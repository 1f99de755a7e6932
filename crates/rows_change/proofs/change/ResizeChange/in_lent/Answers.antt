-- Resize of any edition, at edition one.
use Rattle.rows_size.proofs.AtEditionOne.{one_here}
use Rattle.rows_change.proofs.ChangesAtOne.{drafts_here, resize_one}
use Rattle.rows_change.proofs.change.ResizeChange.in_lent.Goals as goal

pub resize_call-requires-clause-proper : goal.resize_call-requires-clause-proper
resize_call-requires-clause-proper c = search one_here

pub resize_call-requires-clause-drafts : goal.resize_call-requires-clause-drafts
resize_call-requires-clause-drafts c = search drafts_here

-- the check finds this alone; it is named for the edit of `call`, which is refused here
pub returns : goal.returns
returns c = search resize_one
