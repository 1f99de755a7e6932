-- By the record's state.
use native.Mathlib.Omega.{arith}
use Rattle.call_audit.proofs.LiveCounted.{live_none, live_one}
use Rattle.call_audit.proofs.live_at.Goals as goal

pub returns-then-state-eq0 : goal.returns-then-state-eq0
returns-then-state-eq0 c = (search live_none, omega arith)

pub returns-else-state-eq0 : goal.returns-else-state-eq0
returns-else-state-eq0 c = (search live_one, omega arith)
