-- Below n, by the record's state.
use Rattle.check_gate.proofs.BehindTheGate.{root_state}
use Rattle.check_gate.proofs.is_root.Goals as goal

pub returns-then-root-n : goal.returns-then-root-n
returns-then-root-n c = search root_state
