-- Refusal 1, then refusal 2.
use Rattle.check_gate.proofs.BehindTheGate.{gate_lengths, gate_records, gate_length}
use Rattle.check_gate.proofs.open.Goals as goal

pub returns-then-not-is_sized : goal.returns-then-not-is_sized
returns-then-not-is_sized c = search gate_lengths

pub check_records-requires : goal.check_records-requires
check_records-requires c = search gate_length

pub returns : goal.returns
returns c = search gate_records
