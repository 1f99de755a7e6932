-- The lengths decide; then everything is wiped.
use Rattle.check_gate.proofs.BehindTheGate.{gate_length}
use Rattle.call_wipe.proofs.WipedSoFar.{wipe_lengths, wipe_done}
use Rattle.call_wipe.proofs.wipe_call.Goals as goal

pub returns-then-not-is_sized : goal.returns-then-not-is_sized
returns-then-not-is_sized c = search wipe_lengths

pub free_all-requires : goal.free_all-requires
free_all-requires c = search gate_length

pub returns : goal.returns
returns c = search wipe_done
