use Rattle.check_gate.proofs.BehindTheGate.{records_end, records_bad, records_good}
use Rattle.check_gate.proofs.check_records.Goals as goal

pub returns-then-not-is_sound : goal.returns-then-not-is_sound
returns-then-not-is_sound c = search records_bad

pub loop-i-preserved : goal.loop-i-preserved
loop-i-preserved c = search records_good

pub returns : goal.returns
returns c = search records_end
