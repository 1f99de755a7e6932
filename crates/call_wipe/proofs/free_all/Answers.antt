use Rattle.call_wipe.proofs.WipedSoFar.{free_start, free_on}
use Rattle.call_wipe.proofs.free_all.Goals as goal

pub loop-i-init : goal.loop-i-init
loop-i-init c = search free_start

pub loop-i-preserved : goal.loop-i-preserved
loop-i-preserved c = search free_on
