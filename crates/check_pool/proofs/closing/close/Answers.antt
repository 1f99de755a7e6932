use Rattle.check_pool.proofs.closing.ClosingBySteps.{closing_end, closing_stop, closing_on}
use Rattle.check_pool.proofs.closing.close.Goals as goal

pub returns-in_default : goal.returns-in_default
returns-in_default c = search closing_stop

pub loop-i-preserved : goal.loop-i-preserved
loop-i-preserved c = search closing_on

pub returns : goal.returns
returns c = search closing_end
