use Rattle.check_pool.proofs.roots.RootsBySteps.{roots_end, roots_stop, roots_on}
use Rattle.check_pool.proofs.roots.walk_roots.Goals as goal

pub returns-in_default : goal.returns-in_default
returns-in_default c = search roots_stop

pub loop-i-preserved : goal.loop-i-preserved
loop-i-preserved c = search roots_on

pub returns : goal.returns
returns c = search roots_end
