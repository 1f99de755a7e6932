-- The roots, then the closing pass.
use Rattle.check_pool.proofs.RootsThenClosing.{pool_stop, pool_unclosed, pool_passed}
use Rattle.check_pool.proofs.check.Goals as goal

pub returns-in_default : goal.returns-in_default
returns-in_default c = search pool_stop

pub returns-in-Err : goal.returns-in-Err
returns-in-Err c = search pool_unclosed

pub returns-in-Ok-close : goal.returns-in-Ok-close
returns-in-Ok-close c = search pool_passed
