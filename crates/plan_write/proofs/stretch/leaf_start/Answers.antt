-- A leaf's number has four bytes and a payload's size one, so the product fits.
use native.Mathlib.Omega.{arith}
use Rattle.plan_write.proofs.stretch.StretchAnswered.{start_fits}
use Rattle.plan_write.proofs.stretch.leaf_start.Goals as goal

pub overflow_mul-result : goal.overflow_mul-result
overflow_mul-result c = start_fits c.args.e.leaf c.args.first (omega arith) (omega arith)
