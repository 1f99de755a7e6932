-- A remainder is below its divisor.
use native.Mathlib.Nat.{mod-lt}
use native.Mathlib.Omega.{arith}
use Rattle.base_bytes.proofs.runs.stretch_from.Goals as goal

pub overflow_sub-leaf : goal.overflow_sub-leaf
overflow_sub-leaf c = omega (arith, mod-lt c.args.place {m = c.args.leaf} (omega arith))
