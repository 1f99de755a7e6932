-- The loop's invariant: the pass over all slots is the pass over those that are left.
use mathlib.Core.Path.{◌≡◌}
use Prim.Native.Nat.{◌-◌}
use Rattle.meaning.specs.Lists.{range}
use Rattle.meaning.specs.Walk.{closing}
use Rattle.check_pool.proofs.closing.close.Given as goal

abbrev pub invariant-loop-i : goal.invariant-loop-i
invariant-loop-i l = closing l.e l.n l.pool l.records (range 0 l.n) l.seen ≡ closing l.e l.n l.pool l.records (range l.i (l.n - l.i)) l.seen
