-- The loop's invariant: the walks from all slots are those from the slots that are left, with what was noted so far.
use mathlib.Core.Path.{◌≡◌}
use Prim.Native.Nat.{◌-◌}
use Rattle.meaning.specs.Lists.{range}
use Rattle.check_pool.specs.roots.{kept, roots_noted}
use Rattle.check_pool.proofs.roots.walk_roots.Given as goal

abbrev pub invariant-loop-i : goal.invariant-loop-i
invariant-loop-i l = roots_noted l.e l.n l.pool l.records l.named (range 0 l.n) (kept 0 0 l.initial.row) l.initial.seen ≡ roots_noted l.e l.n l.pool l.records l.named (range l.i (l.n - l.i)) (kept l.bytes l.leaves l.row) l.seen
