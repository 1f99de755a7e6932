use mathlib.Core.Path.{◌≡◌}
use mathlib.Core.List.{◌++◌}
use Prim.Native.Nat.{◌-◌, ◌≤◌}
use lib.ListN.{drop}
use Rattle.meaning.specs.Head.{piece}
use Rattle.call_head.proofs.next_call.Given as goal

abbrev pub invariant-loop-pos : goal.invariant-loop-pos
invariant-loop-pos l = (l.pos ≤ l.count) × (l.out ≡ piece l.e l.pool l.h l.root l.place l.pos ++ drop l.pos l.initial.out)

abbrev pub decreases-loop-pos : goal.decreases-loop-pos
decreases-loop-pos l = l.count - l.pos
