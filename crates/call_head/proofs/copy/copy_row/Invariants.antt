use mathlib.Core.Path.{◌≡◌}
use Prim.Native.Nat.{◌+◌, ◌-◌, ◌≤◌}
use Rattle.meaning.specs.Lists.{pasted}
use Rattle.meaning.specs.Head.{piece}
use Rattle.call_head.proofs.copy.Rows.{Along}
use Rattle.call_head.proofs.copy.copy_row.Given as goal

abbrev pub invariant-loop-to : goal.invariant-loop-to
invariant-loop-to l = Along l.e l.pool l.h l.root l.place l.pos l.to l.row l.parent × (l.to ≤ l.count) × (l.out ≡ pasted l.pos (piece l.e l.pool l.h l.root (l.place + l.pos) (l.to - l.pos)) l.initial.out)

abbrev pub decreases-loop-to : goal.decreases-loop-to
decreases-loop-to l = l.count - l.to
