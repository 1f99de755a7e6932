-- The loop's invariant: the first pos bytes are those from the offset on.
use mathlib.Core.Path.{◌≡◌}
use Prim.Native.Nat.{◌-◌, ◌≤◌}
use lib.ListN.{length, take}
use Rattle.meaning.specs.Lists.{part}
use Rattle.call_read.specs.copy.{spelt}
use Rattle.call_read.proofs.copy.read_at.Given as goal

abbrev pub invariant-loop-pos : goal.invariant-loop-pos
invariant-loop-pos l = (l.pos ≤ length l.initial.out) × (length l.out ≡ length l.initial.out) × (take l.pos l.out ≡ part l.offset l.pos (spelt l.e l.pool (take l.k l.row)))

abbrev pub decreases-loop-pos : goal.decreases-loop-pos
decreases-loop-pos l = length l.initial.out - l.pos
