-- The loop's invariant: the count so far and that of the slots left are the whole.
use mathlib.Core.Path.{◌≡◌}
use Prim.Native.Nat.{◌+◌, ◌-◌, ◌≤◌}
use Rattle.call_audit.specs.Counting.{live_from}
use Rattle.call_audit.proofs.count_live.Given as goal

abbrev pub invariant-loop-i : goal.invariant-loop-i
invariant-loop-i l = (l.live + live_from l.records l.i (l.n - l.i) ≡ live_from l.records 0 l.n) × (l.live ≤ l.i)
