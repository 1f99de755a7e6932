-- The loop's invariant: the gate over all slots is the gate over those that are left.
use mathlib.Core.Path.{◌≡◌}
use Prim.Native.Nat.{◌-◌}
use Rattle.check_gate.specs.Gate.{records_gate}
use Rattle.check_gate.proofs.check_records.Given as goal

abbrev pub invariant-loop-i : goal.invariant-loop-i
invariant-loop-i l = records_gate l.records 0 l.n l.n ≡ records_gate l.records l.i (l.n - l.i) l.n
