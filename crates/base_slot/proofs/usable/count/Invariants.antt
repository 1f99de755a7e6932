-- The loop's invariant: those found and those that are left make up all.
use mathlib.Core.Path.{◌≡◌}
use Prim.Native.Nat.{◌+◌, ◌-◌, ◌≤◌}
use lib.ListN.{length}
use Rattle.base_slot.specs.usable.{usable_from}
use Rattle.base_slot.proofs.usable.count.Given as goal

abbrev pub invariant-loop-i : goal.invariant-loop-i
invariant-loop-i l = (length (usable_from l.records 0 l.n) ≡ l.found + length (usable_from l.records l.i (l.n - l.i))) × (l.found ≤ l.i)
