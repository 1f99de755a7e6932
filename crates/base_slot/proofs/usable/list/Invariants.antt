-- The loop's invariant: the front of the row and the usable slots that are left make up all.
use mathlib.Core.Path.{◌≡◌}
use mathlib.Core.List.{◌++◌}
use Prim.Native.Nat.{◌-◌, ◌≤◌}
use lib.ListN.{take}
use Rattle.base_slot.specs.usable.{usable_from}
use Rattle.base_slot.proofs.usable.list.Given as goal

abbrev pub invariant-loop-i : goal.invariant-loop-i
invariant-loop-i l = (usable_from l.records 0 l.n ≡ take l.found l.row ++ usable_from l.records l.i (l.n - l.i)) × (l.found ≤ l.i)
