-- The loop's invariant: the records passed are free at version 0.
use mathlib.Core.Path.{◌≡◌}
use Prim.Native.Nat.{◌*◌}
use lib.ListN.{take}
use Rattle.meaning.specs.Calls.{free_records}
use Rattle.call_wipe.proofs.free_all.Given as goal

abbrev pub invariant-loop-i : goal.invariant-loop-i
invariant-loop-i l = take (12 * l.i) l.records ≡ free_records l.i
