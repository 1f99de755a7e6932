-- The loop's invariant: the first i slots are pasted one behind the other, and k is the number of the next.
use mathlib.Core.Path.{◌≡◌}
use Prim.Native.Nat.{◌+◌, ◌*◌, ◌^◌, ◌≤◌}
use lib.ListN.{length}
use Rattle.plan_slot.proofs.payload.SlotsPutIn.{Put}
use Rattle.plan_slot.proofs.payload.put_slots.Given as goal

abbrev pub invariant-loop-i : goal.invariant-loop-i
invariant-loop-i l =
    (l.k ≤ (l.i + 1) * 2 ^ 52) × (length l.payload ≡ length l.initial.payload) × Put l.free l.at l.from l.step l.i l.k l.initial.payload l.payload
