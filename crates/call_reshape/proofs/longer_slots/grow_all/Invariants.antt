-- The loop's invariant: what is still to be done to pool and records gives what all of it gives to those at the start.
use mathlib.Core.Path.{◌≡◌}
use Prim.Native.Nat.{◌≤◌}
use Rattle.laws_resize.specs.growth.HeldAfter.{usable_below}
use Rattle.plan_slot.specs.change.Turns.{Turning}
use Rattle.plan_longer.specs.Plans.{grow_plans}
use Rattle.call_reshape.proofs.longer_slots.grow_all.Given as goal

abbrev pub invariant-loop-i : goal.invariant-loop-i
invariant-loop-i l =
    (Turning l.e l.n (grow_plans l.e l.g l.t l.initial.pool l.initial.records l.free l.notes.heights.now l.notes.firsts.now l.kept l.root) l.initial.pool l.initial.records l.i l.pool l.records)
    × (l.below ≡ usable_below l.initial.records l.i) × (l.below ≤ l.i)
