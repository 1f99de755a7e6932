-- The loop's invariant: the changes counted and those of the slots ahead are all; and so many usable slots lie below.
use mathlib.Core.Path.{◌≡◌}
use Prim.Native.Nat.{◌≤◌}
use Rattle.laws_resize.specs.growth.HeldAfter.{usable_below}
use Rattle.plan_longer.specs.Plans.{grow_plans}
use Rattle.call_count.specs.counts.{Counting}
use Rattle.call_count.proofs.count_lengthening.Given as goal

abbrev pub invariant-loop-i : goal.invariant-loop-i
invariant-loop-i l =
    (Counting (λ (x : Unit {0}). grow_plans l.e l.g l.t l.pool l.records l.free l.notes.heights.now l.notes.firsts.now l.kept l.root) l.n l.i l.count)
    × (l.below ≡ usable_below l.records l.i) × (l.below ≤ l.i)
