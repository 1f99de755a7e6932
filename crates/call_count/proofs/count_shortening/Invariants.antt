-- The loop's invariant: the changes counted and those of the slots ahead are all, whatever the records are.
use mathlib.Core.List.{List}
use Prim.Native.Nat.{ℕ}
use Rattle.plan_shorter.specs.Plans.{cut_plan}
use Rattle.call_count.specs.counts.{Counting}
use Rattle.call_count.proofs.count_shortening.Given as goal

abbrev pub invariant-loop-i : goal.invariant-loop-i
invariant-loop-i l =
    Counting (λ (R : List ℕ). cut_plan l.e l.c l.notes.heights.now l.notes.firsts.now l.kept l.root l.pool R) l.n l.i l.count
