-- The loop's invariant: the changes of the slots below i are counted.
use Rattle.call_count.specs.counts.{Counts}
use Rattle.call_count.proofs.count_over.Given as goal

abbrev pub invariant-loop-i : goal.invariant-loop-i
invariant-loop-i g l = Counts l.n l.i (goal.F-post g l.plan) l.count
