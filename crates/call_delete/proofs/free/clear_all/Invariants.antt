-- The loop's invariant: what is still to be done to pool and records gives what all of it gives to those at the start.
use Rattle.plan_slot.specs.change.Turns.{Turning}
use Rattle.call_delete.specs.free.{clear_plan}
use Rattle.call_delete.proofs.free.clear_all.Given as goal

abbrev pub invariant-loop-i : goal.invariant-loop-i
invariant-loop-i l = Turning l.e l.n (clear_plan l.e l.initial.records l.heights) l.initial.pool l.initial.records l.i l.pool l.records
