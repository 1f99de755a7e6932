-- The loop's invariant: what is still to be done to pool and records gives what all of it gives to those at the start.
use Rattle.plan_slot.specs.change.Turns.{Turning}
use Rattle.plan_write.specs.stretch.{write_plan}
use Rattle.call_write.proofs.put.write_all.Given as goal

abbrev pub invariant-loop-i : goal.invariant-loop-i
invariant-loop-i l =
    Turning l.e l.n (write_plan l.e l.initial.pool l.initial.records l.notes.heights.now l.notes.firsts.now l.src l.offset) l.initial.pool l.initial.records l.i l.pool l.records
