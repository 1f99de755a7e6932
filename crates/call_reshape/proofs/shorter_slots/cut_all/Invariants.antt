-- The loop's invariant: what is still to be done to pool and records gives what all of it gives to those at the start.
use Rattle.plan_slot.specs.change.Turns.{Turning}
use Rattle.plan_shorter.specs.Plans.{cut_plan}
use Rattle.call_reshape.proofs.shorter_slots.cut_all.Given as goal

abbrev pub invariant-loop-i : goal.invariant-loop-i
invariant-loop-i l =
    Turning l.e l.n (cut_plan l.e l.c l.notes.heights.now l.notes.firsts.now l.kept l.root l.initial.pool l.initial.records) l.initial.pool l.initial.records l.i l.pool l.records
