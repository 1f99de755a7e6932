-- The invariant: so many steps down, the slot is the one that many first children below.
use mathlib.Core.Path.{◌≡◌}
use Rattle.plan_slot.specs.keep.{first_below}
use Rattle.plan_slot.proofs.keep.left_slot.Given as goal

abbrev pub invariant-loop : goal.invariant-loop
invariant-loop l = l.at ≡ first_below l.e l.pool l.slot l.counter
