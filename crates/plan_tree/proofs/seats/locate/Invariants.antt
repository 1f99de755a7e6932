-- `plan_tree::seats::locate` meets its contract. The loop's invariant: the block is near, as the law says; so the leaves before it are no more than the
-- blocks before it.
use Rattle.plan_tree.proofs.seats.SeatsFromBelow.{Nears}
use Rattle.plan_tree.proofs.seats.locate.Given as goal

abbrev pub invariant-loop-height : goal.invariant-loop-height
invariant-loop-height l = Nears l.fan l.h l.p l.height l.left l.first
