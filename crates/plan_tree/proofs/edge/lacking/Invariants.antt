-- `plan_tree::edge::lacking` meets its contract. The loop's invariant: r is what adds up below height i.
use Rattle.plan_tree.specs.edge.{Lacking}
use Rattle.plan_tree.proofs.edge.lacking.Given as goal

abbrev pub invariant-loop-i : goal.invariant-loop-i
invariant-loop-i g l = Lacking l.fan l.h l.n l.i (goal.F-post g l.size l.fan) l.r
