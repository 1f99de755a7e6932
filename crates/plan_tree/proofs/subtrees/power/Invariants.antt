-- `plan_tree::subtrees::power` meets its contract. The loop's invariant: w is the fan-out to the power of the turns made.
use mathlib.Core.Path.{◌≡◌}
use Prim.Native.Nat.{◌^◌}
use Rattle.plan_tree.proofs.subtrees.power.Given as goal

abbrev pub invariant-loop : goal.invariant-loop
invariant-loop l = l.w ≡ l.fan ^ l.counter
