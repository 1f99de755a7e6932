-- `plan_tree::seats::edge_seat` meets its contract. The loop's invariant: the block stands where the definition has it at this height, for it lies below the
-- last child of each block above.
use mathlib.Core.Path.{◌≡◌}
use Prim.Native.Nat.{◌≤◌}
use Rattle.laws_resize.specs.growth.Forms.{seat}
use Rattle.plan_tree.proofs.seats.edge_seat.Given as goal

abbrev pub invariant-loop-height : goal.invariant-loop-height
invariant-loop-height l = (seat l.fan l.h l.n l.p ≡ seat l.fan l.height l.n l.p) × (l.height ≤ l.h)
