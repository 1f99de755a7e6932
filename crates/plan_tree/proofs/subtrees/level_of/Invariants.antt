-- `plan_tree::subtrees::level_of` meets its contract. The loop's invariant: the full subtree of this level has the number or fewer, so the level is below the
-- top, and next is the blocks of the one above it.
use mathlib.Core.Path.{◌≡◌}
use Prim.Native.Nat.{◌+◌, ◌-◌, ◌≤◌, ◌<◌}
use Rattle.laws_resize.specs.growth.Forms.{bulk}
use Rattle.plan_tree.proofs.subtrees.level_of.Given as goal

abbrev pub invariant-loop-next : goal.invariant-loop-next
invariant-loop-next l =
    (l.h ≤ l.level) × (l.level < l.top) × (bulk l.fan l.level ≤ l.number) × (l.next ≡ bulk l.fan (l.level + 1))

abbrev pub decreases-loop-next : goal.decreases-loop-next
decreases-loop-next l = l.top - l.level
