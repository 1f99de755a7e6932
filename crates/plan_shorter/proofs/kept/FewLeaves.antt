-- The leaves that a blob is cut to are few enough to draw a block of it.
use Prim.Native.Nat.{◌^◌, ◌≤◌}
use native.Mathlib.Omega.{arith}
use Rattle.meaning.specs.declared.Edition.{Edition}
use Rattle.plan_tree.specs.declared.cuts.Cut.{Cut}
use Rattle.plan_tree.specs.cuts.{Cuts}

pub cuts_few : (e : Edition) (c : Cut) → Cuts e c → c.leaves ≤ 2 ^ 50
cuts_few e c q = omega (arith, q.few)
