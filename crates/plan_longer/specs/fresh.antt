-- What is known of a blob that gets longer.
use Rattle.std.specs.Prelude.{◌≡◌, ◌+◌, ◌-◌, ◌^◌, ◌≤◌}
use Rattle.meaning.specs.declared.Edition.{Edition}
use Rattle.meaning.specs.Shape.{leaves_for}
use Rattle.plan_longer.specs.declared.fresh.Growth.{Growth}

-- the leaves that a longer blob gets, and that all numbers are small enough for 64 bits
pub record Grows (e : Edition) (g : Growth) : Type 0 where
  pub some : 1 ≤ g.leaves
  pub more : g.more ≡ leaves_for e.leaf g.length - g.leaves
  pub few : g.leaves + g.more ≤ 2 ^ 40
