-- The numbers that a resize works out before it writes.
use Rattle.std.specs.Prelude.{◌≡◌, ℕ, ◌-◌}
use Rattle.meaning.specs.declared.Edition.{Edition}
use Rattle.meaning.specs.Shape.{height_for, total}
use Rattle.plan_longer.specs.declared.towers.Tower.{Tower}

-- of a blob of that height and so many leaves that is to have `want`
pub record Measures (e : Edition) (height leaves want : ℕ) (t : Tower) : Type 0 where
  pub same : t.height ≡ height
  pub top : t.top ≡ height_for e.fan want
  pub blocks : t.blocks ≡ total e.fan leaves
  pub taken : t.taken ≡ total e.fan want - total e.fan leaves
