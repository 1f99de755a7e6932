-- The numbers of a block on the old right edge are small.
use Prim.Native.Nat.{ℕ, ◌+◌, ◌^◌, ◌≤◌, ◌<◌}
use native.Mathlib.Omega.{arith}
use Rattle.meaning.specs.declared.Edition.{Edition}
use Rattle.meaning.specs.Edition.{Proper}
use Rattle.plan_longer.specs.declared.fresh.Growth.{Growth}
use Rattle.plan_longer.specs.fresh.{Grows}
use Rattle.plan_longer.specs.declared.towers.Tower.{Tower}
use Rattle.plan_longer.specs.towers.{Towers}
use Rattle.plan_longer.proofs.towers.Sizes.{top_above, power_small, level_small}
use Rattle.plan_longer.proofs.risen.Sizes.{number_small}

-- a blob that gets longer
module _ (e : Edition) (g : Growth) (t : Tower) (proper : Proper e) (grows : Grows e g) (towers : Towers e g t) where
  -- at the old height
  pub own_fits : e.fan ^ t.height ≤ 2 ^ 50
  own_fits = omega (arith, power_small e g t proper grows towers t.height (top_above e g t proper grows towers))

  -- the seat of a new block
  pub edge_low : (h : ℕ) → h ≤ t.height → h < 256
  edge_low h under = omega (arith, level_small e g t proper grows towers h (omega (arith, top_above e g t proper grows towers)))

  pub edge_power : (h : ℕ) → h ≤ t.height → e.fan ^ h ≤ 2 ^ 50
  edge_power h under = omega (arith, power_small e g t proper grows towers h (omega (arith, top_above e g t proper grows towers)))

  pub edge_first : (p f : ℕ) → p < t.taken → f ≤ e.fan ^ t.height + p → f ≤ 2 ^ 49
  edge_first p f few first = omega (arith, number_small e g t proper grows towers p few, power_small e g t proper grows towers t.height (top_above e g t proper grows towers))
