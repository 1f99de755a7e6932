-- The numbers of a block that is made as the root rises are small, and in order: its number among all blocks, the height at which it is made, and
-- where it stands beside the root's row.
use mathlib.Core.Path.{◌≡◌}
use Prim.Native.Nat.{ℕ, ◌+◌, ◌-◌, ◌^◌, ◌≤◌, ◌<◌}
use native.Mathlib.Omega.{arith}
use Rattle.meaning.specs.declared.Edition.{Edition}
use Rattle.meaning.specs.Edition.{Proper}
use Rattle.laws_resize.specs.growth.Forms.{bulk}
use Rattle.laws_resize.proofs.rising.Bounds.{taken_within}
use Rattle.plan_longer.specs.declared.fresh.Growth.{Growth}
use Rattle.plan_longer.specs.fresh.{Grows}
use Rattle.plan_longer.specs.declared.towers.Tower.{Tower}
use Rattle.plan_longer.specs.towers.{Towers}
use Rattle.plan_longer.proofs.towers.Sizes.{top_power, power_small, bulk_small, level_small, leaves_within}

-- a blob that gets longer
module _ (e : Edition) (g : Growth) (t : Tower) (proper : Proper e) (grows : Grows e g) (towers : Towers e g t) where
  -- a new block is one of a full tree of the new height
  pub new_within : (p : ℕ) → p < t.taken → p + t.blocks < bulk e.fan t.top
  new_within p few =
      let less = rw towers.taken at few in
      rw (towers.blocks, towers.leaves, towers.top) (taken_within e proper towers.blob towers.shaped g.length p less)

  -- at a height below the top
  pub level_power : (level : ℕ) → level < t.top → e.fan ^ level ≤ 2 ^ 50
  level_power level low = omega (arith, power_small e g t proper grows towers level (omega arith))

  pub level_leaves : (level w : ℕ) → t.height ≤ level → w ≡ e.fan ^ level → g.leaves ≤ w
  level_leaves level w high wide = omega (arith, leaves_within e g t proper grows towers level high)

  pub level_room : (level w : ℕ) → level < t.top → w ≡ e.fan ^ level → w - g.leaves ≤ 2 ^ 50
  level_room level w low wide = omega (arith, power_small e g t proper grows towers level (omega arith))

  -- at the top
  pub top_fits : e.fan ^ t.top ≤ 2 ^ 50
  top_fits = omega (arith, top_power e g t proper grows towers)

  -- the number of a new block, after the old ones
  pub number_within : (p number : ℕ) → p < t.taken → number ≡ p + t.blocks → number < bulk e.fan t.top
  number_within p number few counted = omega (arith, new_within p few)

  pub number_small : (p : ℕ) → p < t.taken → p + t.blocks ≤ 2 ^ 47
  number_small p few = omega (arith, new_within p few, bulk_small e g t proper grows towers t.top (omega arith))

  pub new_small : (p : ℕ) → p < t.taken → p ≤ 2 ^ 51
  new_small p few = omega (arith, number_small p few)

  pub side_small : (p number full k : ℕ) → p < t.taken → number ≡ p + t.blocks → number - full - k ≤ 2 ^ 51
  side_small p number full k few counted = omega (arith, number_small p few)

  -- the seat of a new block
  pub seat_low : (level h : ℕ) → level < t.top → h ≤ level → h < 256
  seat_low level h low under = omega (arith, level_small e g t proper grows towers h (omega arith))

  pub seat_power : (level h : ℕ) → level < t.top → h ≤ level → e.fan ^ h ≤ 2 ^ 50
  seat_power level h low under = omega (arith, power_small e g t proper grows towers h (omega arith))

  pub side_first : (p number level full k w f : ℕ) → p < t.taken → number ≡ p + t.blocks → level < t.top → w ≡ e.fan ^ level
      → f ≤ w - g.leaves + (number - full - k) → f ≤ 2 ^ 49
  side_first p number level full k w f few counted low wide first =
      omega (arith, number_small p few, power_small e g t proper grows towers level (omega arith))
