-- The numbers of a blob that gets longer are small, and in order: it will have 2 ^ 40 leaves or fewer and a fan-out below 64, so a full tree of its
-- new height has 2 ^ 46 leaves or fewer, and fewer than twice as many blocks; at any height from its own on its leaves and its blocks fit.
use mathlib.Core.Path.{◌≡◌, sym, ◌∙◌}
use mathlib.Core.List.{List}
use Prim.Native.Nat.{ℕ, ◌-◌, ◌^◌, ◌≤◌, ◌<◌}
use native.Mathlib.Nat.{mul-le-mul, pow-le-pow_left, pow-le-pow_right}
use native.Mathlib.Decide.{dec_le}
use native.Mathlib.Omega.{arith}
use Rattle.meaning.specs.declared.Edition.{Edition}
use Rattle.meaning.specs.Edition.{Proper}
use Rattle.meaning.specs.Bytes.{count_of}
use Rattle.meaning.specs.Shape.{leaves_for, most_count}
use Rattle.meaning.specs.Resize.{share}
use Rattle.laws_resize.specs.growth.Forms.{bulk}
use Rattle.laws_resize.proofs.growth.FormsByCases.{bulk_rises}
use Rattle.plan_tree.proofs.subtrees.SubtreesFromBelow.{pow_rises, bulk_twice}
use Rattle.laws_resize.proofs.rising.Bounds.{want_power, blob_leaves_fit, blob_blocks_fit, longer_leaves, longer_height}
use Rattle.plan_longer.specs.declared.fresh.Growth.{Growth}
use Rattle.plan_longer.specs.fresh.{Grows}
use Rattle.plan_longer.specs.declared.towers.Tower.{Tower}
use Rattle.plan_longer.specs.towers.{Towers, RootBlock}

-- a height is small if a power with it is
height_small : (fan h : ℕ) → 2 ≤ fan → fan ^ h ≤ 2 ^ 46 → h < 47
height_small fan h two small = go (dec_le 47 h)
  where
    go : Dec (47 ≤ h) → h < 47
    go (yes high) = absurd (omega (arith, pow-le-pow_left two h, pow-le-pow_right {n = 2} (omega arith) high))
    go (no low) = omega arith

-- a blob that gets longer
module _ (e : Edition) (g : Growth) (t : Tower) (proper : Proper e) (grows : Grows e g) (towers : Towers e g t) where
  -- the leaves that it will have
  pub want_few : leaves_for e.leaf g.length ≤ 2 ^ 40
  want_few =
      omega (
        arith,
        longer_leaves e proper towers.blob towers.shaped g.length towers.long,
        grows.more,
        grows.few,
        towers.leaves,
      )

  -- it does not get lower
  pub top_above : t.height ≤ t.top
  top_above = omega (arith, longer_height e proper towers.blob towers.shaped g.length towers.long, towers.height, towers.top)

  -- a full tree of the new height is not much larger
  pub top_power : e.fan ^ t.top ≤ 2 ^ 46
  top_power =
      let narrow : e.fan ≤ 64 = omega (arith, proper.byte, proper.fills) in
      rw towers.top (omega (arith, want_power e proper g.length, mul-le-mul narrow want_few))

  -- nor is one of a height up to it, nor its blocks
  pub power_small : (h : ℕ) → h ≤ t.top → e.fan ^ h ≤ 2 ^ 46
  power_small h low = omega (arith, pow_rises e.fan h t.top (omega (arith, proper.two)) low, top_power)

  pub bulk_small : (h : ℕ) → h ≤ t.top → bulk e.fan h ≤ 2 ^ 47
  bulk_small h low = omega (arith, bulk_twice e.fan h proper.two, power_small h low)

  -- and the height fits a byte
  pub level_small : (h : ℕ) → h ≤ t.top → h < 47
  level_small h low = height_small e.fan h proper.two (power_small h low)

  -- the old leaves and the old blocks are no more than a full tree's, at any height from the old one on
  pub leaves_within : (h : ℕ) → t.height ≤ h → g.leaves ≤ e.fan ^ h
  leaves_within h high =
      let own : g.leaves ≤ e.fan ^ t.height = rw (towers.leaves, towers.height) (blob_leaves_fit e proper towers.blob towers.shaped) in
      omega (arith, pow_rises e.fan t.height h (omega (arith, proper.two)) high)

  pub blocks_within : (h : ℕ) → t.height ≤ h → t.blocks ≤ bulk e.fan h
  blocks_within h high =
      let own : t.blocks ≤ bulk e.fan t.height =
      rw (towers.blocks, towers.leaves, towers.height) (blob_blocks_fit e proper towers.blob towers.shaped) in
      omega (arith, bulk_rises e.fan t.height h (omega (arith, proper.two)) high)

  -- the root's block, where the root is at its old height
  pub own_low : (level : ℕ) → level ≡ t.height → level < 256
  own_low level is = omega (arith, level_small level (omega (arith, top_above)))

  pub own_power : (level : ℕ) → level ≡ t.height → e.fan ^ level ≤ 2 ^ 50
  own_power level is = omega (arith, power_small level (omega (arith, top_above)))

  -- one below a height
  pub below_low : (level : ℕ) → level ≤ t.top → level - 1 < 255
  below_low level low = omega (arith, level_small level low)

  pub below_power : (level : ℕ) → level ≤ t.top → e.fan ^ (level - 1) ≤ 2 ^ 50
  below_power level low = omega (arith, power_small (level - 1) (omega arith))

  pub below_leaves : (level w : ℕ) → (level ≡ t.height → ⊥) → t.height ≤ level → w ≡ e.fan ^ (level - 1) → g.leaves ≤ w
  below_leaves level w other high wide = omega (arith, leaves_within (level - 1) (omega arith))

  pub below_blocks : (level b : ℕ) → (level ≡ t.height → ⊥) → t.height ≤ level → b ≡ bulk e.fan (level - 1) → t.blocks ≤ b
  below_blocks level b other high whole = omega (arith, blocks_within (level - 1) (omega arith))

-- the root's block is as full as it may be, at its old height
module _ (e : Edition) (g : Growth) (t : Tower) (kept : List ℕ) (level : ℕ) (block : RootBlock e g t kept) (is : level ≡ t.height) where
  pub own_most : count_of kept ≤ most_count e level
  own_most = rw is block.most

  pub own_share : level ≡ 0 → count_of kept ≤ share e g.length 0
  own_share low = block.share (sym is ∙ low)
