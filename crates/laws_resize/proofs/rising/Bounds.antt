-- How heights, leaf counts and block totals bound each other: what keeps the numbers of a resize small, and in order. A longer blob has no fewer
-- leaves and no smaller height; a tree of the least height has no more blocks than a full one, and a full one at most fan times
-- as many leaves.
use Prim.Native.Nat.{ℕ, zero, suc, ◌+◌, ◌*◌, ◌^◌, ◌≤◌, ◌<◌}
use native.Mathlib.Nat.{pow-zero, pow-succ', mul-le-mul_left, mul-le-mul_right}
use native.Mathlib.Decide.{dec_le}
use native.Mathlib.Omega.{arith}
use lib.ListN.{length}
use Rattle.meaning.specs.declared.Edition.{Edition}
use Rattle.meaning.specs.Edition.{Proper}
use Rattle.meaning.specs.Tree.{Blob, leaves_of, length_of}
use Rattle.meaning.specs.Shape.{leaves_for, height_for, total, Shaped}
use Rattle.laws.proofs.Totals.{total_ge}
use Rattle.laws.proofs.Totals.{leaves_some, leaves_mono}
use Rattle.laws.proofs.Heights.{height_enough, height_least}
use Rattle.laws.proofs.Shapes.{shaped_leaves, shaped_height}
use Rattle.laws_resize.specs.growth.Forms.{bulk}
use Rattle.laws_resize.specs.growth.Cuts.{height_of_length}
use Rattle.laws_resize.specs.growth.HeldAfter.{taken}
use Rattle.laws_resize.proofs.growth.RoomOfWholeTree.{whole, total_by_height, blob_whole}

-- a height below the least is not enough
pub height_short : (fan n d : ℕ) → 2 ≤ fan → d < height_for fan n → fan ^ d < n
height_short fan n d two low = go (dec_le n (fan ^ d))
  where
    go : Dec (n ≤ fan ^ d) → fan ^ d < n
    go (yes fits) = absurd (omega (arith, height_least fan n d two fits))
    go (no over) = omega arith

-- more leaves are no lower
pub height_mono : (fan m n : ℕ) → 2 ≤ fan → m ≤ n → height_for fan m ≤ height_for fan n
height_mono fan m n two le = height_least fan m (height_for fan n) two (omega (arith, height_enough fan n two))

-- a full tree of the least height has at most fan times as many leaves
pub power_within : (fan n : ℕ) → 2 ≤ fan → 1 ≤ n → fan ^ height_for fan n ≤ fan * n
power_within fan n two some = go (height_for fan n) (height_short fan n)
  where
    go : (g : ℕ) → ((d : ℕ) → 2 ≤ fan → d < g → fan ^ d < n) → fan ^ g ≤ fan * n
    go zero low = omega (arith, pow-zero fan, mul-le-mul_right n two)
    go (suc g) low = omega (arith, pow-succ' fan g, mul-le-mul_left {m = fan ^ g} {n = n} fan (omega (arith, low g two (omega arith))))

-- the block total is at most that of a full tree of the same height
pub total_bulk : (e : Edition) → Proper e → (n : ℕ) → 1 ≤ n → total e.fan n ≤ bulk e.fan (height_for e.fan n)
total_bulk e proper n low =
    let h = height_for e.fan n in
    let w = whole e proper.some proper.two h 0 n low (height_enough e.fan n proper.two) in
    omega (arith, w.1, total_by_height e.fan proper.two n)

-- a length's leaves, and the height that it has
module _ (e : Edition) (proper : Proper e) (len : ℕ) where
  -- it has a leaf
  pub want_some : 1 ≤ leaves_for e.leaf len
  want_some = leaves_some e.leaf len proper.some

  -- no more leaves than blocks
  pub want_total : leaves_for e.leaf len ≤ total e.fan (leaves_for e.leaf len)
  want_total = total_ge e.fan (leaves_for e.leaf len) proper.two

  -- they find no room at a lesser height
  pub want_over : (g : ℕ) → g < height_of_length e len → e.fan ^ g < leaves_for e.leaf len
  unfolding height_of_length
  want_over g low = height_short e.fan (leaves_for e.leaf len) g proper.two low

  -- and in a tree that is not much larger
  pub want_power : e.fan ^ height_of_length e len ≤ e.fan * leaves_for e.leaf len
  unfolding height_of_length
  want_power = power_within e.fan (leaves_for e.leaf len) proper.two want_some

  -- the blocks too
  pub want_bulk : total e.fan (leaves_for e.leaf len) ≤ bulk e.fan (height_of_length e len)
  unfolding height_of_length
  want_bulk = total_bulk e proper (leaves_for e.leaf len) want_some

-- a shaped blob, and a length that it may get
module _ (e : Edition) (proper : Proper e) (b : Blob) (shaped : Shaped e b) where
  -- its leaves fit its height, and its blocks are no more than a full tree's
  pub blob_leaves_fit : length (leaves_of b) ≤ e.fan ^ b.height
  blob_leaves_fit = omega (arith, (blob_whole e proper.some proper.two b shaped).0)

  pub blob_blocks_fit : total e.fan (length (leaves_of b)) ≤ bulk e.fan b.height
  blob_blocks_fit = omega (arith, (blob_whole e proper.some proper.two b shaped).1)

  -- longer: no fewer leaves, and no lower
  pub longer_leaves : (len : ℕ) → length_of b ≤ len → length (leaves_of b) ≤ leaves_for e.leaf len
  longer_leaves len long =
      omega (arith, shaped_leaves e proper.some proper.two b shaped, leaves_mono e.leaf (length_of b) len proper.some long)

  pub longer_height : (len : ℕ) → length_of b ≤ len → b.height ≤ height_of_length e len
  unfolding height_of_length
  longer_height len long =
      omega (
        arith,
        shaped_height e proper.some proper.two b shaped,
        height_mono e.fan (length (leaves_of b)) (leaves_for e.leaf len) proper.two (longer_leaves len long),
      )

  -- shorter: no more leaves, and no higher
  pub shorter_leaves : (len : ℕ) → len < length_of b → leaves_for e.leaf len ≤ length (leaves_of b)
  shorter_leaves len short =
      omega (arith, shaped_leaves e proper.some proper.two b shaped, leaves_mono e.leaf len (length_of b) proper.some (omega arith))

  pub shorter_height : (len : ℕ) → len < length_of b → height_of_length e len ≤ b.height
  unfolding height_of_length
  shorter_height len short =
      omega (
        arith,
        shaped_height e proper.some proper.two b shaped,
        height_mono e.fan (leaves_for e.leaf len) (length (leaves_of b)) proper.two (shorter_leaves len short),
      )

  -- a block that is taken is one of a full tree of the new height
  pub taken_within : (len p : ℕ) → p < taken e b len → p + total e.fan (length (leaves_of b)) < bulk e.fan (height_of_length e len)
  unfolding taken
  taken_within len p few = omega (arith, want_bulk e proper len)
