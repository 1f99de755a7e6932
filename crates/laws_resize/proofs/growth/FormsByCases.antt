-- The forms, case by case and step by step: the equations that a program's branches and loop turns cite.
use mathlib.Core.Path.{◌≡◌, refl, ap}
use mathlib.Core.Bool.{Bool, true, false}
use mathlib.Core.List.{List, ◌++◌, append-nil}
use Prim.Native.Nat.{ℕ, zero, suc, ◌+◌, ◌-◌, ◌*◌, ◌/◌, ◌%◌, ◌^◌, ◌≤◌, ◌<◌}
use native.Mathlib.Nat.{zero-min, mul-le-mul_right}
use native.Mathlib.Omega.{arith}
use lib.Dec.{eqb}
use lib.ListN.{length, replicate}
use borrow.Author.Tests.{lt-ltb, le-ltb, eq-eqb, ne_eqb, le-leb, lt-leb}
use Rattle.meaning.specs.declared.Edition.{Edition}
use Rattle.meaning.specs.Lists.{pick, both}
use Rattle.meaning.specs.Bytes.{Cell}
use Rattle.meaning.specs.Tree.{nothing, just}
use Rattle.meaning.specs.Shape.{leaves_for}
use Rattle.laws_resize.specs.growth.Sites.{Site}
use Rattle.laws_resize.specs.growth.Cuts.{cut_row, gone, cut, height_of_length, replaced, shortened}
use Rattle.laws_resize.specs.growth.Forms.{past, every, bulk, locate, in_row, room, space}
use Rattle.laws_resize.specs.growth.Forms.{seat, places, new_row, fresh_cell, above, root_cell, tall_cell, new_cell}
use Rattle.laws_resize.specs.growth.Forms.{grown_row}
use Rattle.laws.proofs.Codec.{padded_fits}
use Rattle.meaning.specs.Resize.{share}

-- slots taken at equal steps are so many
pub every_length : (free : List ℕ) (size c k : ℕ) → length (every free size c k) ≡ c
unfolding every
every_length free size zero k = refl
every_length free size (suc c) k = ap suc (every_length free size c (k + size))

-- a higher full subtree has more blocks
bulk_more : (fan h : ℕ) → 1 ≤ fan → bulk fan h < bulk fan (suc h)
unfolding bulk
bulk_more fan h some = omega (arith, mul-le-mul_right (bulk fan h) some)

bulk_above : (fan g d : ℕ) → 1 ≤ fan → bulk fan g ≤ bulk fan (d + g)
bulk_above fan g zero some = let z : 0 + g ≡ g = omega arith in rw z (omega arith)
bulk_above fan g (suc d) some =
    let z : suc d + g ≡ suc (d + g) = omega arith in
    rw z (omega (arith, bulk_above fan g d some, bulk_more fan (d + g) some))

pub bulk_rises : (fan g h : ℕ) → 1 ≤ fan → g ≤ h → bulk fan g ≤ bulk fan h
bulk_rises fan g h some low = let z : h ≡ (h - g) + g = omega arith in rw z (bulk_above fan g (h - g) some)

module _ (fan : ℕ) where
  -- the place of a block in a new subtree: the top, a leaf, or in the child that p falls into
  pub locate_top : (h : ℕ) → locate fan h 0 ≡ (h, 0)
  unfolding locate
  locate_top zero = refl
  locate_top (suc h) = refl

  pub locate_leaf : (p : ℕ) → locate fan 0 p ≡ (0, 0)
  unfolding locate
  locate_leaf p = refl

  pub locate_down : (h p : ℕ) → locate fan (suc h) (suc p)
      ≡ ((locate fan h (p % bulk fan h)).0, p / bulk fan h * fan ^ h + (locate fan h (p % bulk fan h)).1)
  unfolding locate
  locate_down h p = refl

  -- the place of a new block of the right edge: below, or beside the last child
  pub seat_below : (h n p : ℕ) → p < space fan h n → seat fan (suc h) n p ≡ seat fan h n p
  unfolding seat pick
  seat_below h n p less = rw (lt-ltb p (space fan h n) less)

  pub seat_beside : (h n p : ℕ) → space fan h n ≤ p → seat fan (suc h) n p ≡ in_row fan h (room fan h n) (p - space fan h n)
  unfolding seat pick
  seat_beside h n p past = rw (le-ltb p (space fan h n) past)

module _ (fan m : ℕ) (bytes : ℕ → ℕ) (free : List ℕ) where
  -- the root rises while a leaf is left
  pub root_rises : (k h j b : ℕ) (top : Cell) → j < m → root_cell fan m bytes free (suc k) h j b top
      ≡ root_cell fan m bytes free k (suc h) (j + (fan - 1) * fan ^ h) (suc b + (fan - 1) * bulk fan h) (above fan m bytes free h j b)
  unfolding root_cell pick
  root_rises k h j b top less = rw (lt-ltb j m less)

  -- a new block: on the right edge, or as the root rises
  pub new_edge : (k h : ℕ) (l : ℕ × ℕ) (j b : ℕ) (top : Cell) (p : ℕ) → p < b
      → new_cell fan m bytes free k h l j b top p ≡ fresh_cell fan m bytes free l.0 l.1 p
  unfolding new_cell pick
  new_edge k h l j b top p less = rw (lt-ltb p b less)

  pub new_tall : (k h : ℕ) (l : ℕ × ℕ) (j b : ℕ) (top : Cell) (p : ℕ) → b ≤ p
      → new_cell fan m bytes free k h l j b top p ≡ tall_cell fan m bytes free k h j b top p
  unfolding new_cell pick
  new_tall k h l j b top p past = rw (le-ltb p b past)

  -- then it has what the root had, or stands beside it, or is made when the root is higher
  pub tall_moved : (k h j b : ℕ) (top : Cell) → tall_cell fan m bytes free (suc k) h j b top b ≡ top
  unfolding tall_cell pick
  tall_moved k h j b top = rw (eq-eqb b b refl)

  pub tall_beside : (k h j b : ℕ) (top : Cell) (p : ℕ) → b < p → p < suc b + (fan - 1) * bulk fan h
      → tall_cell fan m bytes free (suc k) h j b top p
      ≡ fresh_cell fan m bytes free (in_row fan h j (p - suc b)).0 (in_row fan h j (p - suc b)).1 p
  unfolding tall_cell pick
  tall_beside k h j b top p low high =
      rw (ne_eqb p b (λ q. omega arith), lt-ltb p (suc b + (fan - 1) * bulk fan h) high)

  pub tall_further : (k h j b : ℕ) (top : Cell) (p : ℕ) → suc b + (fan - 1) * bulk fan h ≤ p → tall_cell fan m bytes free (suc k) h j b top p
      ≡ tall_cell fan m bytes free k (suc h) (j + (fan - 1) * fan ^ h) (suc b + (fan - 1) * bulk fan h) (above fan m bytes free h j b) p
  unfolding tall_cell pick
  tall_further k h j b top p high =
      rw (ne_eqb p b (λ q. omega arith), le-ltb p (suc b + (fan - 1) * bulk fan h) high)

-- shorter, of a block that is not the root
module _ (e : Edition) (len : ℕ) (x : Site) where
  -- past the cut
  pub short_gone : leaves_for e.leaf len ≤ x.first → shortened e len x ≡ nothing
  unfolding shortened cut gone pick
  short_gone late = rw (le-leb (leaves_for e.leaf len) x.first late) (none (replaced e len x))
    where
      none : (b : Bool) → pick b nothing (pick true nothing
          (just (record { height = x.height; items = cut_row e len x.height x.first x.items }))) ≡ nothing
      none true = refl
      none false = refl

  -- where the root comes down
  pub short_replaced : x.first ≡ 0 → height_of_length e len ≤ x.height → shortened e len x ≡ nothing
  unfolding shortened replaced both pick
  short_replaced left low = rw (eq-eqb x.first 0 left, le-leb (height_of_length e len) x.height low)

  -- kept, with its row cut: off the left edge
  pub short_off : 1 ≤ x.first → x.first < leaves_for e.leaf len
      → shortened e len x ≡ just (record { height = x.height; items = cut_row e len x.height x.first x.items })
  unfolding shortened replaced cut gone both pick
  short_off off early = rw (ne_eqb x.first 0 (λ q. omega arith), lt-leb (leaves_for e.leaf len) x.first early)

  -- or lower than the new root
  pub short_low : x.height < height_of_length e len → x.first < leaves_for e.leaf len
      → shortened e len x ≡ just (record { height = x.height; items = cut_row e len x.height x.first x.items })
  unfolding shortened replaced cut gone both pick
  short_low low early =
      rw (lt-leb (height_of_length e len) x.height low, lt-leb (leaves_for e.leaf len) x.first early) (kept (eqb x.first 0))
    where
      kept : (b : Bool) → pick (both b false) nothing
          (pick false nothing (just (record { height = x.height; items = cut_row e len x.height x.first x.items })))
          ≡ just (record { height = x.height; items = cut_row e len x.height x.first x.items })
      kept true = refl
      kept false = refl

-- longer, of an old block that stays where it is
module _ (e : Edition) (len n : ℕ) (free : List ℕ) where
  -- a leaf fills with zeros
  pub grown_leaf : (i : ℕ) (row : List ℕ) → length row ≤ share e len i → grown_row e len n free 0 i row
      ≡ row ++ replicate (share e len i - length row) 0
  unfolding grown_row
  grown_leaf i row fits = padded_fits (share e len i) row fits

  -- a full block stays as it is
  pub grown_full : (h i : ℕ) (row : List ℕ) → length row ≡ e.fan → grown_row e len n free (suc h) i row ≡ row
  unfolding grown_row new_row places every
  grown_full h i row full = let z : e.fan - length row ≡ 0 = omega arith in rw (z, zero-min, append-nil)
