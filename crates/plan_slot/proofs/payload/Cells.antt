-- Cells as code draws them: a row's bytes with zeros after are the payload of its cell, a block whose payload is padded is the block of the used
-- payload, and a block's own payload gives its row's bytes, whole or cut.
use mathlib.Core.Path.{◌≡◌, refl, ap, ◌∙◌}
use mathlib.Core.List.{List, [], ◌∷◌, ◌++◌, map}
use Prim.Native.Nat.{ℕ, zero, suc, ◌+◌, ◌*◌, ◌≤◌, min}
use native.Mathlib.Numerals.{add-one}
use native.Mathlib.Omega.{arith}
use lib.ListN.{length, take, drop, length-drop}
use Rattle.meaning.specs.declared.Edition.{Edition}
use Rattle.meaning.specs.Lists.{part, joined, bytes, number, padded, fours}
use Rattle.meaning.specs.Edition.{Proper}
use Rattle.meaning.specs.Bytes.{Cell, item_bytes, header, block_bytes, encoded, count_of, data_of, children_of}
use Rattle.meaning.specs.Walk.{used}
use Rattle.laws.proofs.Numbers.{OfBytes}
use Rattle.laws.proofs.Codec.{fours_length, header_length, drop_small, fours_written, items_of, item_count}
use Rattle.plan_slot.specs.declared.payload.Drawn.{Drawn}
use Rattle.plan_slot.specs.payload.{Draws}
use Rattle.plan_slot.proofs.payload.Rows.{padded_twice}

module _ (e : Edition) (p : Proper e) where
  -- a row of children, one higher than h
  pub drawn_inner : (h n : ℕ) (row x : List ℕ) → n ≡ length row → n ≤ e.fan → x ≡ padded e.leaf (joined (map (bytes 4) row))
      → Draws e (record { height = suc h; items = row }) (record { height = h + 1; count = n }) x
  unfolding item_bytes
  drawn_inner h n row x many fits is =
      record { height = add-one h; count = many; payload = is; fits = omega (arith, fours_length row, p.fills) }

  -- a leaf's bytes
  pub drawn_leaf : (n : ℕ) (row x : List ℕ) → n ≡ length row → n ≤ e.leaf → x ≡ padded e.leaf row
      → Draws e (record { height = 0; items = row }) (record { height = 0; count = n }) x
  unfolding item_bytes
  drawn_leaf n row x many fits is = record { height = refl; count = many; payload = is; fits = omega arith }

-- what is drawn is the cell's block, in any slot and at any version
pub draws_block : (e : Edition) → Proper e → (c : Cell) (d : Drawn) (x : List ℕ) → Draws e c d x → (s v : ℕ)
    → block_bytes e d.height d.count s v x ≡ encoded e c s v
unfolding encoded block_bytes
draws_block e p c d x is s v =
    let n : length (header e d.height d.count s v) ≡ 16 = header_length e d.height d.count s v p.marked in
    ap (λ (l : List ℕ). padded e.size (header e d.height d.count s v ++ l)) is.payload
    ∙ padded_twice e.size e.leaf (header e d.height d.count s v) (item_bytes c.height c.items) is.fits (omega (arith, p.fits))
    ∙ (λ i. padded e.size (header e (is.height i) (is.count i) s v ++ item_bytes c.height c.items))

-- the first n of k numbers of four bytes each
take_fours : (n k : ℕ) (l : List ℕ) → take n (fours k l) ≡ fours (min k n) l
unfolding fours
take_fours zero k l = let z : min k 0 ≡ 0 = omega arith in rw z
take_fours (suc n) zero l = let z : min 0 (suc n) ≡ 0 = omega arith in rw z
take_fours (suc n) (suc k) l =
    let z : min (suc k) (suc n) ≡ suc (min k n) = omega arith in
    rw z (ap {B = List ℕ} (λ r. number (take 4 l) ∷ r) (take_fours n k (drop 4 l)))

-- the first n of a front of k elements
take_front : (n k : ℕ) (l : List ℕ) → take n (take k l) ≡ take (min k n) l
take_front zero k l = let z : min k 0 ≡ 0 = omega arith in rw z
take_front (suc n) zero l = let z : min 0 (suc n) ≡ 0 = omega arith in rw z
take_front (suc n) (suc k) [] = let z : min (suc k) (suc n) ≡ suc (min k n) = omega arith in rw z
take_front (suc n) (suc k) (x ∷ l) =
    let z : min (suc k) (suc n) ≡ suc (min k n) = omega arith in
    rw z (ap {B = List ℕ} (λ r. x ∷ r) (take_front n k l))

-- a block's payload, read as a row of height h
module _ (b : List ℕ) where
  -- an inner block has as many children as its count says
  pub children_count : 16 + 4 * count_of b ≤ length b → length (children_of b) ≡ count_of b
  unfolding items_of used
  children_count k = item_count b 1 k

  -- of an inner block
  pub payload_inner : OfBytes b → 16 + 4 * count_of b ≤ length b → joined (map (bytes 4) (children_of b)) ≡ part 16 (4 * count_of b) b
  unfolding children_of part
  payload_inner small k = fours_written (count_of b) (drop 16 b) (rw length-drop (omega arith)) (drop_small 16 b small.small)

  -- of an inner block whose row is cut
  pub cut_inner : (n : ℕ) → OfBytes b → 16 + 4 * count_of b ≤ length b
      → joined (map (bytes 4) (take n (children_of b))) ≡ part 16 (4 * min (count_of b) n) b
  unfolding children_of part
  cut_inner n small k =
      ap (λ (row : List ℕ). joined (map (bytes 4) row)) (take_fours n (count_of b) (drop 16 b))
      ∙ fours_written (min (count_of b) n) (drop 16 b) (rw length-drop (omega arith)) (drop_small 16 b small.small)

  -- of a leaf that is cut
  pub cut_leaf : (n : ℕ) → take n (data_of b) ≡ part 16 (min (count_of b) n) b
  unfolding data_of part
  cut_leaf n = take_front n (count_of b) (drop 16 b)
