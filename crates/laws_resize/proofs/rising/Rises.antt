-- The root and the new blocks of a blob that gets longer, by heights and differences: at each height g, full, the blob has fan ^ g leaves and
-- bulk g blocks, so the new block number bulk g - t takes the root's row, those up to bulk (g + 1) - t stand beside it, and what the root holds
-- then is `top_at`. It rises to the height of the new length and no further, for each lower one is too little.
use mathlib.Core.Path.{◌≡◌, ap, ◌∙◌}
use mathlib.Core.List.{List}
use Prim.Native.Nat.{ℕ, zero, suc, ◌+◌, ◌-◌, ◌*◌, ◌^◌, ◌≤◌, ◌<◌}
use native.Mathlib.Nat.{pow-le-pow_right, mul-le-mul_right}
use native.Mathlib.Decide.{dec_le}
use native.Mathlib.Omega.{arith}
use lib.ListN.{length}
use Rattle.meaning.specs.declared.Edition.{Edition}
use Rattle.meaning.specs.Edition.{Proper}
use Rattle.meaning.specs.Bytes.{Cell}
use Rattle.meaning.specs.Tree.{Blob, leaves_of, length_of}
use Rattle.meaning.specs.Shape.{leaves_for, total, Shaped}
use Rattle.laws_resize.specs.growth.Forms.{bulk, in_row, room, space, seat, fresh_cell, root_cell, tall_cell}
use Rattle.laws_resize.specs.growth.Forms.{new_leaves, new_bytes, top_cell, grown_root, grown_new}
use Rattle.laws_resize.specs.growth.Cuts.{height_of_length}
use Rattle.laws_resize.specs.growth.HeldAfter.{rise}
use Rattle.laws_resize.proofs.growth.RoomOfWholeTree.{blob_room, blob_space, rise_room, rise_space}
use Rattle.laws_resize.proofs.growth.FormsByCases.{bulk_rises, root_rises, new_edge, new_tall, tall_moved, tall_beside, tall_further}
use Rattle.laws_resize.specs.rising.{top_at}
use Rattle.laws_resize.proofs.rising.RootByHeight.{top_own, top_next}
use Rattle.laws_resize.proofs.rising.Bounds.{want_over, blob_leaves_fit, blob_blocks_fit, longer_height}

-- a full tree that is higher has more blocks
pub bulk_next_more : (fan h : ℕ) → 2 ≤ fan → 2 * bulk fan h < bulk fan (suc h)
unfolding bulk
bulk_next_more fan h two = omega (arith, mul-le-mul_right (bulk fan h) two)

-- one of two heights, by cases
by_height : {A : Type 0} (g i : ℕ) → g ≤ i → (g ≡ i → A) → (suc g ≤ i → A) → A
by_height {A} g i le here later = go (dec_le (suc g) i)
  where
    go : Dec (suc g ≤ i) → A
    go (yes q) = later q
    go (no q) = here (omega arith)

-- a blob of n leaves and t blocks, of height h, that gets len bytes long
module _ (e : Edition) (proper : Proper e) (len n t : ℕ) (free : List ℕ) (h : ℕ) (row : List ℕ) where
  -- the root, full, at height g, and the new leaf and the new block with which it rises from there
  abbrev top : ℕ → Cell
  top = top_at e len n t free h row

  abbrev leaf_at : ℕ → ℕ
  leaf_at g = e.fan ^ g - n

  abbrev block_at : ℕ → ℕ
  block_at g = bulk e.fan g - t

  -- what the root and a new block hold in the end, if it rises k heights from g
  abbrev root_from : (k g : ℕ) → Cell
  root_from k g = root_cell e.fan (new_leaves e len n free) (new_bytes e len n free) free k g (leaf_at g) (block_at g) (top g)

  abbrev tall_from : (k g p : ℕ) → Cell
  tall_from k g p = tall_cell e.fan (new_leaves e len n free) (new_bytes e len n free) free k g (leaf_at g) (block_at g) (top g) p

  -- a height at which the old blob fits
  record Fits (g : ℕ) : Type 0 where
    above : h ≤ g
    leaves : n ≤ e.fan ^ g
    blocks : t ≤ bulk e.fan g

  -- and the next
  fits_next : (g : ℕ) → Fits g → Fits (suc g)
  fits_next g f = record {
    above = omega arith;
    leaves = omega (arith, pow-le-pow_right {n = e.fan} (omega (arith, proper.two)) {i = g} {j = suc g} (omega arith));
    blocks = omega (arith, bulk_next_more e.fan g proper.two);
  }

  -- the root, one height on
  root_next : (k g : ℕ) → Fits g → e.fan ^ g < leaves_for e.leaf len → root_from (suc k) g ≡ root_from k (suc g)
  unfolding new_leaves
  root_next k g f over =
      root_rises e.fan (new_leaves e len n free) (new_bytes e len n free) free k g (leaf_at g) (block_at g) (top g) (omega arith)
      ∙ rw (
        rise_room e.fan g n proper.two f.leaves,
        rise_space e.fan g t proper.two f.blocks,
        top_next e len n t free h row g f.above,
      )

  -- so to the end
  root_from_lem : (k g : ℕ) → Fits g → g + k ≡ height_of_length e len → root_from k g ≡ top (height_of_length e len)
  unfolding root_cell
  root_from_lem zero g f end = let z : g ≡ height_of_length e len = omega arith in ap top z
  root_from_lem (suc k) g f end = root_next k g f (want_over e proper len g (omega arith)) ∙ root_from_lem k (suc g) (fits_next g f) (omega arith)

  -- a new block past the next height
  tall_next : (k g p : ℕ) → Fits g → bulk e.fan (suc g) ≤ p + t → tall_from (suc k) g p ≡ tall_from k (suc g) p
  tall_next k g p f high =
      let room = rise_room e.fan g n proper.two f.leaves in
      let space = rise_space e.fan g t proper.two f.blocks in
      tall_further e.fan (new_leaves e len n free) (new_bytes e len n free) free k g (leaf_at g) (block_at g) (top g) p (omega arith)
      ∙ rw (room, space, top_next e len n t free h row g f.above)

  -- bulk at a height that is not above another
  bulk_to : (g i : ℕ) → g ≤ i → bulk e.fan g ≤ bulk e.fan i
  bulk_to g i le = bulk_rises e.fan g i (omega (arith, proper.two)) le

  -- the block that takes the root's row
  tall_top : (k g i p : ℕ) → Fits g → g ≤ i → i < g + k → p + t ≡ bulk e.fan i → tall_from k g p ≡ top i
  tall_top zero g i p f low high at = absurd (omega arith)
  tall_top (suc k) g i p f low high at =
      by_height g i low
      (λ same. let z : p ≡ block_at g = omega (arith, ap (bulk e.fan) same) in
      ap (tall_from (suc k) g) z
      ∙ tall_moved e.fan (new_leaves e len n free) (new_bytes e len n free) free k g (leaf_at g) (block_at g) (top g) ∙ ap top same)
      (λ later. tall_next k g p f (omega (arith, bulk_to (suc g) i later)) ∙ tall_top k (suc g) i p (fits_next g f) later (omega arith) at)

  -- the place of a block beside the root that has risen to height i
  abbrev beside : (i p : ℕ) → ℕ × ℕ
  beside i p = in_row e.fan i (e.fan ^ i - n) (p + t - bulk e.fan i - 1)

  -- the blocks beside it
  tall_side : (k g i p : ℕ) → Fits g → g ≤ i → i < g + k → bulk e.fan i < p + t → p + t < bulk e.fan (suc i)
      → tall_from k g p ≡ fresh_cell e.fan (new_leaves e len n free) (new_bytes e len n free) free (beside i p).0 (beside i p).1 p
  tall_side zero g i p f low high from to = absurd (omega arith)
  tall_side (suc k) g i p f low high from to =
      by_height g i low
      (λ same. rw (← same) (here (rw (← same) at from) (rw (← same) at to)))
      (λ later. tall_next k g p f (omega (arith, bulk_to (suc g) i later))
      ∙ tall_side k (suc g) i p (fits_next g f) later (omega arith) from to)
    where
      here : bulk e.fan g < p + t → p + t < bulk e.fan (suc g)
          → tall_from (suc k) g p ≡ fresh_cell e.fan (new_leaves e len n free) (new_bytes e len n free) free (beside g p).0 (beside g p).1 p
      here from to =
          let z : p - suc (block_at g) ≡ p + t - bulk e.fan g - 1 = omega (arith, f.blocks) in
          let s = rise_space e.fan g t proper.two f.blocks in
          tall_beside e.fan (new_leaves e len n free) (new_bytes e len n free) free k g (leaf_at g) (block_at g) (top g) p
          (omega (arith, f.blocks)) (omega (arith, f.blocks))
          ∙ rw z

-- a shaped blob that gets len bytes long, with the row of its root
module _ (e : Edition) (proper : Proper e) (b : Blob) (shaped : Shaped e b) (len : ℕ) (long : length_of b ≤ len) (free row : List ℕ) where
  -- its leaves, and its blocks
  abbrev n : ℕ
  n = length (leaves_of b)

  abbrev t : ℕ
  t = total e.fan (length (leaves_of b))

  -- what the root holds at height g
  abbrev full : ℕ → Cell
  full = top_at e len n t free b.height row

  -- a new block at a place
  abbrev fresh : ℕ × ℕ → ℕ → Cell
  fresh l p = fresh_cell e.fan (new_leaves e len n free) (new_bytes e len n free) free l.0 l.1 p

  -- the old blob fits its height
  fits_own : Fits e proper len n t free b.height row b.height
  fits_own = record { above = omega arith; leaves = blob_leaves_fit e proper b shaped; blocks = blob_blocks_fit e proper b shaped }

  -- it rises to the new height
  rise_to : b.height + rise e b len ≡ height_of_length e len
  unfolding rise
  rise_to = omega (arith, longer_height e proper b shaped len long)

  -- the room and the space of the right edge, as differences
  edge_room : room e.fan b.height n ≡ e.fan ^ b.height - n
  edge_room = blob_room e proper.some proper.two b shaped

  edge_space : space e.fan b.height n ≡ bulk e.fan b.height - t
  edge_space = blob_space e proper.some proper.two b shaped

  -- the root holds in the end what it holds at the new height
  pub root_top : grown_root e len n free (rise e b len) b.height row ≡ full (height_of_length e len)
  unfolding grown_root
  root_top =
      rw (edge_room, edge_space, ← top_own e len n t free b.height row)
      (root_from_lem e proper len n t free b.height row (rise e b len) b.height fits_own rise_to)

  -- a new block past the right edge is made as the root rises
  new_past : (p : ℕ) → bulk e.fan b.height ≤ p + t
      → grown_new e len n free (rise e b len) b.height row p ≡ tall_from e proper len n t free b.height row (rise e b len) b.height p
  unfolding grown_new
  new_past p late =
      new_tall e.fan (new_leaves e len n free) (new_bytes e len n free) free (rise e b len) b.height (seat e.fan b.height n p)
      (room e.fan b.height n) (space e.fan b.height n) (top_cell e len n free b.height row) p (omega (arith, edge_space))
      ∙ rw (edge_room, edge_space, ← top_own e len n t free b.height row)

  -- a new block of the right edge
  pub new_on_edge : (p : ℕ) → p + t < bulk e.fan b.height
      → grown_new e len n free (rise e b len) b.height row p ≡ fresh (seat e.fan b.height n p) p
  unfolding grown_new
  new_on_edge p early =
      new_edge e.fan (new_leaves e len n free) (new_bytes e len n free) free (rise e b len) b.height (seat e.fan b.height n p)
      (room e.fan b.height n) (space e.fan b.height n) (top_cell e len n free b.height row) p (omega (arith, edge_space))

  -- the new block that takes the row which the root has when it is full at height g
  pub new_top : (g p : ℕ) → b.height ≤ g → g < height_of_length e len → p + t ≡ bulk e.fan g
      → grown_new e len n free (rise e b len) b.height row p ≡ full g
  new_top g p low high at =
      new_past p (omega (arith, bulk_to e proper len n t free b.height row b.height g low))
      ∙ tall_top e proper len n t free b.height row (rise e b len) b.height g p fits_own low (omega (arith, rise_to)) at

  -- a new block beside that one
  pub new_beside : (g p : ℕ) → b.height ≤ g → g < height_of_length e len → bulk e.fan g < p + t → p + t < bulk e.fan (suc g)
      → grown_new e len n free (rise e b len) b.height row p ≡ fresh (in_row e.fan g (e.fan ^ g - n) (p + t - bulk e.fan g - 1)) p
  new_beside g p low high from to =
      new_past p (omega (arith, bulk_to e proper len n t free b.height row b.height g low))
      ∙ tall_side e proper len n t free b.height row (rise e b len) b.height g p fits_own low (omega (arith, rise_to)) from to
