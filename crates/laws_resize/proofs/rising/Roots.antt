-- Whether the root is as it was, by its height and its count: at another height it is another block, and at the same height it holds its own row,
-- cut or with more behind it.
use mathlib.Core.Path.{◌≡◌, refl, sym, ap, ◌∙◌}
use mathlib.Core.List.{List}
use Prim.Native.Nat.{ℕ, ◌-◌, ◌≤◌}
use native.Mathlib.Omega.{arith}
use lib.Dec.{eqb}
use lib.ListN.{length}
use borrow.Author.Tests.{eqb-true, eqb-false}
use Rattle.meaning.specs.declared.Edition.{Edition}
use Rattle.meaning.specs.Edition.{Proper}
use Rattle.meaning.specs.Lists.{both}
use Rattle.meaning.specs.Bytes.{Cell, same_cell}
use Rattle.meaning.specs.Tree.{Blob, leaves_of, length_of}
use Rattle.meaning.specs.Shape.{total, Shaped}
use Rattle.laws.proofs.Inversions.{by_test}
use Rattle.laws_resize.specs.growth.Sites.{root_row}
use Rattle.laws_resize.specs.growth.Cuts.{cut_row, height_of_length, leftmost}
use Rattle.laws_resize.specs.growth.Forms.{top_cell}
use Rattle.laws_resize.specs.growth.HeldAfter.{shorter_root}
use Rattle.laws_resize.proofs.growth.WhereBlocksStand.{left_row}
use Rattle.laws_resize.specs.rising.{top_at}
use Rattle.laws_resize.proofs.rising.RootByHeight.{top_own, top_height}
use Rattle.laws_resize.proofs.rising.Bounds.{longer_height}
use Rattle.laws_resize.proofs.rising.SameByCount.{same_heights, same_grown, same_cut}
use Rattle.laws_resize.proofs.rising.HeldByPlace.{root_share}

-- two blocks are the same by height and count, if those of the same height are by count
by_count : (h : ℕ) (row : List ℕ) (c : Cell)
    → (c.height ≡ h → same_cell (record { height = h; items = row }) c ≡ eqb (length c.items) (length row))
    → same_cell (record { height = h; items = row }) c ≡ both (eqb c.height h) (eqb (length c.items) (length row))
unfolding both
by_count h row c even =
    by_test (eqb c.height h)
    (λ t. rw t (even (eqb-true c.height h t)))
    (λ t. rw t (same_heights (record { height = h; items = row }) c (λ q. eqb-false c.height h t (sym q))))

-- a blob that gets shorter
module _ (e : Edition) (b : Blob) (len : ℕ) where
  -- what the root holds then: the row of the left edge's block of the new height, cut
  pub shorter_is : shorter_root e b len ≡ record {
    height = height_of_length e len;
    items = cut_row e len (height_of_length e len) 0 (leftmost b.height (b.height - height_of_length e len) b.tree).1;
  }
  unfolding shorter_root
  shorter_is = refl

  -- at the old height that is its own row, cut
  shorter_even : height_of_length e len ≡ b.height → shorter_root e b len ≡ record { height = b.height; items = cut_row e len b.height 0 (root_row b) }
  unfolding root_row
  shorter_even even =
      let z : b.height - b.height ≡ 0 = omega arith in
      shorter_is
      ∙ ap (λ (g : ℕ). record { height = g; items = cut_row e len g 0 (leftmost b.height (b.height - g) b.tree).1 }) even
      ∙ ap (λ (k : ℕ). record { height = b.height; items = cut_row e len b.height 0 (leftmost b.height k b.tree).1 }) z
      ∙ ap (λ (r : List ℕ). record { height = b.height; items = cut_row e len b.height 0 r }) (left_row b.height b.tree)

  -- so it is the same exactly if its height and its count are
  pub same_shorter : same_cell (record { height = b.height; items = root_row b }) (shorter_root e b len)
      ≡ both (eqb (height_of_length e len) b.height) (eqb (length (shorter_root e b len).items) (length (root_row b)))
  same_shorter =
      let tall : (shorter_root e b len).height ≡ height_of_length e len = ap (λ (c : Cell). c.height) shorter_is in
      by_count b.height (root_row b) (shorter_root e b len)
      (λ q. rw (shorter_even (sym tall ∙ q)) (same_cut e len b.height 0 (root_row b)))
      ∙ rw tall

-- a shaped blob that gets longer
module _ (e : Edition) (proper : Proper e) (b : Blob) (shaped : Shaped e b) (len : ℕ) (long : length_of b ≤ len) (free : List ℕ) where
  -- its leaves, and its blocks
  abbrev n : ℕ
  n = length (leaves_of b)

  abbrev t : ℕ
  t = total e.fan (length (leaves_of b))

  -- what the root held, and what it holds when it is full at height g
  abbrev old : Cell
  old = record { height = b.height; items = root_row b }

  abbrev full : ℕ → Cell
  full = top_at e len n t free b.height (root_row b)

  -- at its own height the count decides
  same_own : same_cell old (top_cell e len n free b.height (root_row b))
      ≡ eqb (length (top_cell e len n free b.height (root_row b)).items) (length (root_row b))
  unfolding top_cell
  same_own = same_grown e len n free b.height 0 (root_row b) (root_share e proper b shaped len long)

  -- at any height from its own on, height and count do
  pub same_top : (g : ℕ) → b.height ≤ g
      → same_cell old (full g) ≡ both (eqb (full g).height b.height) (eqb (length (full g).items) (length (root_row b)))
  same_top g high =
      let tall = top_height e len n t free b.height (root_row b) g high in
      by_count b.height (root_row b) (full g)
      (λ q. rw (ap full (sym tall ∙ q) ∙ top_own e len n t free b.height (root_row b)) same_own)

  -- and so in the end
  pub same_longer : same_cell old (full (height_of_length e len))
      ≡ both (eqb (full (height_of_length e len)).height b.height) (eqb (length (full (height_of_length e len)).items) (length (root_row b)))
  same_longer = same_top (height_of_length e len) (longer_height e proper b shaped len long)
