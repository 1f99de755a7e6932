-- What a block of a shaped blob holds, by where it stands: it begins with one of the blob's leaves, it holds no more than a block of its height may,
-- and if it is a leaf its row is the bytes of the leaf with that number. So a leaf has no more bytes than its share of any length that is not
-- smaller: one before the last is full, and the last one ends with the blob.
use mathlib.Core.Path.{◌≡◌, sym, ap, ◌∙◌}
use mathlib.Core.Logic.{◌⊎◌, inl, inr}
use mathlib.Core.Bool.{Bool, true, false}
use mathlib.Core.List.Memᴰ
use mathlib.Core.List.{List, [], ◌∷◌, ◌++◌, map, Memᴰ}
use Prim.Native.Nat.{ℕ, zero, suc, ◌+◌, ◌-◌, ◌*◌, ◌≤◌, ◌<◌, min}
use native.Mathlib.Nat.{mul-suc, mul-le-mul_left}
use native.Mathlib.Decide.{dec_le}
use native.Mathlib.Omega.{arith}
use lib.ListN.{length, get_or, length-append, length-map, get_or-append}
use lib.Seq.{get_or-append-add}
use Rattle.meaning.specs.declared.Edition.{Edition}
use Rattle.meaning.specs.Lists.{joined}
use Rattle.meaning.specs.Edition.{Proper}
use Rattle.meaning.specs.Tree.{Tree, Blob, slot_of, leaves, leaves_of, length_of}
use Rattle.meaning.specs.Shape.{most_count, InRow, ShapedTree, Shaped}
use Rattle.meaning.specs.Resize.{share}
use Rattle.laws.proofs.Positions.{leaf_full, leaf_most, length_by_last}
use Rattle.laws_resize.proofs.resizing.Ends.{some_child}
use Rattle.laws_resize.specs.growth.Room.{count}
use Rattle.laws_resize.specs.growth.Sites.{Site, counting, sites, sites_of, root_row, at, sited}
use Rattle.laws_resize.proofs.growth.Cut.{count_cons, some_count}
use Rattle.laws_resize.proofs.growth.WhereBlocksStand.{sited_listed, own_site}

-- a block among trees whose leaves are ls, the first of them with number i
record Within (e : Edition) (i : ℕ) (ls : List (ℕ × List ℕ)) (x : Site) : Type 0 where
  from : i ≤ x.first
  before : x.first < i + length ls
  fits : length x.items ≤ most_count e x.height
  leaf : x.height ≡ 0 → (get_or ls (x.first - i) (0, [])).1 ≡ x.items

-- with trees after them
within_left : (e : Edition) (i : ℕ) (ls ms : List (ℕ × List ℕ)) (x : Site) → Within e i ls x → Within e i (ls ++ ms) x
within_left e i ls ms x w = record {
  from = w.from;
  before = omega (arith, length-append ls ms, w.before);
  fits = w.fits;
  leaf = λ z. ap (λ (l : ℕ × List ℕ). l.1) (get_or-append ls ms (0, []) (x.first - i) (omega (arith, w.before, w.from))) ∙ w.leaf z;
}

-- and before them
within_right : (e : Edition) (i : ℕ) (ls ms : List (ℕ × List ℕ)) (x : Site) → Within e (i + length ls) ms x → Within e i (ls ++ ms) x
within_right e i ls ms x w =
    let j : x.first - i ≡ length ls + (x.first - (i + length ls)) = omega (arith, w.from) in
    record {
      from = omega (arith, w.from);
      before = omega (arith, length-append ls ms, w.before);
      fits = w.fits;
      leaf = λ z. rw j (ap (λ (l : ℕ × List ℕ). l.1) (get_or-append-add ls ms (x.first - (i + length ls)) (0, [])) ∙ w.leaf z);
    }

module _ (e : Edition) (some : 1 ≤ e.leaf) (two : 2 ≤ e.fan) where
  -- so it is with the blocks of a tree
  abbrev TreeWithin : ℕ → Type 0
  TreeWithin h = (i : ℕ) (root edge : Bool) (t : Tree h) → ShapedTree e h root edge t → (s : ℕ) (x : Site) → Memᴰ (s, x) (sites h i t)
      → Within e i (leaves h t) x

  -- and of a row of trees
  row_within : (h : ℕ) → TreeWithin h → (i : ℕ) (edge : Bool) (ts : List (Tree h)) → InRow (ShapedTree e h false) edge ts → (s : ℕ) (x : Site)
      → Memᴰ (s, x) (counting (count h) (sites h) i ts) → Within e i (joined (map (leaves h) ts)) x
  unfolding InRow counting joined
  row_within h each i edge [] r s x m = absurd (Memᴰ.not-nil m)
  row_within h each i edge (t ∷ []) r s x m = by (Memᴰ.append_cases (sites h i t) m)
    where
      by : Memᴰ (s, x) (sites h i t) ⊎ Memᴰ {A = ℕ × Site} (s, x) [] → Within e i (leaves h t ++ []) x
      by (inl a) = within_left e i (leaves h t) [] x (each i false edge t r s x a)
      by (inr a) = absurd (Memᴰ.not-nil a)
  row_within h each i edge (t ∷ (u ∷ us)) r s x m =
      by (row_within h each (i + count h t) edge (u ∷ us) r.1 s x) (Memᴰ.append_cases (sites h i t) m)
    where
      more : List (ℕ × Site)
      more = counting (count h) (sites h) (i + count h t) (u ∷ us)

      by : (Memᴰ (s, x) more → Within e (i + count h t) (joined (map (leaves h) (u ∷ us))) x)
          → Memᴰ (s, x) (sites h i t) ⊎ Memᴰ (s, x) more → Within e i (leaves h t ++ joined (map (leaves h) (u ∷ us))) x
      by rest (inl a) = within_left e i (leaves h t) _ x (each i false false t r.0 s x a)
      by rest (inr a) = within_right e i (leaves h t) _ x (rest a)

  -- the top of a tree, over a row of trees that is not empty
  top_within : (h i : ℕ) (edge : Bool) (ts : List (Tree h)) → InRow (ShapedTree e h false) edge ts → 1 ≤ length ts → length ts ≤ e.fan
      → (x : Site) → x ≡ record { height = suc h; first = i; items = map (slot_of h) ts } → Within e i (joined (map (leaves h) ts)) x
  unfolding InRow most_count
  top_within h i edge [] r low high x q = absurd (omega arith)
  top_within h i edge (t ∷ ts) r low high x q =
      let c = first ts r in
      rw q (record {
        from = omega arith;
        before = omega (arith, count_cons h t ts);
        fits = omega (arith, length-map (t ∷ ts) (slot_of h));
        leaf = λ z. absurd (omega arith);
      })
    where
      first : (ts : List (Tree h)) → InRow (ShapedTree e h false) edge (t ∷ ts) → 1 ≤ count h t
      first [] r = (some_count e some two h edge t r).0
      first (u ∷ us) r = (some_count e some two h false t r.0).0

  -- a block of a tree
  tree_within : (h : ℕ) → TreeWithin h
  unfolding ShapedTree sites leaves most_count
  tree_within zero i root edge t sh s x m =
      let q : x ≡ record { height = 0; first = i; items = t.1 } = ap (λ z. z.1) (Memᴰ.eq_of_singleton m) in
      let z : i - i ≡ 0 = omega arith in
      rw q (record { from = omega arith; before = omega arith; fits = sh.1; leaf = λ low. rw z })
  tree_within (suc h) i root edge t sh s x m = by (row_within h (tree_within h) i edge t.1 sh.2 s x) (Memᴰ.cases_cons m)
    where
      by : (Memᴰ (s, x) (counting (count h) (sites h) i t.1) → Within e i (joined (map (leaves h) t.1)) x)
          → (◌≡◌ {A = ℕ × Site} (s, x) (t.0, record { height = suc h; first = i; items = map (slot_of h) t.1 }))
          ⊎ Memᴰ (s, x) (counting (count h) (sites h) i t.1) → Within e i (joined (map (leaves h) t.1)) x
      by rest (inl q) = top_within h i edge t.1 sh.2 (some_child e two h edge root _ sh.0) sh.1 x (ap (λ z. z.1) q)
      by rest (inr a) = rest a

-- a shaped blob, and a block among all its leaves
module _ (e : Edition) (proper : Proper e) (b : Blob) (shaped : Shaped e b) (x : Site) (w : Within e 0 (leaves_of b) x) where
  -- a leaf's row is the bytes of the leaf with its number
  within_leaf : x.height ≡ 0 → x.items ≡ (get_or (leaves_of b) x.first (0, [])).1
  within_leaf low =
      let z : x.first - 0 ≡ x.first = omega arith in
      sym (w.leaf low) ∙ ap (λ (j : ℕ). (get_or (leaves_of b) j (0, [])).1) z

  -- and no more than its share of a length that is not smaller
  within_share : (len : ℕ) → length_of b ≤ len → x.height ≡ 0 → length x.items ≤ share e len x.first
  unfolding share
  within_share len long low = go (dec_le (suc (suc x.first)) (length (leaves_of b)))
    where
      row : length x.items ≡ length (get_or (leaves_of b) x.first (0, [])).1
      row = ap length (within_leaf low)

      go : Dec (suc (suc x.first) ≤ length (leaves_of b)) → length x.items ≤ min e.leaf (len - e.leaf * x.first)
      go (yes inner) =
          let j = length (leaves_of b) - 1 in
          let last = length_by_last e proper.some proper.two b shaped j (omega arith) in
          let full = leaf_full e proper.some proper.two b shaped x.first inner in
          let less = mul-le-mul_left {m = suc x.first} {n = j} e.leaf (omega arith) in
          omega (arith, row, mul-suc e.leaf x.first)
      go (no outer) =
          let here : x.first < length (leaves_of b) = omega (arith, w.before) in
          let last = length_by_last e proper.some proper.two b shaped x.first (omega arith) in
          let full = leaf_most e proper.some proper.two b shaped x.first here in
          omega (arith, row)

-- the block of a slot
module _ (e : Edition) (proper : Proper e) (b : Blob) (shaped : Shaped e b) (s : ℕ) (x : Site) (found : sited (sites_of b) s ≡ at x) where
  -- is among them
  site_within : Within e 0 (leaves_of b) x
  unfolding Shaped sites_of leaves_of
  site_within =
      tree_within e proper.some proper.two b.height 0 true true b.tree shaped s x (sited_listed (sites_of b) s x found)

  -- a leaf has no more than its share of any length that is no less
  pub leaf_share : (len : ℕ) → length_of b ≤ len → x.height ≡ 0 → length x.items ≤ share e len x.first
  leaf_share len long low = within_share e proper b shaped x site_within len long low

-- the root
module _ (e : Edition) (proper : Proper e) (b : Blob) (shaped : Shaped e b) where
  -- is among them
  root_within : Within e 0 (leaves_of b) (record { height = b.height; first = 0; items = root_row b })
  unfolding Shaped leaves_of root_row
  root_within =
      tree_within e proper.some proper.two b.height 0 true true b.tree shaped (slot_of b.height b.tree) _
      (own_site b.height 0 b.tree)

  -- it holds no more than a block of its height may
  pub root_most : length (root_row b) ≤ most_count e b.height
  root_most = root_within.fits

  -- and as a leaf no more than its share
  pub root_share : (len : ℕ) → length_of b ≤ len → b.height ≡ 0 → length (root_row b) ≤ share e len 0
  root_share len long low = within_share e proper b shaped _ root_within len long low
