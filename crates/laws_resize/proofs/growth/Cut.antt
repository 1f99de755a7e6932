-- A tree cut to so many leaves, its last one cut to so many bytes, block by block: what begins past the cut goes, what ends before it stays, and the
-- blocks above the last leaf keep so many children.
use mathlib.Core.Path.{◌≡◌, refl, sym, ap, ap₂, ◌∙◌}
use mathlib.Core.Bool.{Bool, false}
use mathlib.Core.List.{List, [], ◌∷◌, ◌++◌, map, append-nil}
use Prim.Native.Nat.{ℕ, zero, suc, ◌+◌, ◌-◌, ◌*◌, ◌^◌, ◌≤◌, ◌<◌}
use native.Mathlib.Nat.{mul-one, mul-suc, mul-le-mul_left, pow-zero, pow-suc, one-le-pow}
use native.Mathlib.Omega.{arith}
use lib.Dec.{leb}
use lib.ListN.{length, get_or, take, length-append, length-map, get_or-append}
use lib.Seq.{take_all, get_or-append-add}
use borrow.Author.Tests.{leb-true, leb-false, le-leb, lt-leb, eq-eqb, ne_eqb}
use Rattle.meaning.specs.declared.Edition.{Edition}
use Rattle.meaning.specs.Lists.{pick, joined, map_last}
use Rattle.meaning.specs.Tree.{Tree, slot_of, leaves, cells}
use Rattle.meaning.specs.Shape.{up, leaves_for, least_count, most_count, InRow, ShapedTree}
use Rattle.meaning.specs.Resize.{last_leaf, keep_row, keep}
use Rattle.laws.proofs.Inversions.{by_test}
use Rattle.laws.proofs.Totals.{up_is, up_gt, up_add, leaves_tight, leaves_zero}
use Rattle.laws.proofs.Shapes.{OfTree, tree_counted}
use Rattle.laws_resize.proofs.resizing.Last.{last_slot}
use Rattle.laws_resize.proofs.resizing.Keeping.{keep_slot}
use Rattle.laws_resize.specs.growth.Room.{count}
use Rattle.laws_resize.specs.growth.Sites.{counting, sites, entry, ruled}
use Rattle.laws_resize.specs.growth.Cuts.{cut_row, gone, cut}
use Rattle.laws_resize.proofs.growth.Sites.{ruled_append}

-- how many a row has
abbrev pub row_count : (h : ℕ) → List (Tree h) → ℕ
row_count h ts = length (joined (map (leaves h) ts))

-- a row's leaves are the first tree's and the rest's
pub count_cons : (h : ℕ) (t : Tree h) (ts : List (Tree h)) → row_count h (t ∷ ts) ≡ count h t + row_count h ts
unfolding joined
count_cons h t ts = length-append (leaves h t) (joined (map (leaves h) ts))

-- no tree, no leaf
pub count_none : (h : ℕ) → row_count h [] ≡ 0
unfolding joined
count_none h = refl

-- the last of more than one
map_last_cons : {A : Type 0} (f : A → A) (x : A) (xs : List A) → 1 ≤ length xs → map_last f (x ∷ xs) ≡ x ∷ map_last f xs
unfolding map_last
map_last_cons f x [] some = absurd (omega arith)
map_last_cons f x (y ∷ ys) some = refl

module _ {A : Type 0} (count : A → ℕ) (cut : ℕ → A → A) where
  -- no leaf is to be kept
  keep_none : (n : ℕ) (xs : List A) → n ≡ 0 → keep_row count cut n xs ≡ []
  unfolding keep_row pick
  keep_none n [] z = refl
  keep_none n (x ∷ xs) z = rw (eq-eqb n 0 z)

  -- some are
  keep_some : (n : ℕ) (x : A) (xs : List A) → 1 ≤ n → keep_row count cut n (x ∷ xs) ≡ cut n x ∷ keep_row count cut (n - count x) xs
  unfolding keep_row pick
  keep_some n x xs some = rw (ne_eqb n 0 (λ z. omega arith))

  -- not more than the first tree has
  pub keep_first : (n : ℕ) (x : A) (xs : List A) → 1 ≤ n → n ≤ count x → keep_row count cut n (x ∷ xs) ≡ cut n x ∷ []
  keep_first n x xs some few = keep_some n x xs some ∙ ap (◌∷◌ (cut n x)) (keep_none (n - count x) xs (omega arith))

-- leaves of shaped trees
module _ (e : Edition) (some : 1 ≤ e.leaf) (two : 2 ≤ e.fan) where
  -- a full tree's leaves
  pub full_count : (h : ℕ) (t : Tree h) → ShapedTree e h false false t → count h t ≡ e.fan ^ h
  unfolding OfTree
  full_count h t s = ((tree_counted e some two h false t s).full refl).0 ∙ mul-one (e.fan ^ h)

  -- a tree has a leaf or more, and no more than a full one
  pub some_count : (h : ℕ) (edge : Bool) (t : Tree h) → ShapedTree e h false edge t → (1 ≤ count h t) × (count h t ≤ e.fan ^ h)
  unfolding OfTree
  some_count h edge t s =
      let c = tree_counted e some two h edge t s in
      (omega (arith, c.low), omega (arith, c.high))

-- cutting to len bytes
module _ (e : Edition) (some : 1 ≤ e.leaf) (two : 2 ≤ e.fan) (len : ℕ) where
  -- the leaves that stay
  abbrev pub stay : ℕ
  stay = leaves_for e.leaf len

  -- what begins past the cut goes, in a row
  past_row : (h : ℕ) → ((i : ℕ) (t : Tree h) → stay ≤ i → ruled (cut e len) (sites h i t) ≡ []) → (i : ℕ) (ts : List (Tree h)) → stay ≤ i
      → ruled (cut e len) (counting (count h) (sites h) i ts) ≡ []
  unfolding counting ruled
  past_row h each i [] late = refl
  past_row h each i (t ∷ ts) late =
      ruled_append (cut e len) (sites h i t) _ ∙ ap₂ ◌++◌ (each i t late) (past_row h each (i + count h t) ts (omega arith))

  -- and so a tree
  past_tree : (h i : ℕ) (t : Tree h) → stay ≤ i → ruled (cut e len) (sites h i t) ≡ []
  unfolding sites ruled entry cut gone pick
  past_tree zero i t late = rw (le-leb stay i late)
  past_tree (suc h) i t late = rw (le-leb stay i late) (past_row h (past_tree h) i t.1 late)

  -- a leaf before the last one that stays is within len
  before_last : (i : ℕ) → suc i < stay → e.leaf * suc i ≤ len
  before_last i early = go len refl
    where
      go : (n : ℕ) → len ≡ n → e.leaf * suc i ≤ len
      go zero z = absurd (omega (arith, ap (leaves_for e.leaf) z, leaves_zero e.leaf))
      go (suc n) z =
          let t = leaves_tight e.leaf len some (omega arith) in
          omega (arith, mul-le-mul_left e.leaf early, mul-suc e.leaf (suc i))

  -- a full row before the cut stays as it is
  before_row : (h : ℕ) → ((i : ℕ) (t : Tree h) → ShapedTree e h false false t → i + e.fan ^ h < stay → ruled (cut e len) (sites h i t) ≡ cells h t)
      → (i : ℕ) (ts : List (Tree h)) → InRow (ShapedTree e h false) false ts → i + e.fan ^ h * length ts < stay
      → ruled (cut e len) (counting (count h) (sites h) i ts) ≡ joined (map (cells h) ts)
  unfolding InRow counting ruled joined
  before_row h each i [] r early = refl
  before_row h each i (t ∷ []) r early = ruled_append (cut e len) (sites h i t) [] ∙ ap₂ ◌++◌ (each i t r (omega arith)) refl
  before_row h each i (t ∷ (u ∷ us)) r early =
      ruled_append (cut e len) (sites h i t) _
      ∙ ap₂ ◌++◌ (each i t r.0 (omega arith)) (before_row h each (i + count h t) (u ∷ us) r.1 (omega (arith, full_count e some two h t r.0)))

  -- and so a full tree
  before_tree : (h i : ℕ) (t : Tree h) → ShapedTree e h false false t → i + e.fan ^ h < stay → ruled (cut e len) (sites h i t) ≡ cells h t
  unfolding ShapedTree sites ruled entry cut gone cut_row pick cells least_count most_count
  before_tree zero i t s early =
      let z = pow-zero e.fan in
      let l = before_last i (omega arith) in
      rw (lt-leb stay i (omega arith), take_all (len - e.leaf * i) t.1 (omega (arith, s.1, mul-suc e.leaf i)))
  before_tree (suc h) i t s early =
      let p = pow-suc e.fan h in
      let n : e.fan ^ h * length t.1 ≤ e.fan ^ suc h = omega (arith, mul-le-mul_left (e.fan ^ h) s.1) in
      let u = up_gt (stay - i) (e.fan ^ h) e.fan (one-le-pow h e.fan (omega arith)) (omega arith) in
      rw (
        lt-leb stay i (omega arith),
        take_all (up (stay - i) (e.fan ^ h)) (map (slot_of h) t.1) (rw (length-map t.1 (slot_of h)) (omega (arith, s.1))),
        before_row h (before_tree h) i t.1 s.2 (omega arith),
      )

  -- all leaves kept, in a row
  all_row : (h : ℕ) → ((edge : Bool) (m : ℕ) (t : Tree h) → ShapedTree e h false edge t → count h t ≤ m → keep h m t ≡ t)
      → (edge : Bool) (m : ℕ) (ts : List (Tree h)) → InRow (ShapedTree e h false) edge ts → row_count h ts ≤ m → keep_row (count h) (keep h) m ts ≡ ts
  unfolding InRow keep_row
  all_row h each edge m [] r fits = refl
  all_row h each edge m (t ∷ []) r fits =
      let c = count_cons h t [] in
      keep_some (count h) (keep h) m t [] (omega (arith, (some_count e some two h edge t r).0))
      ∙ ap (λ (x : Tree h). x ∷ []) (each edge m t r (omega arith))
  all_row h each edge m (t ∷ (u ∷ us)) r fits =
      let c = count_cons h t (u ∷ us) in
      keep_some (count h) (keep h) m t (u ∷ us) (omega (arith, (some_count e some two h false t r.0).0))
      ∙ ap₂ ◌∷◌ (each false m t r.0 (omega arith)) (all_row h each edge (m - count h t) (u ∷ us) r.1 (omega arith))

  -- and in a tree
  keep_all : (h : ℕ) (edge : Bool) (m : ℕ) (t : Tree h) → ShapedTree e h false edge t → count h t ≤ m → keep h m t ≡ t
  unfolding ShapedTree keep leaves
  keep_all zero edge m t s fits = refl
  keep_all (suc h) edge m t s fits = ap (λ (row : List (Tree h)). (t.0, row)) (all_row h (keep_all h) edge m t.1 s.2 fits)

  -- what the last leaf that stays holds, of a tree that begins with leaf i
  abbrev pub last_data : (h i : ℕ) → List (ℕ × List ℕ) → List ℕ
  last_data h i ls = take (len - e.leaf * (stay - 1)) (get_or ls (stay - 1 - i) (0, [])).1

  -- a row with the cut in it, cut
  pub record CutRow (h i : ℕ) (d : List ℕ) (ts : List (Tree h)) : Type 0 where
    pub any : 1 ≤ length (keep_row (count h) (keep h) (stay - i) ts)
    pub cells : joined (map (cells h) (map_last (last_leaf h d) (keep_row (count h) (keep h) (stay - i) ts)))
        ≡ ruled (cut e len) (counting (count h) (sites h) i ts)
    pub slots : map (slot_of h) (map_last (last_leaf h d) (keep_row (count h) (keep h) (stay - i) ts))
        ≡ take (up (stay - i) (e.fan ^ h)) (map (slot_of h) ts)

  -- a tree with the cut in it is cut as the rule says
  abbrev CutTree : ℕ → Type 0
  CutTree h = (i : ℕ) (root edge : Bool) (t : Tree h) → ShapedTree e h root edge t → i < stay → stay ≤ i + count h t → (d : List ℕ)
      → d ≡ last_data h i (leaves h t) → cells h (last_leaf h d (keep h (stay - i) t)) ≡ ruled (cut e len) (sites h i t)

  -- the cut is in the first tree
  cut_here : (h : ℕ) → CutTree h → (i : ℕ) (edge : Bool) (t : Tree h) (ts : List (Tree h)) → ShapedTree e h false edge t → i < stay
      → stay ≤ i + count h t → (d : List ℕ) → d ≡ last_data h i (joined (map (leaves h) (t ∷ ts))) → CutRow h i d (t ∷ ts)
  unfolding map_last joined counting
  cut_here h each i edge t ts s early late d q =
      let k = keep_first (count h) (keep h) (stay - i) t ts (omega arith) (omega arith) in
      let g = get_or-append (leaves h t) (joined (map (leaves h) ts)) (0, []) (stay - 1 - i) (omega arith) in
      let u = up_is (stay - i) (e.fan ^ h) 1 (one-le-pow h e.fan (omega arith)) (omega arith)
      (omega (arith, (some_count e some two h edge t s).1)) in
      record {
        any = rw k (omega arith);
        cells = rw (k, append-nil) (each i false edge t s early late d (q ∙ ap (λ (l : ℕ × List ℕ). take (len - e.leaf * (stay - 1)) l.1) g)
            ∙ sym (ruled_append (cut e len) (sites h i t) _
            ∙ ap (◌++◌ (ruled (cut e len) (sites h i t))) (past_row h (past_tree h) (i + count h t) ts late) ∙ append-nil _));
        slots = rw (k, u) (ap (λ (n : ℕ). n ∷ []) (last_slot h d (keep h (stay - i) t) ∙ keep_slot h (stay - i) t));
      }

  -- it is in a later one
  cut_later : (h i : ℕ) (t : Tree h) (ts : List (Tree h)) → ShapedTree e h false false t → i + count h t < stay → (d : List ℕ)
      → CutRow h (i + count h t) d ts → CutRow h i d (t ∷ ts)
  unfolding joined counting
  cut_later h i t ts s early d rest =
      let n = full_count e some two h t s in
      let m : stay - i - count h t ≡ stay - (i + count h t) = omega arith in
      let k = keep_some (count h) (keep h) (stay - i) t ts (omega arith)
      ∙ ap₂ ◌∷◌ (keep_all h false (stay - i) t s (omega arith)) (ap (λ (j : ℕ). keep_row (count h) (keep h) j ts) m) in
      let l = map_last_cons (last_leaf h d) t (keep_row (count h) (keep h) (stay - (i + count h t)) ts) rest.any in
      let w : stay - i ≡ e.fan ^ h * 1 + (stay - (i + count h t)) = omega arith in
      let u : up (stay - i) (e.fan ^ h) ≡ suc (up (stay - (i + count h t)) (e.fan ^ h)) =
      ap (λ (j : ℕ). up j (e.fan ^ h)) w ∙ up_add (e.fan ^ h) 1 (stay - (i + count h t)) (one-le-pow h e.fan (omega arith)) ∙ omega arith in
      record {
        any = rw k (omega arith);
        cells = rw (k, l) (ap₂ ◌++◌ (sym (before_tree h i t s (omega arith))) rest.cells ∙ sym (ruled_append (cut e len) (sites h i t) _));
        slots = rw (k, l, u) (ap (◌∷◌ (slot_of h t)) rest.slots);
      }

  -- where the last leaf that stays is, past the first tree
  later_data : (h i : ℕ) (t : Tree h) (ts : List (Tree h)) → i + count h t < stay
      → last_data h i (joined (map (leaves h) (t ∷ ts))) ≡ last_data h (i + count h t) (joined (map (leaves h) ts))
  unfolding joined
  later_data h i t ts early =
      let j : stay - 1 - i ≡ count h t + (stay - 1 - (i + count h t)) = omega arith in
      rw j (ap (λ (l : ℕ × List ℕ). take (len - e.leaf * (stay - 1)) l.1)
      (get_or-append-add (leaves h t) (joined (map (leaves h) ts)) (stay - 1 - (i + count h t)) (0, [])))

  -- a row with the cut in it
  pub cut_row_lem : (h : ℕ) → CutTree h → (i : ℕ) (edge : Bool) (ts : List (Tree h)) → InRow (ShapedTree e h false) edge ts → i < stay
      → stay ≤ i + row_count h ts → (d : List ℕ) → d ≡ last_data h i (joined (map (leaves h) ts)) → CutRow h i d ts
  unfolding InRow
  cut_row_lem h each i edge [] r early late d q = absurd (omega (arith, count_none h))
  cut_row_lem h each i edge (t ∷ []) r early late d q =
      cut_here h each i edge t [] r early (omega (arith, count_cons h t [], count_none h)) d q
  cut_row_lem h each i edge (t ∷ (u ∷ us)) r early late d q =
      by_test (leb stay (i + count h t))
      (λ b. cut_here h each i false t (u ∷ us) r.0 early (leb-true stay (i + count h t) b) d q)
      (λ b.
      let past = leb-false stay (i + count h t) b in
      cut_later h i t (u ∷ us) r.0 past d
      (cut_row_lem h each (i + count h t) edge (u ∷ us) r.1 past (omega (arith, count_cons h t (u ∷ us))) d (q ∙ later_data h i t (u ∷ us) past)))

  -- a tree with the cut in it
  pub cut_tree : (h : ℕ) → CutTree h
  unfolding ShapedTree cells last_leaf keep sites ruled entry cut gone cut_row pick leaves
  cut_tree zero i root edge t s early late d q =
      let z : stay ≡ suc i = omega arith in
      let y : suc i - 1 ≡ i = omega arith in
      let x : i - i ≡ 0 = omega arith in
      rw (q, lt-leb stay i early, z, y, x)
  cut_tree (suc h) i root edge t s early late d q =
      let r = cut_row_lem h (cut_tree h) i edge t.1 s.2 early late d q in
      rw (lt-leb stay i early, r.cells, r.slots)
