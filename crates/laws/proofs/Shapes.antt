-- The shape of a blob: its leaves, its height and its blocks are those of its length, and a length has one shape. Off the right edge every
-- tree is full; so trees side by side are full but for the last, and their leaves, bytes and blocks are counted by adding them up.
use mathlib.Core.Path.{◌≡◌, refl, sym, ap, ◌∙◌, subst}
use mathlib.Core.Bool.{Bool, true, false, true≢false}
use mathlib.Core.List.{List, [], ◌∷◌, ◌++◌, map, append-nil}
use Prim.Native.Nat.{ℕ, zero, suc, ◌+◌, ◌*◌, ◌^◌, ◌≤◌, ◌<◌}
use native.Mathlib.Nat.{mul-le-mul_left, pow-zero, pow-suc, mul-one, one-le-pow}
use native.Mathlib.Omega.{arith}
use lib.ListN.{length, length-append, length-map, length-replicate, replicate}
use Rattle.meaning.specs.declared.Edition.{Edition}
use Rattle.meaning.specs.Lists.{pick, joined}
use Rattle.meaning.specs.Tree.{Tree, Blob, content, leaves, cells, content_of, leaves_of, cells_of, slots_of, length_of}
use Rattle.meaning.specs.Shape.{leaves_for, height_for, total, least_count, most_count, InRow, ShapedTree, Shaped}
use Rattle.laws.proofs.Totals.{leaves_zero, leaves_is, total_one}
use Rattle.laws.proofs.Heights.{height_small, height_is}
use Rattle.laws.proofs.Levels.{levels, levels_none, levels_add, levels_top, total_levels}

-- c trees of height h side by side, the last on the right edge or not: n leaves, so many bytes and so many blocks
pub record Counted (e : Edition) (h : ℕ) (edge : Bool) (c n bytes blocks : ℕ) : Type 0 where
  pub low : e.fan ^ h * c < n + e.fan ^ h
  pub high : n ≤ e.fan ^ h * c
  pub tight : e.leaf * n < bytes + e.leaf
  pub fits : bytes ≤ e.leaf * n
  pub sum : blocks ≡ levels e.fan h n
  pub full : edge ≡ false → (n ≡ e.fan ^ h * c) × (bytes ≡ e.leaf * n)

-- a tree's counts
unfoldable pub OfTree : Edition → (h : ℕ) → Bool → Tree h → Type 0
OfTree e h edge t = Counted e h edge 1 (length (leaves h t)) (length (content h t)) (length (cells h t))

-- and a row's
unfoldable pub OfRow : Edition → (h : ℕ) → Bool → List (Tree h) → Type 0
OfRow e h edge ts =
    Counted e h edge (length ts) (length (joined (map (leaves h) ts))) (length (joined (map (content h) ts))) (length (joined (map (cells h) ts)))

module _ (e : Edition) (some : 1 ≤ e.leaf) (two : 2 ≤ e.fan) where
  -- a full tree has a leaf
  power : (h : ℕ) → 1 ≤ e.fan ^ h
  power h = one-le-pow h e.fan (omega arith)

  -- no tree
  none : (h : ℕ) (edge : Bool) → Counted e h edge 0 0 0 0
  none h edge = record {
    low = omega (arith, power h);
    high = omega arith;
    tight = omega arith;
    fits = omega arith;
    sum = sym (levels_none e.fan h two);
    full = λ off. omega arith;
  }

  -- a full tree before others
  before : (h : ℕ) (edge : Bool) (n₁ s₁ b₁ c n s b : ℕ) → Counted e h false 1 n₁ s₁ b₁ → Counted e h edge c n s b
      → Counted e h edge (suc c) (n₁ + n) (s₁ + s) (b₁ + b)
  before h edge n₁ s₁ b₁ c n s b first rest =
      let f = first.full refl in
      record {
        low = omega arith;
        high = omega arith;
        tight = omega arith;
        fits = omega arith;
        sum = rw (f.0, levels_add e.fan h 1 n two) (omega (arith, first.sum, rest.sum, ap (levels e.fan h) f.0));
        full = λ off. let g = rest.full off in omega arith;
      }

  -- a block above the trees of a row
  above : (h : ℕ) (edge : Bool) (c n s b : ℕ) → Counted e h edge c n s b → 1 ≤ c → c ≤ e.fan → (edge ≡ false → c ≡ e.fan)
      → Counted e (suc h) edge 1 n s (suc b)
  above h edge c n s b row least_count most_count all =
      let p = pow-suc e.fan h in
      let low : 1 ≤ n = omega (arith, mul-le-mul_left (e.fan ^ h) least_count, row.low) in
      let high : n ≤ e.fan ^ suc h = omega (arith, mul-le-mul_left (e.fan ^ h) most_count, row.high) in
      record {
        low = omega arith;
        high = omega arith;
        tight = row.tight;
        fits = row.fits;
        sum = omega (arith, row.sum, levels_top e.fan h n two low high);
        full = λ off. let f = row.full off in (omega (arith, ap (λ (x : ℕ). e.fan ^ h * x) (all off)), f.1);
      }

  -- a row is counted tree by tree
  rows : (h : ℕ) → ((edge : Bool) (t : Tree h) → ShapedTree e h false edge t → OfTree e h edge t)
      → (edge : Bool) (ts : List (Tree h)) → InRow (ShapedTree e h false) edge ts → OfRow e h edge ts
  unfolding InRow joined OfTree OfRow
  rows h each edge [] r = none h edge
  rows h each edge (t ∷ []) r = simp append-nil (each edge t r)
  rows h each edge (t ∷ (u ∷ us)) r =
      let rest = u ∷ us in
      let all = before h edge _ _ _ _ _ _ _ (each false t r.0) (rows h each edge (u ∷ us) r.1) in
      rw (
        length-append (leaves h t) (joined (map (leaves h) rest)),
        length-append (content h t) (joined (map (content h) rest)),
        length-append (cells h t) (joined (map (cells h) rest)),
      ) all

  -- a tree below the root is counted with the rows in it
  pub tree_counted : (h : ℕ) (edge : Bool) (t : Tree h) → ShapedTree e h false edge t → OfTree e h edge t
  unfolding ShapedTree OfTree OfRow leaves content cells least_count most_count pick levels
  tree_counted zero true t s =
      let p = pow-zero e.fan in
      record {
        low = omega arith;
        high = omega arith;
        tight = omega arith;
        fits = omega arith;
        sum = refl;
        full = λ off. absurd (true≢false off);
      }
  tree_counted zero false t s =
      let p = pow-zero e.fan in
      record {
        low = omega arith;
        high = omega arith;
        tight = omega arith;
        fits = omega arith;
        sum = refl;
        full = λ off. omega arith;
      }
  tree_counted (suc h) true t s =
      above h true _ _ _ _ (rows h (tree_counted h) true t.1 s.2) s.0 s.1 (λ off. absurd (true≢false off))
  tree_counted (suc h) false t s =
      above h false _ _ _ _ (rows h (tree_counted h) false t.1 s.2) (omega arith) s.1 (λ off. omega arith)

  -- a row of such trees
  pub row_counted : (h : ℕ) (edge : Bool) (ts : List (Tree h)) → InRow (ShapedTree e h false) edge ts → OfRow e h edge ts
  row_counted h edge ts r = rows h (tree_counted h) edge ts r

  -- what a root's counts are
  record Whole (h n bytes blocks : ℕ) : Type 0 where
    count : n ≡ leaves_for e.leaf bytes
    tall : h ≡ height_for e.fan n
    sum : blocks ≡ total e.fan n

  -- a root has a leaf, or two trees or more below it
  whole : (h : ℕ) (t : Tree h) → ShapedTree e h true true t → Whole h (length (leaves h t)) (length (content h t)) (length (cells h t))
  unfolding ShapedTree OfRow leaves content cells least_count most_count pick
  whole zero t s = record {
    count = one_leaf t.1 s.1;
    tall = sym (height_small e.fan 1 two (omega arith));
    sum = sym (total_one e.fan);
  }
    where
      one_leaf : (d : List ℕ) → length d ≤ e.leaf → 1 ≡ leaves_for e.leaf (length d)
      one_leaf [] fits = sym (leaves_zero e.leaf)
      one_leaf (x ∷ d) fits = sym (leaves_is e.leaf (length (x ∷ d)) 1 some (omega arith) (omega arith) (omega arith))
  whole (suc h) t s =
      let row = row_counted h true t.1 s.2 in
      let top = above h true _ _ _ _ row (omega arith) s.1 (λ off. absurd (true≢false off)) in
      let n = length (joined (map (leaves h) t.1)) in
      let low : e.fan ^ h < n = omega (arith, row.low, mul-le-mul_left (e.fan ^ h) s.0) in
      let high : n ≤ e.fan ^ suc h = omega (arith, top.high, mul-one (e.fan ^ suc h)) in
      record {
        count = sym (leaves_is e.leaf _ n some (omega arith) row.fits row.tight);
        tall = sym (height_is e.fan n h two low high);
        sum = top.sum ∙ sym (total_levels e.fan h n two low high);
      }

  -- the leaves of a blob are those of its length
  pub shaped_leaves : (b : Blob) → Shaped e b → length (leaves_of b) ≡ leaves_for e.leaf (length_of b)
  unfolding Shaped leaves_of length_of content_of
  shaped_leaves b s = (whole b.height b.tree s).count

  -- its height is that of its leaves
  pub shaped_height : (b : Blob) → Shaped e b → b.height ≡ height_for e.fan (length (leaves_of b))
  unfolding Shaped leaves_of
  shaped_height b s = (whole b.height b.tree s).tall

  -- and so are its blocks
  pub shaped_blocks : (b : Blob) → Shaped e b → length (cells_of b) ≡ total e.fan (length (leaves_of b))
  unfolding Shaped leaves_of cells_of
  shaped_blocks b s = (whole b.height b.tree s).sum

  -- and its slots, one for each block
  pub shaped_slots : (b : Blob) → Shaped e b → length (slots_of b) ≡ total e.fan (length (leaves_of b))
  unfolding slots_of
  shaped_slots b s = length-map (cells_of b) (λ c. c.0) ∙ shaped_blocks b s

-- the tree with its slots put to zero, and each leaf's bytes to what f makes of them
unfoldable pub bare : (f : List ℕ → List ℕ) (h : ℕ) → Tree h → Tree h
bare f zero t = (0, f t.1)
bare f (suc h) t = (0, map (bare f h) t.1)

-- the blob with its slots put to zero
unfoldable pub skeleton : Blob → Blob
skeleton b = record { height = b.height; tree = bare (λ d. d) b.height b.tree }

-- bytes put to zero
unfoldable pub blank : List ℕ → List ℕ
blank d = replicate (length d) 0

-- the blob with its slots and bytes put to zero
unfoldable pub outline : Blob → Blob
outline b = record { height = b.height; tree = bare blank b.height b.tree }

-- what f keeps of bytes tells how many they are, and splits where they split
record Splits (f : List ℕ → List ℕ) : Type 0 where
  sized : (x y : List ℕ) → f x ≡ f y → length x ≡ length y
  apart : (a b c d : List ℕ) → f (a ++ b) ≡ f (c ++ d) → length a ≡ length c → (f a ≡ f c) × (f b ≡ f d)

-- all bytes kept
kept_splits : Splits (λ d. d)
kept_splits = record { sized = λ x y same. ap length same; apart = halves }
  where
    halves : (a b c d : List ℕ) → a ++ b ≡ c ++ d → length a ≡ length c → (a ≡ c) × (b ≡ d)
    halves [] b [] d same len = (refl, same)
    halves [] b (y ∷ c) d same len = absurd (omega arith)
    halves (x ∷ a) b [] d same len = absurd (omega arith)
    halves (x ∷ a) b (y ∷ c) d same len =
        let rest = halves a b c d (cc) (omega arith) in
        (cc, rest.1)

-- zeros of one length are the same
pub blank_same : (x y : List ℕ) → length x ≡ length y → blank x ≡ blank y
unfolding blank
blank_same x y len = ap (λ (n : ℕ). replicate {A = ℕ} n 0) len

-- and tell it
blank_sized : (x y : List ℕ) → blank x ≡ blank y → length x ≡ length y
unfolding blank
blank_sized x y same = omega (arith, length-replicate {A = ℕ} (length x) 0, length-replicate {A = ℕ} (length y) 0, ap length same)

-- only their count kept
blank_splits : Splits blank
blank_splits = record {
  sized = blank_sized;
  apart = λ a b c d same len.
      let all = blank_sized (a ++ b) (c ++ d) same in
      (blank_same a c len, blank_same b d (omega (arith, length-append a b, length-append c d)));
}

module _ (e : Edition) (some : 1 ≤ e.leaf) (two : 2 ≤ e.fan) where
  -- off the edge a tree holds as many bytes as it can
  full_bytes : (h : ℕ) (t : Tree h) → ShapedTree e h false false t → length (content h t) ≡ e.leaf * e.fan ^ h
  unfolding OfTree
  full_bytes h t s =
      let f = (tree_counted e some two h false t s).full refl in
      f.1 ∙ ap (λ (n : ℕ). e.leaf * n) (f.0 ∙ mul-one (e.fan ^ h))

  -- and on it no more
  most_bytes : (h : ℕ) (edge : Bool) (t : Tree h) → ShapedTree e h false edge t → length (content h t) ≤ e.leaf * e.fan ^ h
  unfolding OfTree
  most_bytes h edge t s =
      let m = tree_counted e some two h edge t s in
      omega (arith, m.fits, mul-le-mul_left e.leaf m.high)

  -- a row of trees holds a byte
  row_bytes : (h : ℕ) (edge : Bool) (t : Tree h) (ts : List (Tree h)) → InRow (ShapedTree e h false) edge (t ∷ ts)
      → 1 ≤ length (joined (map (content h) (t ∷ ts)))
  unfolding OfRow
  row_bytes h edge t ts s =
      let m = row_counted e some two h edge (t ∷ ts) s in
      let leaf : 1 ≤ length (joined (map (leaves h) (t ∷ ts))) = omega (arith, m.low) in
      omega (arith, m.tight, mul-le-mul_left e.leaf leaf)

  -- one tree holds less than two or more side by side
  one_less : (h : ℕ) (edge : Bool) (t u u' : Tree h) (us : List (Tree h)) → ShapedTree e h false edge t
      → InRow (ShapedTree e h false) edge (u ∷ (u' ∷ us))
      → length (joined (map (content h) (t ∷ []))) < length (joined (map (content h) (u ∷ (u' ∷ us))))
  unfolding InRow joined
  one_less h edge t u u' us p q = omega (
    arith,
    length-append (content h t) [],
    length-append (content h u) (joined (map (content h) (u' ∷ us))),
    most_bytes h edge t p,
    full_bytes h u q.0,
    row_bytes h edge u' us q.1,
  )

  module _ (f : List ℕ → List ℕ) (splits : Splits f) where
    -- two shaped trees of one height with the same bytes are the same
    unfoldable Same : ℕ → Type 0
    Same h = (root edge : Bool) (t u : Tree h) → ShapedTree e h root edge t → ShapedTree e h root edge u
        → f (content h t) ≡ f (content h u) → bare f h t ≡ bare f h u

    -- and so two rows of them
    same_rows : (h : ℕ) → Same h → (edge : Bool) (ts us : List (Tree h))
        → InRow (ShapedTree e h false) edge ts → InRow (ShapedTree e h false) edge us
        → f (joined (map (content h) ts)) ≡ f (joined (map (content h) us)) → map (bare f h) ts ≡ map (bare f h) us
    unfolding Same InRow joined
    same_rows h each edge [] [] p q l = refl
    same_rows h each edge [] (u ∷ us) p q l =
        absurd (omega (arith, splits.sized _ _ l, row_bytes h edge u us q))
    same_rows h each edge (t ∷ ts) [] p q l =
        absurd (omega (arith, splits.sized _ _ l, row_bytes h edge t ts p))
    same_rows h each edge (t ∷ []) (u ∷ []) p q l =
        ap (λ (x : Tree h). x ∷ []) (each false edge t u p q (simp append-nil at l))
    same_rows h each edge (t ∷ []) (u ∷ (u' ∷ us)) p q l =
        absurd (omega (arith, splits.sized _ _ l, one_less h edge t u u' us p q))
    same_rows h each edge (t ∷ (t' ∷ ts)) (u ∷ []) p q l =
        absurd (omega (arith, splits.sized _ _ l, one_less h edge u t t' ts q p))
    same_rows h each edge (t ∷ (t' ∷ ts)) (u ∷ (u' ∷ us)) p q l =
        let both = splits.apart (content h t) (joined (map (content h) (t' ∷ ts))) (content h u) (joined (map (content h) (u' ∷ us))) l
        (full_bytes h t p.0 ∙ sym (full_bytes h u q.0)) in
        let first = each false false t u p.0 q.0 both.0 in
        let rest = same_rows h each edge (t' ∷ ts) (u' ∷ us) p.1 q.1 both.1 in
        cc

    -- at every height
    same : (h : ℕ) → Same h
    unfolding Same ShapedTree bare content
    same zero root edge t u p q l = ap (λ (d : List ℕ). (0, d)) l
    same (suc h) root edge t u p q l =
        ap (λ (row : List (Tree h)). (0, row)) (same_rows h (same h) edge t.1 u.1 p.2 q.2 l)

    -- two blobs of one height with the same bytes are the same
    same_blob : (h g : ℕ) → h ≡ g → (t : Tree h) (u : Tree g) → ShapedTree e h true true t → ShapedTree e g true true u
        → f (content h t) ≡ f (content g u)
        → ◌≡◌ {A = Blob} (record { height = h; tree = bare f h t }) (record { height = g; tree = bare f g u })
    unfolding Same
    same_blob h g eq =
        subst (λ (g : ℕ). (t : Tree h) (u : Tree g) → ShapedTree e h true true t → ShapedTree e g true true u
        → f (content h t) ≡ f (content g u)
        → ◌≡◌ {A = Blob} (record { height = h; tree = bare f h t }) (record { height = g; tree = bare f g u })) eq
        (λ t u p q l. ap (λ (x : Tree h). record { height = h; tree = x }) (same h true true t u p q l))

  -- blobs of one length have one height
  same_height : (a b : Blob) → Shaped e a → Shaped e b → length_of a ≡ length_of b → a.height ≡ b.height
  same_height a b p q l = cc (shaped_height e some two a p, shaped_height e some two b q, shaped_leaves e some two a p, shaped_leaves e some two b q)

  -- a length has one shape
  pub one_shape : (a b : Blob) → Shaped e a → Shaped e b → length_of a ≡ length_of b → outline a ≡ outline b
  unfolding Shaped outline length_of content_of
  one_shape a b p q l =
      same_blob blank blank_splits a.height b.height (same_height a b p q l) a.tree b.tree p q (blank_same _ _ l)

  -- and a content has one tree, up to slots
  pub one_tree : (a b : Blob) → Shaped e a → Shaped e b → content_of a ≡ content_of b → skeleton a ≡ skeleton b
  unfolding Shaped skeleton length_of content_of
  one_tree a b p q l =
      same_blob (λ d. d) kept_splits a.height b.height (same_height a b p q (ap length l)) a.tree b.tree p q l
