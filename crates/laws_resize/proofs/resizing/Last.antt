-- The last leaf with other bytes: the tree keeps its shape and its slots, and its content up to that leaf. With the last leaf's share of a
-- length for these bytes, the content is the old one, cut or filled with zeros as far as the leaves and that length go.
use mathlib.Core.Path.{◌≡◌, refl, sym, ap, ◌∙◌}
use mathlib.Core.Bool.{Bool, true, false}
use mathlib.Core.List.{List, [], ◌∷◌, ◌++◌, map, append-nil, append_assoc}
use Prim.Native.Nat.{ℕ, zero, suc, ◌+◌, ◌-◌, ◌*◌, ◌≤◌, ◌<◌, min}
use native.Mathlib.Nat.{mul-zero, mul-suc}
use native.Mathlib.Decide.{dec_le}
use native.Mathlib.Omega.{arith}
use lib.ListN.{length, length-append, length-drop, take, drop, replicate}
use lib.Seq.{take_all, take-add, take-append-add, take-append-le}
use Rattle.meaning.specs.declared.Edition.{Edition}
use Rattle.meaning.specs.Lists.{pick, joined, map_last, padded}
use Rattle.meaning.specs.Tree.{Tree, Blob, slot_of, content, leaves, leaves_of}
use Rattle.meaning.specs.Shape.{leaves_for, least_count, most_count, InRow, ShapedTree, Shaped}
use Rattle.meaning.specs.Resize.{last_leaf, share, last_bytes}
use Rattle.laws.proofs.Totals.{leaves_zero, leaves_some, leaves_tight}
use Rattle.laws.proofs.Heights.{height_small}
use Rattle.laws.proofs.Shapes.{OfTree, OfRow, tree_counted, row_counted, shaped_height}
use Rattle.laws.proofs.Codec.{padded_length, padded_fits}
use Rattle.laws_resize.proofs.resizing.Ends.{by_last, joined_snoc, map_last_snoc, map_last_length, row_snoc, row_apart, some_child}
use Rattle.laws.proofs.TreeSlots.{slots, slots_leaf, slots_inner}

-- a list cut or filled, as its front and zeros
pub padded_is : (n : ℕ) (l : List ℕ) → padded n l ≡ take n l ++ replicate (n - length l) 0
unfolding padded
padded_is n l = by (dec_le (length l) n)
  where
    by : Dec (length l ≤ n) → padded n l ≡ take n l ++ replicate (n - length l) 0
    by (yes p) = padded_fits n l p ∙ rw (take_all n l p)
    by (no p) =
        let z : n - length l ≡ 0 = omega arith in
        rw z (take-append-le n l (replicate n 0) (omega arith) ∙ sym (append-nil (take n l)))

-- its front, then what is left of it cut or filled
padded_after : (k m : ℕ) (l : List ℕ) → k ≤ length l → take k l ++ padded m (drop k l) ≡ padded (k + m) l
padded_after k m l h =
    let z : m - (length l - k) ≡ k + m - length l = omega arith in
    rw (padded_is m (drop k l), padded_is (k + m) l, length-drop k l, z, take-add k m l)
    (sym (append_assoc (take k l) (take m (drop k l)) (replicate (k + m - length l) 0)))

-- the leaves before the last, and the last
pub before_last : (leaf n : ℕ) → 1 ≤ n → leaf * (n - 1) + leaf ≡ leaf * n
before_last leaf zero h = absurd (omega arith)
before_last leaf (suc n) h =
    let z : suc n - 1 ≡ n = omega arith in
    rw z (omega (arith, mul-suc leaf n))

-- a length reaches its last leaf
pub reaches_last : (leaf len : ℕ) → 1 ≤ leaf → leaf * (leaves_for leaf len - 1) ≤ len
reaches_last leaf zero some = rw (leaves_zero leaf, mul-zero) (omega arith)
reaches_last leaf (suc len) some =
    omega (arith, before_last leaf (leaves_for leaf (suc len)) (leaves_some leaf (suc len) some), leaves_tight leaf (suc len) some (omega arith))

-- and goes into it, if there are others
pub into_last : (leaf len : ℕ) → 1 ≤ leaf → 2 ≤ leaves_for leaf len → leaf * (leaves_for leaf len - 1) < len
into_last leaf zero some more = absurd (omega (arith, leaves_zero leaf))
into_last leaf (suc len) some more =
    omega (arith, before_last leaf (leaves_for leaf (suc len)) (omega arith), leaves_tight leaf (suc len) some (omega arith))

-- the last leaf's share is no more than a leaf, and what is left of the length
pub last_length : (e : Edition) (len n : ℕ) (c : List ℕ) → length (last_bytes e len n c) ≡ min e.leaf (len - e.leaf * (n - 1))
unfolding last_bytes share
last_length e len n c = padded_length (min e.leaf (len - e.leaf * (n - 1))) (drop (e.leaf * (n - 1)) c)

-- the leaves before the last, then the last one's share
pub last_joined : (e : Edition) (len n : ℕ) (c : List ℕ) → 1 ≤ n → e.leaf * (n - 1) ≤ length c → e.leaf * (n - 1) ≤ len
    → take (e.leaf * (n - 1)) c ++ last_bytes e len n c ≡ padded (min (e.leaf * n) len) c
unfolding last_bytes share
last_joined e len n c least_count fits low =
    let k = e.leaf * (n - 1) in
    let z : k + min e.leaf (len - k) ≡ min (e.leaf * n) len = omega (arith, before_last e.leaf n least_count) in
    padded_after k (min e.leaf (len - k)) c fits ∙ ap (λ (m : ℕ). padded m c) z

-- the root stays in its slot
pub last_slot : (h : ℕ) (d : List ℕ) (t : Tree h) → slot_of h (last_leaf h d t) ≡ slot_of h t
unfolding slot_of last_leaf
last_slot zero d t = refl
last_slot (suc h) d t = refl

-- and so does every block
pub last_slots : (h : ℕ) (d : List ℕ) (t : Tree h) → slots h (last_leaf h d t) ≡ slots h t
unfolding last_leaf joined map_last
last_slots zero d t = slots_leaf (t.0, d) ∙ sym (slots_leaf t)
last_slots (suc h) d t =
    slots_inner h t.0 (map_last (last_leaf h d) t.1) ∙ ap (λ (l : List ℕ). t.0 ∷ l) (row (last_slots h d) t.1)
    ∙ sym (slots_inner h t.0 t.1)
  where
    row : ((t : Tree h) → slots h (last_leaf h d t) ≡ slots h t) → (ts : List (Tree h))
        → joined (map (slots h) (map_last (last_leaf h d) ts)) ≡ joined (map (slots h) ts)
    row each [] = refl
    row each (x ∷ []) = rw (each x)
    row each (x ∷ (y ∷ ys)) = ap (λ (l : List ℕ). slots h x ++ l) (row each (y ∷ ys))

module _ (e : Edition) (some : 1 ≤ e.leaf) (two : 2 ≤ e.fan) where
  -- a row whose last tree keeps its shape keeps its own
  last_row : (h : ℕ) (d : List ℕ) → ((t : Tree h) → ShapedTree e h false true t → ShapedTree e h false true (last_leaf h d t))
      → (ts : List (Tree h)) → 1 ≤ length ts → InRow (ShapedTree e h false) true ts
      → InRow (ShapedTree e h false) true (map_last (last_leaf h d) ts)
  last_row h d each = by_last (λ ts. InRow (ShapedTree e h false) true ts → InRow (ShapedTree e h false) true (map_last (last_leaf h d) ts))
      (λ front x r.
      let a = row_apart (ShapedTree e h false) true front x r in
      rw (map_last_snoc (last_leaf h d) front x)
      (row_snoc (ShapedTree e h false) true front (last_leaf h d x) a.0 (each x a.1)))

  -- a tree on the edge keeps its shape, if the last leaf has a byte or more
  last_edge : (h : ℕ) (d : List ℕ) → 1 ≤ length d → length d ≤ e.leaf → (t : Tree h) → ShapedTree e h false true t
      → ShapedTree e h false true (last_leaf h d t)
  unfolding ShapedTree last_leaf least_count most_count pick
  last_edge zero d low high t s = (low, high)
  last_edge (suc h) d low high t s =
      let n = map_last_length (last_leaf h d) t.1 in
      (rw n s.0, rw n s.1, last_row h d (last_edge h d low high) t.1 s.0 s.2)

  -- a root's tree too, and if the root is the last leaf then with no byte as well
  pub last_shaped : (h : ℕ) (d : List ℕ) → (1 ≤ h → 1 ≤ length d) → length d ≤ e.leaf → (t : Tree h) → ShapedTree e h true true t
      → ShapedTree e h true true (last_leaf h d t)
  unfolding ShapedTree last_leaf least_count most_count pick
  last_shaped zero d low high t s = (omega arith, high)
  last_shaped (suc h) d low high t s =
      let n = map_last_length (last_leaf h d) t.1 in
      (rw n s.0, rw n s.1, last_row h d (last_edge h d (low (omega arith)) high) t.1 (omega (arith, s.0)) s.2)

  -- a tree with other bytes in its last leaf has these after the bytes before that leaf
  unfoldable pub LastBytes : ℕ → List ℕ → Type 0
  LastBytes h d = (root : Bool) (t : Tree h) → ShapedTree e h root true t
      → content h (last_leaf h d t) ≡ take (e.leaf * (length (leaves h t) - 1)) (content h t) ++ d

  -- a row, if each tree has
  last_row_content : (h : ℕ) (d : List ℕ) → LastBytes h d → (ts : List (Tree h)) → 1 ≤ length ts → InRow (ShapedTree e h false) true ts
      → joined (map (content h) (map_last (last_leaf h d) ts))
      ≡ take (e.leaf * (length (joined (map (leaves h) ts)) - 1)) (joined (map (content h) ts)) ++ d
  unfolding LastBytes OfTree OfRow
  last_row_content h d each = by_last (λ ts. InRow (ShapedTree e h false) true ts
      → joined (map (content h) (map_last (last_leaf h d) ts))
      ≡ take (e.leaf * (length (joined (map (leaves h) ts)) - 1)) (joined (map (content h) ts)) ++ d)
      (λ front x r.
      let a = row_apart (ShapedTree e h false) true front x r in
      let F = joined (map (content h) front) in
      let m = row_counted e some two h false front a.0 in
      let n = tree_counted e some two h true x a.1 in
      let a' = length (joined (map (leaves h) front)) in
      let b' = length (leaves h x) in
      let k = e.leaf * (b' - 1) in
      let low : 1 ≤ b' = omega (arith, n.low) in
      let at : e.leaf * (a' + b' - 1) ≡ length F + k =
      omega (arith, (m.full refl).1, before_last e.leaf (a' + b') (omega arith), before_last e.leaf b' low) in
      rw (
        map_last_snoc (last_leaf h d) front x,
        joined_snoc (content h) front (last_leaf h d x),
        joined_snoc (content h) front x,
        joined_snoc (leaves h) front x,
        length-append (joined (map (leaves h) front)) (leaves h x),
        at,
        take-append-add F (content h x) k,
        each false x a.1,
      ) (sym (append_assoc F (take k (content h x)) d)))

  -- every tree on the edge has
  pub last_content : (h : ℕ) (d : List ℕ) → LastBytes h d
  unfolding LastBytes content leaves last_leaf ShapedTree
  last_content zero d root t s = simp mul-zero
  last_content (suc h) d root t s = last_row_content h d (last_content h d) t.1 (some_child e two h true root _ s.0) s.2

  -- a blob with a root above its leaves has two leaves or more
  pub tall_leaves : (b : Blob) → Shaped e b → 1 ≤ b.height → 2 ≤ length (leaves_of b)
  tall_leaves b s tall = by (dec_le 2 (length (leaves_of b)))
    where
      by : Dec (2 ≤ length (leaves_of b)) → 2 ≤ length (leaves_of b)
      by (yes p) = p
      by (no p) = absurd (omega (arith, shaped_height e some two b s, height_small e.fan (length (leaves_of b)) two (omega arith)))
