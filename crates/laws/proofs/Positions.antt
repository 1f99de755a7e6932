-- Where a blob's bytes lie. All leaves of a blob are full but the last, which has a byte or more where it is not the only one. The content
-- is the leaves' bytes in a row, so leaf i's bytes begin at i payloads, and a position's leaf is its quotient by the payload, its place
-- in that leaf the remainder. With what a walk found, a stretch of the content within one leaf is a stretch of the block in that leaf's slot.
use mathlib.Core.Path.{◌≡◌, refl, ap, ap₂, ◌∙◌, sym}
use mathlib.Core.Logic.{◌⊎◌, inl, inr}
use mathlib.Core.Bool.{Bool, true, false}
use mathlib.Core.List.{List, [], ◌∷◌, ◌++◌, map, append_assoc, append-nil, map-append}
use Prim.Native.Nat.{ℕ, zero, suc, ◌+◌, ◌-◌, ◌*◌, ◌/◌, ◌%◌, ◌^◌, ◌≤◌, ◌<◌}
use native.Mathlib.Nat.{add-zero, mul-zero, mul-suc, mul_comm, div-add-mod, div-lt_iff_lt-mul, mul-le-mul_left}
use native.Mathlib.Omega.{arith}
use lib.ListN.{length, get_or, take, drop, length-append, length-drop}
use borrow.Author.Tests.{ltb-true, ltb-false}
use lib.Dec.{ltb}
use lib.Seq.{take-length, take-append-le, drop-append-le, drop-append-add, drop-drop}
use Rattle.meaning.specs.declared.Edition.{Edition}
use Rattle.meaning.specs.Lists.{pick, part, joined}
use Rattle.meaning.specs.Edition.{Proper}
use Rattle.meaning.specs.Bytes.{block, count_of, data_of}
use Rattle.meaning.specs.Tree.{Tree, Blob, content, leaves, content_of, leaves_of, length_of}
use Rattle.meaning.specs.Shape.{least_count, most_count, InRow, ShapedTree, Shaped}
use Rattle.meaning.specs.Walk.{fine, from_root}
use Rattle.laws.proofs.Numbers.{part_part}
use Rattle.laws.proofs.Shapes.{OfRow, row_counted}
use Rattle.laws.proofs.Inversions.{by_test}
use Rattle.laws.proofs.Walked.{leaf_slots, leaf_slots_length, walk_shaped, walk_leaf_at}

-- lists joined are joined in front of others
pub joined_append : {A : Type 0} (xs ys : List (List A)) → joined (xs ++ ys) ≡ joined xs ++ joined ys
unfolding joined
joined_append [] ys = refl
joined_append (x ∷ xs) ys = ap (◌++◌ x) (joined_append xs ys) ∙ sym (append_assoc x (joined xs) (joined ys))

-- a part that is all of a list
part_whole : {A : Type 0} (l : List A) → part 0 (length l) l ≡ l
unfolding part
part_whole l = take-length l

-- the bytes of leaves, in a row
unfoldable pub bytes_of : List (ℕ × List ℕ) → List ℕ
bytes_of ls = joined (map (λ l. l.1) ls)

-- those of two rows of leaves
bytes_append : (ls ms : List (ℕ × List ℕ)) → bytes_of (ls ++ ms) ≡ bytes_of ls ++ bytes_of ms
unfolding bytes_of
bytes_append ls ms =
    let second : ℕ × List ℕ → List ℕ = λ l. l.1 in
    ap joined (map-append second ls ms) ∙ joined_append (map second ls) (map second ms)

-- a row's content is its leaves' bytes, if each tree's is
row_content : (h : ℕ) → ((t : Tree h) → content h t ≡ bytes_of (leaves h t)) → (ts : List (Tree h))
    → joined (map (content h) ts) ≡ bytes_of (joined (map (leaves h) ts))
unfolding joined bytes_of
row_content h each [] = refl
row_content h each (t ∷ ts) =
    ap₂ ◌++◌ (each t) (row_content h each ts) ∙ sym (bytes_append (leaves h t) (joined (map (leaves h) ts)))

-- a tree's content is its leaves' bytes
pub tree_content : (h : ℕ) (t : Tree h) → content h t ≡ bytes_of (leaves h t)
unfolding content leaves bytes_of joined
tree_content zero t = sym (append-nil t.1)
tree_content (suc h) t = row_content h (tree_content h) t.1

-- and so is a blob's
pub blob_content : (b : Blob) → content_of b ≡ bytes_of (leaves_of b)
unfolding content_of leaves_of
blob_content b = tree_content b.height b.tree

-- rows side by side: the first off the edge, the second, not empty, on it or not
pub row_append : {A : Type 0} (on : Bool → A → Type 0) (edge : Bool) (xs ys : List A) → InRow on false xs → InRow on edge ys → 1 ≤ length ys
    → InRow on edge (xs ++ ys)
unfolding InRow
row_append on edge [] ys r s some = s
row_append on edge (x ∷ []) [] r s some = absurd (omega arith)
row_append on edge (x ∷ []) (y ∷ ys) r s some = (r, s)
row_append on edge (x ∷ (x' ∷ xs)) ys r s some = (r.0, row_append on edge (x' ∷ xs) ys r.1 s some)

-- each of a row is off the edge, or is the last and on it or not
pub row_at_lem : {A : Type 0} (on : Bool → A → Type 0) (edge : Bool) (l : List A) (i : ℕ) (d : A) → InRow on edge l → i < length l
    → (on false (get_or l i d)) ⊎ ((suc i ≡ length l) × on edge (get_or l i d))
unfolding InRow
row_at_lem on edge [] i d r h = absurd (omega arith)
row_at_lem on edge (x ∷ []) zero d r h = inr (refl, r)
row_at_lem on edge (x ∷ []) (suc i) d r h = absurd (omega arith)
row_at_lem on edge (x ∷ (y ∷ l)) zero d r h = inl r.0
row_at_lem on edge (x ∷ (y ∷ l)) (suc i) d r h = next (row_at_lem on edge (y ∷ l) i d r.1 (omega arith))
  where
    next : (on false (get_or (y ∷ l) i d)) ⊎ ((suc i ≡ length (y ∷ l)) × on edge (get_or (y ∷ l) i d))
        → (on false (get_or (y ∷ l) i d)) ⊎ ((suc (suc i) ≡ length (x ∷ (y ∷ l))) × on edge (get_or (y ∷ l) i d))
    next (inl a) = inl a
    next (inr a) = inr (ap suc a.0, a.1)

-- leaves in a row, all full but the last: the last has no more, and not none if there are others
pub record Filled (k : ℕ) (ls : List (ℕ × List ℕ)) : Type 0 where
  pub some : 1 ≤ length ls
  pub full : (i : ℕ) → suc i < length ls → length (get_or ls i (0, [])).1 ≡ k
  pub most : (i : ℕ) → i < length ls → length (get_or ls i (0, [])).1 ≤ k
  pub least : 2 ≤ length ls → (i : ℕ) → i < length ls → 1 ≤ length (get_or ls i (0, [])).1

module _ (e : Edition) (some : 1 ≤ e.leaf) (two : 2 ≤ e.fan) where
  -- a row of trees that is not empty has a leaf
  row_leaf : (h : ℕ) (edge : Bool) (ts : List (Tree h)) → InRow (ShapedTree e h false) edge ts → 1 ≤ length ts
      → 1 ≤ length (joined (map (leaves h) ts))
  unfolding OfRow
  row_leaf h edge ts r n =
      let m = row_counted e some two h edge ts r in
      omega (arith, m.low, mul-le-mul_left (e.fan ^ h) n)

  -- the leaves of a row of trees are a row, if each tree's are
  rows_leaves : (h : ℕ) → ((edge : Bool) (t : Tree h) → ShapedTree e h false edge t → InRow (ShapedTree e zero false) edge (leaves h t))
      → (edge : Bool) (ts : List (Tree h)) → InRow (ShapedTree e h false) edge ts
      → InRow (ShapedTree e zero false) edge (joined (map (leaves h) ts))
  unfolding InRow joined
  rows_leaves h each edge [] r = tt
  rows_leaves h each edge (t ∷ []) r = rw append-nil (each edge t r)
  rows_leaves h each edge (t ∷ (u ∷ us)) r =
      row_append (ShapedTree e zero false) edge (leaves h t) (joined (map (leaves h) (u ∷ us))) (each false t r.0)
      (rows_leaves h each edge (u ∷ us) r.1) (row_leaf h edge (u ∷ us) r.1 (omega arith))

  -- the leaves of a tree below the root are a row
  pub tree_leaves_lem : (h : ℕ) (edge : Bool) (t : Tree h) → ShapedTree e h false edge t → InRow (ShapedTree e zero false) edge (leaves h t)
  unfolding ShapedTree InRow leaves
  tree_leaves_lem zero edge t s = s
  tree_leaves_lem (suc h) edge t s = rows_leaves h (tree_leaves_lem h) edge t.1 s.2

  -- a leaf has a byte or more, and a payload or less
  leaf_bounds : (edge : Bool) (l : ℕ × List ℕ) → ShapedTree e zero false edge l → (1 ≤ length l.1) × (length l.1 ≤ e.leaf)
  unfolding ShapedTree least_count most_count pick
  leaf_bounds true l s = s
  leaf_bounds false l s = (omega arith, s.1)

  -- a leaf off the edge is full
  leaf_filled : (l : ℕ × List ℕ) → ShapedTree e zero false false l → length l.1 ≡ e.leaf
  unfolding ShapedTree least_count most_count pick
  leaf_filled l s = omega (arith, s.0, s.1)

  -- what row_at_lem says of a leaf of a row
  abbrev InPlace : Bool → List (ℕ × List ℕ) → ℕ → Type 0
  InPlace edge ls i =
      let l = get_or ls i (0, []) in
      (ShapedTree e zero false false l) ⊎ ((suc i ≡ length ls) × ShapedTree e zero false edge l)

  -- a row of leaves is filled
  row_filled : (edge : Bool) (ls : List (ℕ × List ℕ)) → 1 ≤ length ls → InRow (ShapedTree e zero false) edge ls → Filled e.leaf ls
  row_filled edge ls n r = record {
    some = n;
    full = λ i h. full i h (place i (omega arith));
    most = λ i h. (bounds i (place i h)).1;
    least = λ m i h. (bounds i (place i h)).0;
  }
    where
      place : (i : ℕ) → i < length ls → InPlace edge ls i
      place i h = row_at_lem (ShapedTree e zero false) edge ls i (0, []) r h

      full : (i : ℕ) → suc i < length ls → InPlace edge ls i → length (get_or ls i (0, [])).1 ≡ e.leaf
      full i h (inl a) = leaf_filled (get_or ls i (0, [])) a
      full i h (inr a) = absurd (omega (arith, a.0))

      bounds : (i : ℕ) → InPlace edge ls i → (1 ≤ length (get_or ls i (0, [])).1) × (length (get_or ls i (0, [])).1 ≤ e.leaf)
      bounds i (inl a) = leaf_bounds false (get_or ls i (0, [])) a
      bounds i (inr a) = leaf_bounds edge (get_or ls i (0, [])) a.1

  -- one leaf alone is filled
  one_filled : (l : ℕ × List ℕ) → length l.1 ≤ e.leaf → Filled e.leaf (l ∷ [])
  one_filled l h = record {
    some = omega arith;
    full = λ i k. absurd (omega arith);
    most = only;
    least = λ m. absurd (omega arith);
  }
    where
      only : (i : ℕ) → i < length (l ∷ []) → length (get_or (l ∷ []) i (0, [])).1 ≤ e.leaf
      only zero k = h
      only (suc i) k = absurd (omega arith)

  -- the leaves of a root's tree are filled
  root_filled : (h : ℕ) (t : Tree h) → ShapedTree e h true true t → Filled e.leaf (leaves h t)
  unfolding ShapedTree leaves least_count most_count pick
  root_filled zero t s = one_filled t s.1
  root_filled (suc h) t s =
      row_filled true (joined (map (leaves h) t.1)) (row_leaf h true t.1 s.2 (omega (arith, s.0)))
      (rows_leaves h (tree_leaves_lem h) true t.1 s.2)

  -- the leaves of a blob are filled
  pub shaped_filled : (b : Blob) → Shaped e b → Filled e.leaf (leaves_of b)
  unfolding Shaped leaves_of
  shaped_filled b s = root_filled b.height b.tree s

-- leaves all full but the last
module _ (k : ℕ) where
  -- what is left of their bytes from leaf i on
  drop_leaves : (ls : List (ℕ × List ℕ)) → ((i : ℕ) → suc i < length ls → length (get_or ls i (0, [])).1 ≡ k) → (i : ℕ) → i < length ls
      → drop (k * i) (bytes_of ls) ≡ (get_or ls i (0, [])).1 ++ bytes_of (drop (suc i) ls)
  unfolding bytes_of joined
  drop_leaves [] full i h = absurd (omega arith)
  drop_leaves (l ∷ ls) full zero h = rw mul-zero
  drop_leaves (l ∷ ls) full (suc i) h =
      let n : k * suc i ≡ length l.1 + k * i = omega (arith, full 0 (omega arith), mul-suc k i) in
      rw n (drop-append-add l.1 (bytes_of ls) (k * i) ∙ drop_leaves ls (λ j m. full (suc j) (omega arith)) i (omega arith))

  -- how many bytes they have, by the last one's place
  filled_length : (ls : List (ℕ × List ℕ)) → ((i : ℕ) → suc i < length ls → length (get_or ls i (0, [])).1 ≡ k) → (j : ℕ) → suc j ≡ length ls
      → length (bytes_of ls) ≡ k * j + length (get_or ls j (0, [])).1
  unfolding bytes_of joined
  filled_length [] full j h = absurd (omega arith)
  filled_length (l ∷ []) full zero h = rw append-nil (omega arith)
  filled_length (l ∷ (m ∷ ls)) full zero h = absurd (omega arith)
  filled_length (l ∷ ls) full (suc j) h =
      omega (
        arith,
        length-append l.1 (bytes_of ls),
        full 0 (omega arith),
        filled_length ls (λ i m. full (suc i) (omega arith)) j (omega arith),
      )

-- a shaped blob
module _ (e : Edition) (some : 1 ≤ e.leaf) (two : 2 ≤ e.fan) (b : Blob) (shaped : Shaped e b) where
  -- a leaf that is not the last is full
  pub leaf_full : (i : ℕ) → suc i < length (leaves_of b) → length (get_or (leaves_of b) i (0, [])).1 ≡ e.leaf
  leaf_full = (shaped_filled e some two b shaped).full

  -- a leaf holds a payload or less
  pub leaf_most : (i : ℕ) → i < length (leaves_of b) → length (get_or (leaves_of b) i (0, [])).1 ≤ e.leaf
  leaf_most = (shaped_filled e some two b shaped).most

  -- a blob has a leaf
  pub leaf_some : 1 ≤ length (leaves_of b)
  leaf_some = (shaped_filled e some two b shaped).some

  -- a blob's length, by its last leaf
  pub length_by_last : (j : ℕ) → suc j ≡ length (leaves_of b) → length_of b ≡ e.leaf * j + length (get_or (leaves_of b) j (0, [])).1
  unfolding length_of
  length_by_last j h = ap length (blob_content b) ∙ filled_length e.leaf (leaves_of b) leaf_full j h

  -- the same, by how many leaves there are
  pub length_by_leaves : length_of b + e.leaf
      ≡ e.leaf * length (leaves_of b) + length (get_or (leaves_of b) (length (leaves_of b) - 1) (0, [])).1
  length_by_leaves =
      let j = length (leaves_of b) - 1 in
      let h : suc j ≡ length (leaves_of b) = omega (arith, leaf_some) in
      omega (arith, length_by_last j h, mul-suc e.leaf j, ap (λ (n : ℕ). e.leaf * n) h)

  -- a stretch of a leaf's bytes is a stretch of the content
  pub stretch_at : (i within m : ℕ) → i < length (leaves_of b) → within + m ≤ length (get_or (leaves_of b) i (0, [])).1
      → part (e.leaf * i + within) m (content_of b) ≡ part within m (get_or (leaves_of b) i (0, [])).1
  unfolding part
  stretch_at i within m h fits =
      let d = (get_or (leaves_of b) i (0, [])).1 in
      let rest = bytes_of (drop (suc i) (leaves_of b)) in
      let q : drop (e.leaf * i) (content_of b) ≡ d ++ rest =
      ap (drop (e.leaf * i)) (blob_content b) ∙ drop_leaves e.leaf (leaves_of b) leaf_full i h in
      let n : m ≤ length (drop within d) = rw length-drop (omega arith) in
      ap (take m) (sym (drop-drop within (e.leaf * i) (content_of b)) ∙ ap (drop within) q ∙ drop-append-le within d rest (omega arith))
      ∙ take-append-le m (drop within d) rest n

  -- a leaf's bytes are the part of the content at its place
  pub leaf_at_lem : (i : ℕ) → i < length (leaves_of b)
      → part (e.leaf * i) (length (get_or (leaves_of b) i (0, [])).1) (content_of b) ≡ (get_or (leaves_of b) i (0, [])).1
  leaf_at_lem i h =
      let d = (get_or (leaves_of b) i (0, [])).1 in
      ap (λ (n : ℕ). part n (length d) (content_of b)) (sym (add-zero (e.leaf * i))) ∙ stretch_at i 0 (length d) h (omega arith) ∙ part_whole d

  -- a position is in one of the leaves
  pub place_leaf : (p : ℕ) → p < length_of b → p / e.leaf < length (leaves_of b)
  place_leaf p h =
      let j = length (leaves_of b) - 1 in
      let n : suc j ≡ length (leaves_of b) = omega (arith, leaf_some) in
      let all : length_of b ≤ e.leaf * length (leaves_of b) = omega (arith, length_by_leaves, leaf_most j (omega arith)) in
      (div-lt_iff_lt-mul {k = e.leaf} {x = p} {y = length (leaves_of b)} some).1 (omega (arith, mul_comm e.leaf (length (leaves_of b))))

  -- a stretch that stays within one payload and within the blob lies in the leaf's bytes
  pub stretch_inside : (p m : ℕ) → p < length_of b → p % e.leaf + m ≤ e.leaf → p + m ≤ length_of b
      → p % e.leaf + m ≤ length (get_or (leaves_of b) (p / e.leaf) (0, [])).1
  stretch_inside p m h fits ends =
      let i = p / e.leaf in
      let here = place_leaf p h in
      by_test (ltb (suc i) (length (leaves_of b)))
      (λ t. omega (arith, leaf_full i (ltb-true (suc i) (length (leaves_of b)) t)))
      (λ t. omega (arith, length_by_last i (omega (arith, ltb-false (suc i) (length (leaves_of b)) t)), div-add-mod p e.leaf))

  -- such a stretch of the content is one of the leaf's bytes
  pub stretch_read : (p m : ℕ) → p < length_of b → p % e.leaf + m ≤ e.leaf → p + m ≤ length_of b
      → part p m (content_of b) ≡ part (p % e.leaf) m (get_or (leaves_of b) (p / e.leaf) (0, [])).1
  stretch_read p m h fits ends =
      ap (λ (n : ℕ). part n m (content_of b)) (sym (div-add-mod p e.leaf))
      ∙ stretch_at (p / e.leaf) (p % e.leaf) m (place_leaf p h) (stretch_inside p m h fits ends)

-- what a stretch of the content within one leaf is: a stretch of the block in that leaf's slot
pub record Read (e : Edition) (N : ℕ) (P : List ℕ) (b : Blob) (p m s : ℕ) : Type 0 where
  pub leaf : p / e.leaf < length (leaf_slots b)
  pub within : s < N
  pub room : 16 + (p % e.leaf + m) ≤ length (block e P s)
  pub bytes : part (16 + p % e.leaf) m (block e P s) ≡ part p m (content_of b)

-- so it is of every blob that a walk found, in the pool that it went through
pub read_stretch : (e : Edition) → Proper e → (N : ℕ) (P R : List ℕ) → length P ≡ e.size * N
    → (seen : List ℕ) (r : ℕ) {b : Blob} {seen' : List ℕ} → from_root e N P R seen r ≡ fine b seen' → r < N
    → (p m s : ℕ) → p < length_of b → p % e.leaf + m ≤ e.leaf → p + m ≤ length_of b → s ≡ get_or (leaf_slots b) (p / e.leaf) 0 → Read e N P b p m s
unfolding data_of
read_stretch e pr N P R whole seen r {b} found within p m s h fits ends at =
    let shaped = walk_shaped e pr N P R whole seen r found within in
    let i = p / e.leaf in
    let n : i < length (leaf_slots b) = rw leaf_slots_length (place_leaf e pr.some pr.two b shaped p h) in
    let (lb, d) = walk_leaf_at e pr N P R whole seen r found within i n in
    let inside = stretch_inside e pr.some pr.two b shaped p m h fits ends in
    let same : part p m (content_of b) ≡ part (p % e.leaf) m (data_of (block e P s)) =
    stretch_read e pr.some pr.two b shaped p m h fits ends
    ∙ ap (part (p % e.leaf) m) (d ∙ ap (λ (z : ℕ). data_of (block e P z)) (sym at)) in
    let short : p % e.leaf + m ≤ count_of (block e P s) = rw at (omega (arith, lb.count, ap length d)) in
    let room : 16 + count_of (block e P s) ≤ length (block e P s) = rw at lb.room in
    record {
      leaf = n;
      within = rw at lb.within;
      room = omega arith;
      bytes = sym (same ∙ part_part 16 (count_of (block e P s)) (p % e.leaf) m (block e P s) short room);
    }
