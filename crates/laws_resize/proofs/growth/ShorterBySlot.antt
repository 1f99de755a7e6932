-- Shorter, slot by slot. The cut tree follows the rule `cut`; then the root comes down the left edge to the height of the new length: it holds
-- what the
-- block there holds, cut, and the blocks of the left edge from that height on are gone.
use mathlib.Core.Path.{◌≡◌, refl, sym, ap, ap₂, ◌∙◌}
use mathlib.Core.Bool.{Bool, true, false}
use mathlib.Core.List.{List, [], ◌∷◌, ◌++◌, map, append-nil}
use Prim.Native.Nat.{ℕ, zero, suc, ◌+◌, ◌-◌, ◌*◌, ◌^◌, ◌≤◌, ◌<◌, min}
use native.Mathlib.Nat.{mul-suc, mul-zero, mul-le-mul_left, add-zero, pow-suc, one-le-pow, sub-zero, min-eq_right}
use native.Mathlib.Omega.{arith}
use lib.Dec.{leb, ltb, eqb}
use lib.ListN.{length, get_or, take, drop, length-take, length-drop, length-map, replicate, get_or-append}
use lib.Seq.{take-append-le}
use borrow.Author.Tests.{leb-true, leb-false, ltb-true, ltb-false, le-leb, lt-leb, eq-eqb, ne_eqb}
use Rattle.meaning.specs.declared.Edition.{Edition}
use Rattle.meaning.specs.Lists.{pick, both, part, padded, joined, map_last, only}
use Rattle.meaning.specs.Edition.{Proper}
use Rattle.meaning.specs.Bytes.{Cell}
use Rattle.meaning.specs.Tree.{Tree, Blob, slot_of, at_slot, leaves, cells, root_of}
use Rattle.meaning.specs.Tree.{content_of, leaves_of, cells_of, slots_of, length_of, nothing, just, held}
use Rattle.meaning.specs.Shape.{up, leaves_for, height_for, most_count, InRow, ShapedTree, Shaped}
use Rattle.meaning.specs.Resize.{last_leaf, share, last_bytes, keep_row, keep, lower, shorter}
use Rattle.laws.proofs.Inversions.{by_test, both_false}
use Rattle.laws.proofs.Totals.{up_gt, leaves_some, leaves_mono, leaves_fit}
use Rattle.laws.proofs.Heights.{height_least, height_is, height_small}
use Rattle.laws.proofs.Shapes.{OfRow, row_counted, shaped_leaves}
use Rattle.laws.proofs.Positions.{leaf_full, length_by_last, stretch_at}
use Rattle.laws_resize.proofs.resizing.Last.{last_slot}
use Rattle.laws_resize.proofs.resizing.Keeping.{keep_slot}
use Rattle.laws_resize.specs.growth.Room.{count}
use Rattle.laws_resize.specs.growth.Sites.{Site, counting, sites, sites_of, sited, entry, ruled, held_by, Once}
use Rattle.laws_resize.specs.growth.Cuts.{cut_row, gone, cut, height_of_length, replaced, shortened, of_first, leftmost}
use Rattle.laws_resize.proofs.growth.Sites.{ruled_append, held_ruled, site_slots}
use Rattle.laws_resize.proofs.growth.Cut.{row_count, keep_first, stay, full_count, last_data, cut_row_lem, cut_tree}

-- two or more are not one
only_many : {A B : Type 0} (f : A → B) (b : B) (l : List A) → 2 ≤ length l → only f b l ≡ b
unfolding only
only_many f b [] many = refl
only_many f b (x ∷ []) many = absurd (omega arith)
only_many f b (x ∷ (y ∷ ys)) many = refl

module _ (e : Edition) (some : 1 ≤ e.leaf) (two : 2 ≤ e.fan) (len : ℕ) where
  -- what the rule `cut` makes nothing of, `shortened` makes nothing of
  gone_row : (h : ℕ) → ((i : ℕ) (t : Tree h) → stay e some two len ≤ i → ruled (shortened e len) (sites h i t) ≡ []) → (i : ℕ) (ts : List (Tree h))
      → stay e some two len ≤ i → ruled (shortened e len) (counting (count h) (sites h) i ts) ≡ []
  unfolding counting ruled
  gone_row h each i [] late = refl
  gone_row h each i (t ∷ ts) late =
      ruled_append (shortened e len) (sites h i t) _ ∙ ap₂ ◌++◌ (each i t late) (gone_row h each (i + count h t) ts (omega arith))

  -- nothing either way
  pick_none : (b : Bool) → pick b nothing nothing ≡ nothing
  unfolding pick
  pick_none true = refl
  pick_none false = refl

  -- and of a tree
  gone_tree : (h i : ℕ) (t : Tree h) → stay e some two len ≤ i → ruled (shortened e len) (sites h i t) ≡ []
  unfolding sites ruled entry shortened cut gone pick
  gone_tree zero i t late = rw (le-leb (stay e some two len) i late, pick_none (replaced e len (record { height = 0; first = i; items = t.1 })))
  gone_tree (suc h) i t late =
      rw (le-leb (stay e some two len) i late, pick_none (replaced e len (record { height = suc h; first = i; items = map (slot_of h) t.1 })))
      (gone_row h (gone_tree h) i t.1 late)

  -- blocks lower than the new root follow the rule `cut`:
  -- of a row
  low_row : (h : ℕ) → ((i : ℕ) (t : Tree h) → h < height_of_length e len → ruled (shortened e len) (sites h i t) ≡ ruled (cut e len) (sites h i t))
      → (i : ℕ) (ts : List (Tree h)) → h < height_of_length e len
      → ruled (shortened e len) (counting (count h) (sites h) i ts) ≡ ruled (cut e len) (counting (count h) (sites h) i ts)
  unfolding counting ruled
  low_row h each i [] low = refl
  low_row h each i (t ∷ ts) low =
      ruled_append (shortened e len) (sites h i t) _ ∙ ap₂ ◌++◌ (each i t low) (low_row h each (i + count h t) ts low)
      ∙ sym (ruled_append (cut e len) (sites h i t) _)

  -- of one block
  low_one : (x : Site) → x.height < height_of_length e len → shortened e len x ≡ cut e len x
  unfolding shortened replaced pick
  low_one x low = rw (lt-leb (height_of_length e len) x.height low, both_false (eqb x.first 0))

  -- of a tree
  low_tree : (h i : ℕ) (t : Tree h) → h < height_of_length e len → ruled (shortened e len) (sites h i t) ≡ ruled (cut e len) (sites h i t)
  unfolding sites ruled
  low_tree zero i t low = rw (low_one (record { height = 0; first = i; items = t.1 }) low)
  low_tree (suc h) i t low =
      rw (low_one (record { height = suc h; first = i; items = map (slot_of h) t.1 }) low, low_row h (low_tree h) i t.1 (omega arith))

  -- a tree's own site on the left edge, where the root comes down past it
  top_gone : (h : ℕ) (t : Tree h) → height_of_length e len ≤ h → ruled (shortened e len) (sites h 0 t) ≡ ruled (shortened e len) (drop 1 (sites h 0 t))
  unfolding sites ruled entry shortened replaced both pick
  top_gone zero t low = rw (le-leb (height_of_length e len) 0 low)
  top_gone (suc h) t low = rw (le-leb (height_of_length e len) (suc h) low)

  -- the new root is no higher than any tree that has room
  height_low : (h : ℕ) → stay e some two len ≤ e.fan ^ h → height_of_length e len ≤ h
  unfolding height_of_length
  height_low h fits = height_least e.fan (stay e some two len) h two fits

  -- and as high as a tree that has room where one lower has not
  height_here : (h : ℕ) → e.fan ^ h < stay e some two len → stay e some two len ≤ e.fan ^ suc h → height_of_length e len ≡ suc h
  unfolding height_of_length
  height_here h high fits = height_is e.fan (stay e some two len) h two high fits

  -- the cut tree, with the root come down
  abbrev down : (h : ℕ) → List ℕ → (s : ℕ) → Tree h → List (ℕ × Cell)
  down h d s t = cells_of (lower h (at_slot h s (last_leaf h d (keep h (stay e some two len) t))))

  -- what the root holds then
  abbrev low_cell : (h : ℕ) → Tree h → Cell
  low_cell h t =
      record { height = height_of_length e len; items = cut_row e len (height_of_length e len) 0 (leftmost h (h - height_of_length e len) t).1 }

  -- its blocks: the root, and the others by the rule
  abbrev Down : ℕ → Type 0
  Down h = (root edge : Bool) (t : Tree h) → ShapedTree e h root edge t → stay e some two len ≤ count h t → (d : List ℕ)
      → d ≡ last_data e some two len h 0 (leaves h t) → (s : ℕ) → down h d s t ≡ (s, low_cell h t) ∷ ruled (shortened e len) (drop 1 (sites h 0 t))

  -- one child: the root takes over what it has
  down_one : (h : ℕ) → Down h → (edge : Bool) (r : ℕ) (x : Tree h) (xs : List (Tree h)) → ShapedTree e h false edge x
      → stay e some two len ≤ count h x → stay e some two len ≤ e.fan ^ h → (d : List ℕ)
      → d ≡ last_data e some two len h 0 (leaves h x) → (s : ℕ)
      → down (suc h) d s (r, x ∷ xs) ≡ (s, low_cell (suc h) (r, x ∷ xs)) ∷ ruled (shortened e len) (drop 1 (sites (suc h) 0 (r, x ∷ xs)))
  unfolding lower keep last_leaf at_slot map_last only sites counting leftmost of_first
  down_one h each edge r x xs sh few low d q s =
      let n = stay e some two len in
      let k = keep_first (count h) (keep h) n x xs (leaves_some e.leaf len some) few in
      let tall : height_of_length e len ≤ h = height_low h low in
      let m : suc h - height_of_length e len ≡ suc (h - height_of_length e len) = omega arith in
      rw (k, m) (each false edge x sh few d q s
      ∙ ap (◌∷◌ (s, low_cell h x)) (sym (ruled_append (shortened e len) (sites h 0 x) _
      ∙ ap (◌++◌ (ruled (shortened e len) (sites h 0 x))) (gone_row h (gone_tree h) (0 + count h x) xs (omega arith)) ∙ append-nil _
      ∙ top_gone h x tall)))

  -- so with the first of any row
  down_first : (h : ℕ) → Down h → (edge : Bool) (r : ℕ) (xs : List (Tree h)) → InRow (ShapedTree e h false) edge xs
      → stay e some two len ≤ row_count h xs
      → stay e some two len ≤ e.fan ^ h → (d : List ℕ) → d ≡ last_data e some two len h 0 (joined (map (leaves h) xs)) → (s : ℕ)
      → down (suc h) d s (r, xs) ≡ (s, low_cell (suc h) (r, xs)) ∷ ruled (shortened e len) (drop 1 (sites (suc h) 0 (r, xs)))
  unfolding InRow joined
  down_first h each edge r [] sh few low d q s = absurd (omega (arith, leaves_some e.leaf len some))
  down_first h each edge r (x ∷ []) sh few low d q s =
      down_one h each edge r x [] sh (rw append-nil at few) low d (rw append-nil at q) s
  down_first h each edge r (x ∷ (y ∷ ys)) sh few low d q s =
      let c = full_count e some two h x sh.0 in
      let n = leaves_some e.leaf len some in
      let g = get_or-append (leaves h x) (joined (map (leaves h) (y ∷ ys))) (0, []) (stay e some two len - 1 - 0) (omega arith) in
      down_one h each false r x (y ∷ ys) sh.0 (omega arith) low d
      (q ∙ ap (λ (l : ℕ × List ℕ). take (len - e.leaf * (stay e some two len - 1)) l.1) g) s

  -- a leaf is the root already
  down_leaf : Down zero
  unfolding lower keep last_leaf at_slot cells_of cells sites leaves leftmost cut_row ruled height_of_length
  down_leaf root edge t sh few d q s =
      let n = leaves_some e.leaf len some in
      let one : stay e some two len ≡ 1 = omega arith in
      let flat : height_for e.fan (leaves_for e.leaf len) ≡ 0 = height_small e.fan (stay e some two len) two few in
      let what : d ≡ take (len - e.leaf * 0) t.1 = rw one at q in
      rw flat (ap (λ (a : List ℕ). (s, record { height = 0; items = a }) ∷ []) what)

  -- two children or more: it is the root
  down_here : (h : ℕ) (root edge : Bool) (t : Tree (suc h)) → ShapedTree e (suc h) root edge t → stay e some two len ≤ count (suc h) t
      → e.fan ^ h < stay e some two len → (d : List ℕ) → d ≡ last_data e some two len (suc h) 0 (leaves (suc h) t) → (s : ℕ)
      → down (suc h) d s t ≡ (s, low_cell (suc h) t) ∷ ruled (shortened e len) (drop 1 (sites (suc h) 0 t))
  unfolding ShapedTree lower keep last_leaf at_slot cells_of cells sites leaves leftmost cut_row OfRow most_count
  down_here h root edge t sh few high d q s =
      let n = stay e some two len in
      let c = row_counted e some two h edge t.1 sh.2 in
      let p = pow-suc e.fan h in
      let tall : height_of_length e len ≡ suc h = height_here h high (omega (arith, c.high, mul-le-mul_left (e.fan ^ h) sh.1)) in
      let z : suc h - suc h ≡ 0 = omega arith in
      let r = cut_row_lem e some two len h (cut_tree e some two len h) 0 edge t.1 sh.2 (omega arith) (omega arith) d q in
      let w : n - 0 ≡ n = sub-zero n in
      let row : List (Tree h) = map_last (last_leaf h d) (keep_row (count h) (keep h) n t.1) in
      let slots : map (slot_of h) row ≡ take (up n (e.fan ^ h)) (map (slot_of h) t.1) = rw w at r.slots in
      let below : joined (map (cells h) row) ≡ ruled (cut e len) (counting (count h) (sites h) 0 t.1) = rw w at r.cells in
      let least_count : 2 ≤ length t.1 = many (length t.1) (omega (arith, c.high)) in
      let shares = up_gt n (e.fan ^ h) 1 (one-le-pow h e.fan (omega arith)) (omega arith) in
      let wide : 2 ≤ length row = omega (
        arith,
        length-map row (slot_of h),
        ap length slots,
        length-take (up n (e.fan ^ h)) (map (slot_of h) t.1),
        length-map t.1 (slot_of h),
      ) in
      rw (only_many (λ x. lower h (at_slot h s x)) (record { height = suc h; tree = (s, row) }) row wide, tall, z, w)
      (ap₂ (λ (a : List ℕ) (b : List (ℕ × Cell)). (s, record { height = suc h; items = a }) ∷ b) slots
      (below ∙ sym (low_row h (low_tree h) 0 t.1 (omega arith))))
    where
      many : (c : ℕ) → e.fan ^ h < e.fan ^ h * c → 2 ≤ c
      many zero l = absurd (omega (arith, mul-zero (e.fan ^ h)))
      many (suc zero) l = absurd (omega arith)
      many (suc (suc c)) l = omega arith

  -- the root comes down to where it has two children, or is a leaf
  pub lowered : (h : ℕ) → Down h
  unfolding ShapedTree leaves
  lowered zero root edge t sh few d q s = down_leaf root edge t sh few d q s
  lowered (suc h) root edge t sh few d q s =
      by_test (leb (stay e some two len) (e.fan ^ h))
      (λ b. down_first h (lowered h) edge t.0 t.1 sh.2 few (leb-true _ _ b) d q s)
      (λ b. down_here h root edge t sh few (leb-false _ _ b) d q s)

-- a block in its own slot
at_own : (h : ℕ) (t u : Tree h) → slot_of h u ≡ slot_of h t → at_slot h (slot_of h t) u ≡ u
unfolding at_slot slot_of
at_own zero t u q = ap (λ (s : ℕ). (s, u.1)) (sym q)
at_own (suc h) t u q = ap (λ (s : ℕ). (s, u.1)) (sym q)

-- a tree's first site is its own
first_site : (h i : ℕ) (t : Tree h) (s : ℕ) → (slot_of h t ≡ s → ⊥) → sited (sites h i t) s ≡ sited (drop 1 (sites h i t)) s
unfolding sites sited slot_of pick
first_site zero i t s other = rw (ne_eqb t.0 s other)
first_site (suc h) i t s other = rw (ne_eqb t.0 s other)

-- no slot twice, from the second on
once_rest : (xs : List (ℕ × Site)) → Once (map (λ x. x.0) xs) → Once (map (λ x. x.0) (drop 1 xs))
once_rest [] o = tt
once_rest (x ∷ xs) o = o.1

-- shorter: a shaped blob, cut to len bytes or left as long as it is
module _ (e : Edition) (p : Proper e) (b : Blob) (shaped : Shaped e b) (len : ℕ) (short : len ≤ length_of b) where
  -- the leaves that stay are among the leaves
  few_leaves : leaves_for e.leaf len ≤ length (leaves_of b)
  few_leaves = rw (shaped_leaves e p.some p.two b shaped) (leaves_mono e.leaf len (length_of b) p.some short)

  -- the last leaf that stays holds the first bytes of what it held
  last_cut : last_bytes e len (leaves_for e.leaf len) (content_of b) ≡ last_data e p.some p.two len b.height 0 (leaves_of b)
  unfolding last_bytes padded share part length_of
  last_cut =
      let n = leaves_for e.leaf len in
      let i = n - 1 in
      let a = len - e.leaf * i in
      let d = (get_or (leaves_of b) i (0, [])).1 in
      let low = leaves_some e.leaf len p.some in
      let next : suc i ≡ n = omega arith in
      let small : a ≤ e.leaf = omega (arith, leaves_fit e.leaf len p.some, mul-suc e.leaf i, ap (λ (m : ℕ). e.leaf * m) next) in
      let inside : a ≤ length d =
      by_test (ltb (suc i) (length (leaves_of b)))
      (λ t. omega (arith, leaf_full e p.some p.two b shaped i (ltb-true (suc i) (length (leaves_of b)) t)))
      (λ t.
      let last : length (leaves_of b) ≤ suc i = ltb-false (suc i) (length (leaves_of b)) t in
      omega (arith, length_by_last e p.some p.two b shaped i (omega (arith, few_leaves)))) in
      let long : a ≤ length (drop (e.leaf * i) (content_of b)) = rw length-drop (omega arith) in
      let m : min e.leaf a ≡ a = min-eq_right small in
      let z : n - 1 - 0 ≡ i = sub-zero i in
      rw (m, z) (take-append-le a (drop (e.leaf * i) (content_of b)) (replicate a 0) long
      ∙ (rw add-zero at (stretch_at e p.some p.two b shaped i 0 a (omega (arith, few_leaves)) (omega arith))))

  -- what the root holds: what the left edge's block of the new height held, cut
  abbrev pub root_cut : Cell
  root_cut = record {
    height = height_of_length e len;
    items = cut_row e len (height_of_length e len) 0 (leftmost b.height (b.height - height_of_length e len) b.tree).1;
  }

  -- all blocks after
  pub shorter_cells : cells_of (shorter e len b) ≡ (root_of b, root_cut) ∷ ruled (shortened e len) (drop 1 (sites_of b))
  unfolding Shaped shorter root_of sites_of leaves_of
  shorter_cells =
      let t = b.tree in
      let d = last_bytes e len (leaves_for e.leaf len) (content_of b) in
      let k = last_leaf b.height d (keep b.height (leaves_for e.leaf len) t) in
      ap (λ (u : Tree b.height). cells_of (lower b.height u))
      (sym (at_own b.height t k (last_slot b.height d _ ∙ keep_slot b.height (leaves_for e.leaf len) t)))
      ∙ lowered e p.some p.two len b.height true true t shaped few_leaves d last_cut (slot_of b.height t)

  -- the root takes over the height and row of the left edge's block that is as high as the new length wants
  pub shorter_root_lem : held (cells_of (shorter e len b)) (root_of b) ≡ just root_cut
  unfolding held pick
  shorter_root_lem = rw (shorter_cells, eq-eqb (root_of b) (root_of b) refl)

  -- every other block is kept, cut or gone, by where it stood; and no slot is taken
  pub shorter_held_lem : Once (slots_of b) → (s : ℕ) → (root_of b ≡ s → ⊥)
      → held (cells_of (shorter e len b)) s ≡ held_by (shortened e len) (sited (sites_of b) s)
  unfolding held pick root_of sites_of
  shorter_held_lem once s other =
      rw (shorter_cells, ne_eqb (root_of b) s other, first_site b.height 0 b.tree s other)
      (held_ruled (shortened e len) (drop 1 (sites_of b)) s (once_rest (sites_of b) (rw (site_slots b) once)))
