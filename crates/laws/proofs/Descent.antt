-- For a blob that passed the blob check the descent by position finds the leaves that its tree has: the quotients and remainders by the fan-out lead,
-- block by block, where the walk went, since every tree off the right edge is full.
use mathlib.Core.Path.{◌≡◌, refl, ap, ◌∙◌, sym, subst}
use mathlib.Core.Bool.{Bool, true, false}
use mathlib.Core.List.{List, [], ◌∷◌, ◌++◌, map}
use Prim.Native.Nat.{ℕ, zero, suc, ◌+◌, ◌-◌, ◌*◌, ◌/◌, ◌%◌, ◌^◌, ◌≤◌, ◌<◌, min}
use native.Mathlib.Nat.{zero-add, suc-add, mul_comm, mul-one}
use native.Mathlib.Nat.{div-eq_of_lt, mod-eq_of_lt, div-one, div-lt_iff_lt-mul, pow-zero, pow-succ', one-le-pow}
use native.Mathlib.Omega.{arith}
use borrow.Author.Tests.{ltb-true, ltb-false, lt-ltb, le-ltb}
use lib.Dec.{ltb}
use lib.ListN.{length, get_or, drop, set, length-append, get_or-append, get_or-map}
use lib.Seq.{drop-drop}
use Rattle.meaning.specs.declared.Edition.{Edition}
use Rattle.meaning.specs.declared.Role.{Role}
use Rattle.meaning.specs.declared.Role.TheVariants.{Root, Child}
use Rattle.meaning.specs.Lists.{pick, both, part, joined, number, fours}
use Rattle.meaning.specs.Edition.{Proper}
use Rattle.meaning.specs.Bytes.{block, height_of, count_of, children_of}
use Rattle.meaning.specs.Tree.{Tree, Blob, leaves, leaves_of}
use Rattle.meaning.specs.Shape.{most_count}
use Rattle.meaning.specs.Walk.{is_root, fine, is_empty, visit_row, visit, from_root}
use Rattle.meaning.specs.Calls.{slots_in}
use Rattle.meaning.specs.Head.{block_at, child_at, below, height_at}
use Rattle.laws.proofs.Digits.{by_both, rest_over, rest_rest, over_more, rest_more}
use Rattle.laws.proofs.Shapes.{OfTree, OfRow, tree_counted, row_counted}
use Rattle.laws.proofs.Codec.{items_of, item_count}
use Rattle.laws.proofs.Inversions.{never, by_test}
use Rattle.laws.proofs.Walked.{leaf_found, inner_found, none_found, row_found, root_found, slot_within, slots_in_lem, visit_shaped, row_shaped, block_room, leaf_slots}

-- the block of a slot, in the pool or not
module _ (e : Edition) (P : List ℕ) (s : ℕ) where
  pub block_there : s < slots_in e P → block_at e P s ≡ block e P s
  unfolding block_at pick
  block_there l = simp (lt-ltb s (slots_in e P) l)

  pub block_gone : slots_in e P ≤ s → block_at e P s ≡ []
  unfolding block_at pick
  block_gone l = simp (le-ltb s (slots_in e P) l)

-- the descent from the root's child on
module _ (e : Edition) (p : Proper e) (P : List ℕ) where
  power : (h : ℕ) → 1 ≤ e.fan ^ h
  power h = one-le-pow h e.fan (omega (arith, p.two))

  same_place : (h s a a' b b' c c' : ℕ) → a ≡ a' → b ≡ b' → c ≡ c'
      → child_at e P (below e P h (child_at e P s a) b) c ≡ child_at e P (below e P h (child_at e P s a') b') c'
  same_place h s a a' b b' c c' x y z = rw (x, y, z)

  descends : (h s i : ℕ) → i / e.fan ^ h < e.fan
      → below e P (suc h) s i ≡ below e P h (child_at e P s (i / e.fan ^ h)) (i % e.fan ^ h)
  unfolding below
  descends zero s i l =
      let z : i / e.fan ^ 0 ≡ i = rw pow-zero (div-one i) in
      let m : i % e.fan ≡ i = mod-eq_of_lt {n = i} {m = e.fan} (omega arith) in
      ap (child_at e P s) (m ∙ sym z)
  descends (suc h) s i l =
      let some : 1 ≤ e.fan = omega (arith, p.two) in
      let g : e.fan ^ suc h ≡ e.fan * e.fan ^ h = pow-succ' e.fan h in
      let c : i / e.fan ^ suc h ≡ i / e.fan / e.fan ^ h = rw g (by_both e.fan (e.fan ^ h) i some (power h)) in
      let o : i % e.fan ^ suc h / e.fan ≡ i / e.fan % e.fan ^ h = rw g (rest_over e.fan (e.fan ^ h) i some (power h)) in
      let r : i % e.fan ^ suc h % e.fan ≡ i % e.fan = rw g (rest_rest e.fan (e.fan ^ h) i some (power h)) in
      ap (λ (x : ℕ). child_at e P x (i % e.fan)) (descends h s (i / e.fan) (omega (arith, c)))
      ∙ same_place h s (i / e.fan / e.fan ^ h) (i / e.fan ^ suc h) (i / e.fan % e.fan ^ h) (i % e.fan ^ suc h / e.fan) (i % e.fan)
      (i % e.fan ^ suc h % e.fan) (sym c) (sym o) (sym r)

-- an element of two lists, past the first
get_d_past : {A : Type 0} (a b : List A) (j : ℕ) (x : A) → get_or (a ++ b) (length a + j) x ≡ get_or b j x
get_d_past [] b j x = rw zero-add
get_d_past (y ∷ a) b j x = rw suc-add (get_d_past a b j x)

-- a slot number, by its place
fours_at : (k : ℕ) (l : List ℕ) (c : ℕ) → c < k → get_or (fours k l) c 0 ≡ number (part (4 * c) 4 l)
unfolding fours part
fours_at zero l c h = absurd (omega arith)
fours_at (suc k) l zero h = refl
fours_at (suc k) l (suc c) h =
    let z : 4 * suc c ≡ 4 + 4 * c = omega arith in
    fours_at k (drop 4 l) c (omega arith) ∙ rw (z, drop-drop (4 * c) 4 l)

-- a pool of N blocks
module _ (e : Edition) (p : Proper e) (N : ℕ) (P : List ℕ) (pool : length P ≡ e.size * N) where
  pub block_here : (s : ℕ) → s < N → block_at e P s ≡ block e P s
  block_here s l = block_there e P s (rw (slots_in_lem e p N P pool) l)

  child_here : (s c : ℕ) → s < N → c < count_of (block e P s) → child_at e P s c ≡ get_or (children_of (block e P s)) c 0
  unfolding child_at children_of part
  child_here s c l h =
      rw (block_here s l) (sym (fours_at (count_of (block e P s)) (drop 16 (block e P s)) c h ∙ rw (drop-drop (4 * c) 16 (block e P s))))

module _ (e : Edition) (p : Proper e) (P : List ℕ) where
  -- the leaves of a tree and of those behind it in its row
  one_more : (h : ℕ) (t : Tree h) (ts : List (Tree h)) (c : ℕ) (cs : List ℕ) → length (leaves h t) ≤ e.fan ^ h
      → (1 ≤ length (joined (map (leaves h) ts)) → length (leaves h t) ≡ e.fan ^ h)
      → ((i : ℕ) → i < length (leaves h t) → below e P h c i ≡ (get_or (leaves h t) i (0, [])).0)
      → ((i : ℕ) → i < length (joined (map (leaves h) ts))
      → below e P h (get_or cs (i / e.fan ^ h) 0) (i % e.fan ^ h) ≡ (get_or (joined (map (leaves h) ts)) i (0, [])).0)
      → (i : ℕ) → i < length (leaves h t ++ joined (map (leaves h) ts))
      → below e P h (get_or (c ∷ cs) (i / e.fan ^ h) 0) (i % e.fan ^ h) ≡ (get_or (leaves h t ++ joined (map (leaves h) ts)) i (0, [])).0
  one_more h t ts c cs high full first others i l =
      let a = leaves h t in
      let b = joined (map (leaves h) ts) in
      let F = e.fan ^ h in
      by_test (ltb i (length a))
      (λ y.
      let k : i < length a = ltb-true i (length a) y in
      let d : i / F ≡ 0 = div-eq_of_lt {n = i} {m = F} (omega arith) in
      let m : i % F ≡ i = mod-eq_of_lt {n = i} {m = F} (omega arith) in
      rw (d, m, get_or-append a b (0, []) i k) (first i k))
      (λ y.
      let k : length a ≤ i = ltb-false i (length a) y in
      let j = i - length a in
      let n : j < length b = omega (arith, length-append a b) in
      let w : length a ≡ F = full (omega arith) in
      let z : i ≡ length a + j = omega arith in
      let d : i / F ≡ suc (j / F) = ap (λ (x : ℕ). x / F) (z ∙ ap (λ (x : ℕ). x + j) w) ∙ over_more F j (power e p P h) in
      let m : i % F ≡ j % F = ap (λ (x : ℕ). x % F) (z ∙ ap (λ (x : ℕ). x + j) w) ∙ rest_more F j (power e p P h) in
      let q : get_or (a ++ b) i (0, []) ≡ get_or b j (0, []) = ap (λ (x : ℕ). get_or (a ++ b) x (0, [])) z ∙ get_d_past a b j (0, []) in
      rw (d, m, q) (others j n))

module _ (e : Edition) (p : Proper e) (N : ℕ) (P R : List ℕ) (pool : length P ≡ e.size * N) where
  -- a tree with a leaf behind it is off the edge
  off_edge : (h q : ℕ) (edge : Bool) (cs mid : List ℕ) {ts : List (Tree h)} {seen' : List ℕ} → visit_row e N P R (visit e N P R h) q edge cs mid ≡ fine ts seen'
      → 1 ≤ length (joined (map (leaves h) ts)) → both edge (is_empty cs) ≡ false
  unfolding joined both is_empty
  off_edge h q edge [] mid v =
      let n = none_found e N P R h q edge mid v in
      rw (← n.0) (λ some. absurd (omega arith))
  off_edge h q true (c ∷ cs) mid v = λ some. refl
  off_edge h q false (c ∷ cs) mid v = λ some. refl

  -- a row that was visited
  rows_find : (h : ℕ)
      → ((q : ℕ) (edge : Bool) (seen : List ℕ) (s : ℕ) (t : Tree h) (seen' : List ℕ) → visit e N P R h (Child q) edge seen s ≡ fine t seen'
      → (i : ℕ) → i < length (leaves h t) → below e P h s i ≡ (get_or (leaves h t) i (0, [])).0)
      → (q : ℕ) (edge : Bool) (cs seen : List ℕ) {ts : List (Tree h)} {seen' : List ℕ} → visit_row e N P R (visit e N P R h) q edge cs seen ≡ fine ts seen'
      → (i : ℕ) → i < length (joined (map (leaves h) ts))
      → below e P h (get_or cs (i / e.fan ^ h) 0) (i % e.fan ^ h) ≡ (get_or (joined (map (leaves h) ts)) i (0, [])).0
  unfolding joined OfTree is_root
  rows_find h each q edge [] seen v =
      let n = none_found e N P R h q edge seen v in
      rw (← n.0) (λ i l. absurd (omega arith))
  rows_find h each q edge (c ∷ cs) seen v =
      let f = row_found e N P R h q edge c cs seen v in
      let others = rows_find h each q edge cs f.mid f.others in
      let shaped = visit_shaped e p N P R pool h (Child q) (both edge (is_empty cs)) seen c f.walked (λ z. never (sym z)) in
      let counted = tree_counted e p.some p.two h (both edge (is_empty cs)) f.first shaped in
      rw (← f.trees)
      (one_more e p P h f.first f.rest c cs (omega (arith, counted.high, mul-one (e.fan ^ h)))
      (λ some. omega (arith, (counted.full (off_edge h q edge cs f.mid f.others some)).0, mul-one (e.fan ^ h))) (each q (both edge (is_empty cs)) seen c f.first f.mid f.walked) others)

  visit_finds : (h : ℕ) (role : Role) (edge : Bool) (seen : List ℕ) (s : ℕ) {t : Tree h} {seen' : List ℕ}
      → visit e N P R h role edge seen s ≡ fine t seen' → (is_root role ≡ true → s < N)
      → (i : ℕ) → i < length (leaves h t) → below e P h s i ≡ (get_or (leaves h t) i (0, [])).0
  unfolding leaves below is_root items_of most_count OfRow
  visit_finds zero role edge seen s v root =
      let f = leaf_found e N P R role edge seen s v in
      subst (λ (t : Tree zero). (i : ℕ) → i < length (leaves zero t) → s ≡ (get_or (leaves zero t) i (0, [])).0) f.tree
      (λ i l. let z : i ≡ 0 = omega arith in rw z)
  visit_finds (suc h) role edge seen s v root =
      let f = inner_found e N P R h role edge seen s v in
      let within = slot_within N R seen role s f.link root in
      let cs = children_of (block e P s) in
      let shaped = row_shaped e p N P R pool h s edge cs (set seen s 1) f.walked in
      let counted = row_counted e p.some p.two h edge f.below shaped.1 in
      let n : length cs ≡ count_of (block e P s) = item_count (block e P s) (suc h) (block_room e p N P pool (suc h) s within f.sound.most) in
      let few : count_of (block e P s) ≤ e.fan = f.sound.most in
      let each = rows_find h (λ q edge seen c t seen' o. visit_finds h (Child q) edge seen c o (λ z. never (sym z))) s edge cs (set seen s 1) f.walked in
      subst (λ (t : Tree (suc h)). (i : ℕ) → i < length (leaves (suc h) t) → below e P (suc h) s i ≡ (get_or (leaves (suc h) t) i (0, [])).0) f.tree
      (λ i l.
      let d : i / e.fan ^ h < length f.below =
      (div-lt_iff_lt-mul {k = e.fan ^ h} {x = i} {y = length f.below} (power e p P h)).1 (omega (arith, counted.high, mul_comm (e.fan ^ h) (length f.below))) in
      descends e p P h s i (omega (arith, shaped.0))
      ∙ ap (λ (c : ℕ). below e P h c (i % e.fan ^ h)) (child_here e p N P pool s (i / e.fan ^ h) within (omega (arith, shaped.0))) ∙ each i l)

  -- a walk from a root that went well
  module _ (seen : List ℕ) (r : ℕ) {b : Blob} {seen' : List ℕ} (found : from_root e N P R seen r ≡ fine b seen') (within : r < N) where
    -- the root's height is the blob's
    pub walk_height : height_at e P r ≡ b.height
    unfolding height_at
    walk_height =
        let (t, o, q) = root_found e N P R seen r found in
        rw (block_here e p N P pool r within) (ap (λ (c : Blob). c.height) q)

    -- the descent finds its leaves
    pub walk_finds : (i : ℕ) → i < length (leaves_of b) → below e P b.height r i ≡ (get_or (leaves_of b) i (0, [])).0
    unfolding leaves_of
    walk_finds =
        let (t, o, q) = root_found e N P R seen r found in
        subst (λ (c : Blob). (i : ℕ) → i < length (leaves_of c) → below e P c.height r i ≡ (get_or (leaves_of c) i (0, [])).0) q
        (visit_finds (min (height_of (block e P r)) e.top) Root true seen r o (λ z. within))

    -- their slots
    pub walk_slots : (i : ℕ) → i < length (leaves_of b) → below e P b.height r i ≡ get_or (leaf_slots b) i 0
    unfolding leaf_slots
    walk_slots i l = walk_finds i l ∙ sym (get_or-map (λ (l : ℕ × List ℕ). l.0) (leaves_of b) i (0, []))
