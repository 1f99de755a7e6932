-- What a walk that went well found. Each block that it visited passed its checks, so its count lies in the range of its place: the tree
-- has the shape of a blob, and each of its leaves is what lies in the pool at the leaf's slot. The laws go block by block and row by row,
-- as the walk does. Of a child check 1 says that its slot is in the pool; of a root the caller says so.
use Rattle.std.specs.Prelude.{Ok}
use mathlib.Core.Path.{◌≡◌, refl, ap, ap₂, ◌∙◌, sym, subst}
use mathlib.Core.Logic.{⊎_elim}
use mathlib.Core.Bool.{Bool, true, false}
use mathlib.Core.List.Memᴰ
use mathlib.Core.List.{List, [], ◌∷◌, ◌++◌, map, Memᴰ}
use Prim.Native.Nat.{ℕ, zero, suc, ◌+◌, ◌*◌, ◌≤◌, ◌<◌, min}
use native.Mathlib.Nat.{mul-le-mul_left, mul-div_cancel_left}
use native.Mathlib.Omega.{arith}
use lib.ListN.{length, get_or, set, length-map, get_or-map}
use Rattle.meaning.specs.declared.Edition.{Edition}
use Rattle.meaning.specs.declared.Role.{Role}
use Rattle.meaning.specs.declared.Role.TheVariants.{Root, Child}
use Rattle.meaning.specs.Lists.{both, joined}
use Rattle.meaning.specs.Edition.{Proper}
use Rattle.meaning.specs.Bytes.{block, height_of, count_of, data_of, children_of, recorded}
use Rattle.meaning.specs.Tree.{Tree, Blob, leaves, leaves_of}
use Rattle.meaning.specs.Shape.{most_count, InRow, ShapedTree, Shaped}
use Rattle.meaning.specs.Walk.{used, is_root, link_check, Found, fine, is_empty, one_visit, visit_row, visit, from_root}
use Rattle.meaning.specs.Calls.{slots_in}
use Rattle.laws.proofs.Numbers.{part_length}
use Rattle.laws.proofs.Checks.{used_fits}
use Rattle.laws.proofs.Codec.{items_of, item_count}
use Rattle.laws.proofs.Inversions.{never, and_then_turned, and_then_joined, fine_same, Sound, passed_sound, passed_linked, fine_visited}

-- what a leaf's visit that went well found: its bytes
pub record LeafFound (e : Edition) (N : ℕ) (P R : List ℕ) (role : Role) (edge : Bool) (seen : List ℕ) (s : ℕ) (t : Tree zero)
    (seen' : List ℕ) : Type 0 where
  pub link : link_check N R seen role s ≡ Ok tt
  pub sound : Sound e zero (is_root role) edge (recorded R s) s (block e P s)
  pub tree : (s, data_of (block e P s)) ≡ t
  pub flags : set seen s 1 ≡ seen'

-- what an inner block's visit that went well found: a row of trees
pub record InnerFound (e : Edition) (N : ℕ) (P R : List ℕ) (h : ℕ) (role : Role) (edge : Bool) (seen : List ℕ) (s : ℕ) (t : Tree (suc h))
    (seen' : List ℕ) : Type 0 where
  pub link : link_check N R seen role s ≡ Ok tt
  pub sound : Sound e (suc h) (is_root role) edge (recorded R s) s (block e P s)
  pub below : List (Tree h)
  pub walked : visit_row e N P R (visit e N P R h) s edge (children_of (block e P s)) (set seen s 1) ≡ fine below seen'
  pub tree : (s, below) ≡ t

-- what a row's visit that went well found: its first child's tree, then the others'
pub record RowFound (e : Edition) (N : ℕ) (P R : List ℕ) (h p : ℕ) (edge : Bool) (c : ℕ) (cs seen : List ℕ) (ts : List (Tree h))
    (seen' : List ℕ) : Type 0 where
  pub first : Tree h
  pub mid : List ℕ
  pub rest : List (Tree h)
  pub walked : visit e N P R h (Child p) (both edge (is_empty cs)) seen c ≡ fine first mid
  pub others : visit_row e N P R (visit e N P R h) p edge cs mid ≡ fine rest seen'
  pub trees : first ∷ rest ≡ ts

module _ (e : Edition) (N : ℕ) (P R : List ℕ) where
  -- a visit of a leaf
  pub leaf_found : (role : Role) (edge : Bool) (seen : List ℕ) (s : ℕ) {t : Tree zero} {seen' : List ℕ}
      → visit e N P R zero role edge seen s ≡ fine t seen' → LeafFound e N P R role edge seen s t seen'
  unfolding visit
  leaf_found role edge seen s v =
      let (b, o, q) = and_then_turned (one_visit e N P R zero role edge seen s) (λ b. (s, data_of b)) v in
      let w = fine_visited e N P R zero role edge seen s o in
      record {
        link = w.link;
        sound = passed_sound e zero (is_root role) edge (recorded R s) s (block e P s) w.sound;
        tree = ap (λ (x : List ℕ). (s, data_of x)) (sym w.bytes) ∙ q;
        flags = sym w.flags;
      }

  -- a visit of an inner block
  pub inner_found : (h : ℕ) (role : Role) (edge : Bool) (seen : List ℕ) (s : ℕ) {t : Tree (suc h)} {seen' : List ℕ}
      → visit e N P R (suc h) role edge seen s ≡ fine t seen' → InnerFound e N P R h role edge seen s t seen'
  unfolding visit
  inner_found h role edge seen s v =
      let below : List ℕ → List ℕ → Found (List (Tree h)) = λ b mid. visit_row e N P R (visit e N P R h) s edge (children_of b) mid in
      let (b, mid, ts, o, r, q) = and_then_joined (one_visit e N P R (suc h) role edge seen s) below (λ b ts. (s, ts)) v in
      let w = fine_visited e N P R (suc h) role edge seen s o in
      record {
        link = w.link;
        sound = passed_sound e (suc h) (is_root role) edge (recorded R s) s (block e P s) w.sound;
        below = ts;
        walked = ap₂ below (sym w.bytes) (sym w.flags) ∙ r;
        tree = q;
      }

  -- a visit of no child
  pub none_found : (h p : ℕ) (edge : Bool) (seen : List ℕ) {ts : List (Tree h)} {seen' : List ℕ}
      → visit_row e N P R (visit e N P R h) p edge [] seen ≡ fine ts seen' → ([] ≡ ts) × (seen ≡ seen')
  unfolding visit_row
  none_found h p edge seen v = fine_same v

  -- a visit of a child and then of others
  pub row_found : (h p : ℕ) (edge : Bool) (c : ℕ) (cs seen : List ℕ) {ts : List (Tree h)} {seen' : List ℕ}
      → visit_row e N P R (visit e N P R h) p edge (c ∷ cs) seen ≡ fine ts seen' → RowFound e N P R h p edge c cs seen ts seen'
  unfolding visit_row
  row_found h p edge c cs seen v =
      let (t, mid, ts, o, r, q) = and_then_joined (visit e N P R h (Child p) (both edge (is_empty cs)) seen c)
      (λ t mid. visit_row e N P R (visit e N P R h) p edge cs mid) (λ t ts. t ∷ ts) v in
      record { first = t; mid = mid; rest = ts; walked = o; others = r; trees = q }

  -- the walk from a root
  pub root_found : (seen : List ℕ) (r : ℕ) {b : Blob} {seen' : List ℕ} → from_root e N P R seen r ≡ fine b seen'
      → (t : Tree (min (height_of (block e P r)) e.top)) × (visit e N P R (min (height_of (block e P r)) e.top) Root true seen r ≡ fine t seen')
      × (record { height = min (height_of (block e P r)) e.top; tree = t } ≡ b)
  unfolding from_root
  root_found seen r v =
      and_then_turned (visit e N P R (min (height_of (block e P r)) e.top) Root true seen r)
      (λ t. record { height = min (height_of (block e P r)) e.top; tree = t }) v

-- a slot that was visited is in the pool: a child's by check 1
pub slot_within : (N : ℕ) (R seen : List ℕ) (role : Role) (s : ℕ) → link_check N R seen role s ≡ Ok tt → (is_root role ≡ true → s < N) → s < N
unfolding is_root
slot_within N R seen Root s link root = root refl
slot_within N R seen (Child p) s link root = (passed_linked N R seen p s link).within

-- a tree in front of a row of trees
row_more : {A : Type 0} (on : Bool → A → Type 0) (edge : Bool) (cs : List ℕ) (t : A) (ts : List A) → length ts ≡ length cs
    → on (both edge (is_empty cs)) t → InRow on edge ts → InRow on edge (t ∷ ts)
unfolding InRow both is_empty
row_more on true [] t [] l a r = a
row_more on false [] t [] l a r = a
row_more on edge [] t (x ∷ ts) l a r = absurd (omega arith)
row_more on edge (c ∷ cs) t [] l a r = absurd (omega arith)
row_more on true (c ∷ cs) t (x ∷ ts) l a r = (a, r)
row_more on false (c ∷ cs) t (x ∷ ts) l a r = (a, r)

-- the leaves' slots, from the left
unfoldable pub leaf_slots : Blob → List ℕ
leaf_slots b = map (λ l. l.0) (leaves_of b)

-- they are as many as the leaves
pub leaf_slots_length : (b : Blob) → length (leaf_slots b) ≡ length (leaves_of b)
unfolding leaf_slots
leaf_slots_length b = length-map (leaves_of b) (λ l. l.0)

-- a leaf with its bytes, as they lie in the pool
abbrev pub leaf_in : Edition → List ℕ → ℕ → ℕ × List ℕ
leaf_in e P s = (s, data_of (block e P s))

-- what a leaf's slot that was visited holds: so many data bytes, within the payload and within the block
pub record LeafBlock (e : Edition) (N : ℕ) (P : List ℕ) (s : ℕ) : Type 0 where
  pub within : s < N
  pub count : count_of (block e P s) ≡ length (data_of (block e P s))
  pub most : length (data_of (block e P s)) ≤ e.leaf
  pub room : 16 + count_of (block e P s) ≤ length (block e P s)

-- a store's pool has as many slots as its length says
pub slots_in_lem : (e : Edition) → Proper e → (N : ℕ) (P : List ℕ) → length P ≡ e.size * N → slots_in e P ≡ N
unfolding slots_in
slots_in_lem e p N P whole =
    let some : 0 < e.size = omega (arith, p.fits) in
    rw whole (mul-div_cancel_left N some)

-- a pool of N blocks
module _ (e : Edition) (p : Proper e) (N : ℕ) (P : List ℕ) (whole : length P ≡ e.size * N) where
  -- a block of the pool is as long as a block is
  pub block_length : (s : ℕ) → s < N → length (block e P s) ≡ e.size
  unfolding block
  block_length s within = part_length (e.size * s) e.size P (omega (arith, whole, mul-le-mul_left e.size within))

  -- what a count within its range uses lies in the block
  pub block_room : (h s : ℕ) → s < N → count_of (block e P s) ≤ most_count e h → 16 + used h (count_of (block e P s)) ≤ length (block e P s)
  block_room h s within high = omega (arith, block_length s within, used_fits e p h (count_of (block e P s)) high, p.fits)

  -- a block that is sound has a row of as many elements as it counts
  row_length : (h : ℕ) (root edge : Bool) (v s : ℕ) → s < N → Sound e h root edge v s (block e P s)
      → length (items_of h (block e P s)) ≡ count_of (block e P s)
  row_length h root edge v s within f = item_count (block e P s) h (block_room h s within f.most)

module _ (e : Edition) (p : Proper e) (N : ℕ) (P R : List ℕ) (whole : length P ≡ e.size * N) where
  -- a row that was visited is a row of shaped trees, one for each child
  rows_shaped : (h : ℕ)
      → ((q : ℕ) (edge : Bool) (seen : List ℕ) (s : ℕ) (t : Tree h) (seen' : List ℕ) → visit e N P R h (Child q) edge seen s ≡ fine t seen'
      → ShapedTree e h false edge t)
      → (q : ℕ) (edge : Bool) (cs seen : List ℕ) {ts : List (Tree h)} {seen' : List ℕ}
      → visit_row e N P R (visit e N P R h) q edge cs seen ≡ fine ts seen' → (length ts ≡ length cs) × InRow (ShapedTree e h false) edge ts
  unfolding InRow
  rows_shaped h each q edge [] seen v =
      let n = none_found e N P R h q edge seen v in
      rw (← n.0) (refl, tt)
  rows_shaped h each q edge (c ∷ cs) seen v =
      let f = row_found e N P R h q edge c cs seen v in
      let one = each q (both edge (is_empty cs)) seen c f.first f.mid f.walked in
      let more = rows_shaped h each q edge cs f.mid f.others in
      rw (← f.trees) (ap suc more.0, row_more (ShapedTree e h false) edge cs f.first f.rest more.0 one more.1)

  -- a tree that was visited has its shape
  pub visit_shaped : (h : ℕ) (role : Role) (edge : Bool) (seen : List ℕ) (s : ℕ) {t : Tree h} {seen' : List ℕ}
      → visit e N P R h role edge seen s ≡ fine t seen' → (is_root role ≡ true → s < N) → ShapedTree e h (is_root role) edge t
  unfolding ShapedTree items_of is_root
  visit_shaped zero role edge seen s v root =
      let f = leaf_found e N P R role edge seen s v in
      let within = slot_within N R seen role s f.link root in
      let n = row_length e p N P whole zero (is_root role) edge (recorded R s) s within f.sound in
      rw (← f.tree) (omega (arith, f.sound.least), omega (arith, f.sound.most))
  visit_shaped (suc h) role edge seen s v root =
      let f = inner_found e N P R h role edge seen s v in
      let within = slot_within N R seen role s f.link root in
      let r = rows_shaped h (λ q edge seen c t seen' o. visit_shaped h (Child q) edge seen c o (λ z. never (sym z))) s edge
      (children_of (block e P s)) (set seen s 1) f.walked in
      let n = row_length e p N P whole (suc h) (is_root role) edge (recorded R s) s within f.sound in
      rw (← f.tree) (omega (arith, r.0, f.sound.least), omega (arith, r.0, f.sound.most), r.1)

  -- so has each tree of a row that was visited
  pub row_shaped : (h q : ℕ) (edge : Bool) (cs seen : List ℕ) {ts : List (Tree h)} {seen' : List ℕ}
      → visit_row e N P R (visit e N P R h) q edge cs seen ≡ fine ts seen' → (length ts ≡ length cs) × InRow (ShapedTree e h false) edge ts
  unfolding is_root
  row_shaped h q edge cs seen v =
      rows_shaped h (λ q edge seen c t seen' o. visit_shaped h (Child q) edge seen c o (λ z. never (sym z))) q edge cs seen v

  -- and so has a blob
  pub walk_shaped : (seen : List ℕ) (r : ℕ) {b : Blob} {seen' : List ℕ} → from_root e N P R seen r ≡ fine b seen' → r < N → Shaped e b
  unfolding Shaped is_root
  walk_shaped seen r v within =
      let (t, o, q) = root_found e N P R seen r v in
      subst (Shaped e) q (visit_shaped (min (height_of (block e P r)) e.top) Root true seen r o (λ z. within))

-- an element of a list, by its place
pub mem_at : {A : Type 0} (l : List A) (i : ℕ) (d : A) → i < length l → Memᴰ (get_or l i d) l
mem_at [] i d h = absurd (omega arith)
mem_at (x ∷ l) zero d h = Memᴰ.head refl
mem_at (x ∷ l) (suc i) d h = Memᴰ.tail (mem_at l i d (omega arith))

-- what a leaf that was visited is: what lies at its slot
pub record LeafHere (e : Edition) (N : ℕ) (P : List ℕ) (l : ℕ × List ℕ) : Type 0 where
  pub bytes : leaf_in e P l.0 ≡ l
  pub block : LeafBlock e N P l.0

-- leaves that are each what lies at their slots are those of their slots
here_map : (e : Edition) (N : ℕ) (P : List ℕ) (ls : List (ℕ × List ℕ)) → ((l : ℕ × List ℕ) → Memᴰ l ls → LeafHere e N P l)
    → ls ≡ map (leaf_in e P) (map (λ l. l.0) ls)
here_map e N P [] each = refl
here_map e N P (l ∷ ls) each =
    ap₂ ◌∷◌ (sym (each l (Memᴰ.head refl)).bytes) (here_map e N P ls (λ m i. each m (Memᴰ.tail i)))

-- from a claim of each element of two lists, one of each element of both
each_append : {A : Type 0} (Q : A → Type 0) (xs ys : List A) → ((x : A) → Memᴰ x xs → Q x) → ((x : A) → Memᴰ x ys → Q x)
    → (x : A) → Memᴰ x (xs ++ ys) → Q x
each_append Q xs ys f g x m = ⊎_elim (f x) (g x) (Memᴰ.append_cases xs m)

module _ (e : Edition) (p : Proper e) (N : ℕ) (P R : List ℕ) (whole : length P ≡ e.size * N) where
  -- each leaf of a row that was visited
  rows_here : (h : ℕ)
      → ((q : ℕ) (edge : Bool) (seen : List ℕ) (s : ℕ) (t : Tree h) (seen' : List ℕ) → visit e N P R h (Child q) edge seen s ≡ fine t seen'
      → (l : ℕ × List ℕ) → Memᴰ l (leaves h t) → LeafHere e N P l)
      → (q : ℕ) (edge : Bool) (cs seen : List ℕ) {ts : List (Tree h)} {seen' : List ℕ} → visit_row e N P R (visit e N P R h) q edge cs seen ≡ fine ts seen'
      → (l : ℕ × List ℕ) → Memᴰ l (joined (map (leaves h) ts)) → LeafHere e N P l
  unfolding joined
  rows_here h each q edge [] seen v =
      let n = none_found e N P R h q edge seen v in
      rw (← n.0) (λ l m. absurd (Memᴰ.not-nil m))
  rows_here h each q edge (c ∷ cs) seen v =
      let f = row_found e N P R h q edge c cs seen v in
      rw (← f.trees)
      (each_append (LeafHere e N P) (leaves h f.first) (joined (map (leaves h) f.rest))
      (each q (both edge (is_empty cs)) seen c f.first f.mid f.walked) (rows_here h each q edge cs f.mid f.others))

  -- each leaf of a tree that was visited is what lies at its slot
  pub visit_leaves : (h : ℕ) (role : Role) (edge : Bool) (seen : List ℕ) (s : ℕ) {t : Tree h} {seen' : List ℕ}
      → visit e N P R h role edge seen s ≡ fine t seen' → (is_root role ≡ true → s < N)
      → (l : ℕ × List ℕ) → Memᴰ l (leaves h t) → LeafHere e N P l
  unfolding leaves items_of is_root used most_count
  visit_leaves zero role edge seen s v root =
      let f = leaf_found e N P R role edge seen s v in
      let within = slot_within N R seen role s f.link root in
      let room = block_room e p N P whole zero s within f.sound.most in
      let n = row_length e p N P whole zero (is_root role) edge (recorded R s) s within f.sound in
      let here : LeafHere e N P (leaf_in e P s) = record {
        bytes = refl;
        block = record { within = within; count = sym n; most = omega (arith, f.sound.most); room = room };
      } in
      λ l m. subst (LeafHere e N P) (f.tree ∙ sym (Memᴰ.eq_of_singleton m)) here
  visit_leaves (suc h) role edge seen s v root =
      let f = inner_found e N P R h role edge seen s v in
      rw (← f.tree)
      (rows_here h (λ q edge seen c t seen' o. visit_leaves h (Child q) edge seen c o (λ z. never (sym z))) s edge
      (children_of (block e P s)) (set seen s 1) f.walked)

  -- a walk from a root that went well
  module _ (seen : List ℕ) (r : ℕ) {b : Blob} {seen' : List ℕ} (found : from_root e N P R seen r ≡ fine b seen') (within : r < N) where
    -- each leaf of the blob is what lies at its slot
    pub walk_here : (l : ℕ × List ℕ) → Memᴰ l (leaves_of b) → LeafHere e N P l
    unfolding leaves_of
    walk_here =
        let (t, o, q) = root_found e N P R seen r found in
        subst (λ (c : Blob). (l : ℕ × List ℕ) → Memᴰ l (leaves_of c) → LeafHere e N P l) q
        (visit_leaves (min (height_of (block e P r)) e.top) Root true seen r o (λ z. within))

    -- the blob's leaves are what lies at their slots
    pub walk_leaves : leaves_of b ≡ map (leaf_in e P) (leaf_slots b)
    unfolding leaf_slots
    walk_leaves = here_map e N P (leaves_of b) walk_here

    -- the i-th leaf's bytes are those in the i-th leaf's slot, which holds a leaf
    pub walk_leaf_at : (i : ℕ) → i < length (leaf_slots b)
        → LeafBlock e N P (get_or (leaf_slots b) i 0) × ((get_or (leaves_of b) i (0, [])).1 ≡ data_of (block e P (get_or (leaf_slots b) i 0)))
    unfolding leaf_slots
    walk_leaf_at i h =
        let k : i < length (leaves_of b) = omega (arith, leaf_slots_length b) in
        let x = walk_here (get_or (leaves_of b) i (0, [])) (mem_at (leaves_of b) i (0, []) k) in
        let q = get_or-map (λ (l : ℕ × List ℕ). l.0) (leaves_of b) i (0, []) in
        rw q (x.block, sym (ap (λ (l : ℕ × List ℕ). l.1) x.bytes))
