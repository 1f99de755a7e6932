-- A walk that went well found the blob that the pool spells, and each block of it fits. The pool check lists the blobs of such walks.
use mathlib.Core.Path.{◌≡◌, ap, ap₂, ◌∙◌, sym, subst}
use mathlib.Core.Logic.{◌⊎◌, inl, inr}
use mathlib.Core.Bool.{Bool, true}
use mathlib.Core.List.Memᴰ
use mathlib.Core.List.{List, [], ◌∷◌, map, Memᴰ}
use Prim.Native.Nat.{ℕ, zero, suc, ◌*◌, ◌^◌, ◌≤◌, ◌<◌, min}
use native.Mathlib.Nat.{pow-le-pow_left}
use native.Mathlib.Omega.{arith}
use borrow.Author.Tests.{eqb-true, ltb-true, ltb-false}
use lib.Dec.{eqb, ltb}
use lib.ListN.{length, set, replicate, length-replicate}
use Rattle.meaning.specs.declared.Edition.{Edition}
use Rattle.meaning.specs.declared.Role.{Role}
use Rattle.meaning.specs.declared.Role.TheVariants.{Root, Child}
use Rattle.meaning.specs.Lists.{both, range}
use Rattle.meaning.specs.Edition.{Proper}
use Rattle.meaning.specs.Bytes.{block, height_of, children_of, state}
use Rattle.meaning.specs.Tree.{Tree, Blob, root_of, leaves_of}
use Rattle.meaning.specs.Shape.{up, Shaped}
use Rattle.meaning.specs.Walk.{is_root, fine, is_empty, visit_row, visit, from_root, roots, closing, pool_check}
use Rattle.laws.proofs.Inversions.{never, by_test, and_then_fine, passing_fine, fine_same}
use Rattle.laws.proofs.Walked.{leaf_found, inner_found, none_found, row_found, root_found, slot_within, walk_shaped}
use Rattle.laws.proofs.Marks.{walk_marks, walk_few, walk_few_blocks}
use Rattle.laws.proofs.Totals.{total_ge, total_more, up_gt}
use Rattle.laws.proofs.Heights.{height_least}
use Rattle.laws.proofs.Shapes.{shaped_height, shaped_blocks}
use Rattle.laws.proofs.Roots.{walk_root, roots_root, roots_other}
use Rattle.laws.proofs.Every.{Every}
use Rattle.laws_resize.proofs.growth.ListedBlobsStand.{range_below}
use Rattle.check_survey.specs.sites.Spelt.{tree_at, blob_at, Inside}
use Rattle.check_survey.specs.sites.Marks.{SitesStart}
use Rattle.check_survey.proofs.sites.Bounds.{inside_fit}

module _ (e : Edition) (N : ℕ) (P R : List ℕ) where
  -- what a visit of a tree found
  abbrev Spells : ℕ → Type 0
  Spells h = (role : Role) (edge : Bool) (seen : List ℕ) (s : ℕ) (t : Tree h) (seen' : List ℕ) → visit e N P R h role edge seen s ≡ fine t seen'
      → (is_root role ≡ true → s < N) → (t ≡ tree_at e P h s) × Inside e P N h s

  -- a row
  row_spelt : (h : ℕ) → Spells h → (q : ℕ) (edge : Bool) (cs seen : List ℕ) (ts : List (Tree h)) (seen' : List ℕ)
      → visit_row e N P R (visit e N P R h) q edge cs seen ≡ fine ts seen' → (ts ≡ map (tree_at e P h) cs) × Every (Inside e P N h) cs
  unfolding is_root
  row_spelt h each q edge [] seen ts seen' v = (sym (none_found e N P R h q edge seen v).0, tt)
  row_spelt h each q edge (c ∷ cs) seen ts seen' v =
      let f = row_found e N P R h q edge c cs seen v in
      let one = each (Child q) (both edge (is_empty cs)) seen c f.first f.mid f.walked (λ z. never (sym z)) in
      let more = row_spelt h each q edge cs f.mid f.rest seen' f.others in
      (sym f.trees ∙ ap₂ ◌∷◌ one.0 more.0, (one.1, more.1))

  -- a tree
  visit_spelt : (h : ℕ) → Spells h
  unfolding tree_at Inside
  visit_spelt zero role edge seen s t seen' v root =
      let f = leaf_found e N P R role edge seen s v in (
        sym f.tree,
        record { within = slot_within N R seen role s f.link root; height = f.sound.height; most = f.sound.most },
      )
  visit_spelt (suc h) role edge seen s t seen' v root =
      let f = inner_found e N P R h role edge seen s v in
      let r = row_spelt h (visit_spelt h) s edge (children_of (block e P s)) (set seen s 1) f.below seen' f.walked in (
        sym f.tree ∙ ap (λ (ts : List (Tree h)). (s, ts)) r.0,
        (record { within = slot_within N R seen role s f.link root; height = f.sound.height; most = f.sound.most }, r.1),
      )

  -- a blob
  module _ (seen : List ℕ) (r : ℕ) {b : Blob} {seen' : List ℕ} (v : from_root e N P R seen r ≡ fine b seen') (within : r < N) where
    abbrev high : ℕ
    high = min (height_of (block e P r)) e.top

    walk_top : (t : Tree high) → visit e N P R high Root true seen r ≡ fine t seen'
        → (t ≡ tree_at e P high r) × Inside e P N high r
    walk_top t o = visit_spelt high Root true seen r t seen' o (λ z. within)

    own_height : high ≡ height_of (block e P r)
    own_height =
        let (t, o, q) = root_found e N P R seen r v in
        sym (inside_fit e P N high r (walk_top t o).1).height

    pub walk_spelt : b ≡ blob_at e P r
    unfolding blob_at
    walk_spelt =
        let (t, o, q) = root_found e N P R seen r v in
        sym q
        ∙ ap (λ (u : Tree high). record { height = high; tree = u }) (walk_top t o).0
        ∙ ap (λ (h : ℕ). record { height = h; tree = tree_at e P h r }) own_height

    pub walk_inside : Inside e P N (height_of (block e P r)) r
    walk_inside =
        let (t, o, q) = root_found e N P R seen r v in
        subst (λ (h : ℕ). Inside e P N h r) own_height (walk_top t o).1

-- a blob that some walk from its root found
pub record WalkedTo (e : Edition) (N : ℕ) (P R : List ℕ) (b : Blob) : Type 0 where
  pub before : List ℕ
  pub after : List ℕ
  pub found : from_root e N P R before (root_of b) ≡ fine b after
  pub flags : length before ≡ N
  pub within : root_of b < N
  pub root : state R (root_of b) ≡ 2

module _ (e : Edition) (N : ℕ) (P R : List ℕ) where
  -- a walk from a slot found a blob of that slot
  walked_to : (seen : List ℕ) (s : ℕ) (b : Blob) (seen' : List ℕ) → from_root e N P R seen s ≡ fine b seen' → length seen ≡ N → s < N → state R s ≡ 2
      → WalkedTo e N P R b
  walked_to seen s b seen' o all below is =
      let q : root_of b ≡ s = walk_root e N P R seen s o in
      record {
        before = seen;
        after = seen';
        found = rw q o;
        flags = all;
        within = rw q below;
        root = rw q is;
      }

  -- each blob that the walks from these slots' records found
  roots_walked : (slots seen : List ℕ) {bs : List Blob} {seen' : List ℕ} → roots e N P R slots seen ≡ fine bs seen' → length seen ≡ N
      → Every (λ s. s < N) slots → (b : Blob) → Memᴰ b bs → WalkedTo e N P R b
  unfolding roots
  roots_walked [] seen w all below b m = absurd (Memᴰ.not-nil (subst (Memᴰ b) (sym (fine_same w).0) m))
  roots_walked (s ∷ slots) seen {bs} {seen'} w all below b m =
      by_test (eqb (state R s) 2)
      (λ t.
      let (c, mid, cs, o, o', q) = roots_root e N P R s slots seen t w in
      pass c mid cs o (Memᴰ.cases_cons (subst (Memᴰ b) (sym q) m)) t
      (roots_walked slots mid {bs = cs} {seen' = seen'} o' (walk_marks e N P R seen s o all).0 below.1 b))
      (λ t. roots_walked slots seen (sym (roots_other e N P R s slots seen t) ∙ w) all below.1 b m)
    where
      pass : (c : Blob) (mid : List ℕ) (cs : List Blob) → from_root e N P R seen s ≡ fine c mid → (b ≡ c) ⊎ Memᴰ b cs → eqb (state R s) 2 ≡ true
          → (Memᴰ b cs → WalkedTo e N P R b) → WalkedTo e N P R b
      pass c mid cs o (inl q) t later = subst (WalkedTo e N P R) (sym q) (walked_to seen s c mid o all below.0 (eqb-true (state R s) 2 t))
      pass c mid cs o (inr j) t later = later j

  -- each blob that the pool check lists
  pub pool_walked : {bs : List Blob} {seen : List ℕ} → pool_check e N P R ≡ fine bs seen → (b : Blob) → Memᴰ b bs → WalkedTo e N P R b
  unfolding pool_check
  pool_walked {bs} {seen} w b m =
      let (cs, mid, o, q) = and_then_fine (roots e N P R (range 0 N) (replicate N 0)) _ w in
      let same = fine_same {a = cs} {b = bs} {x = mid} {y = seen} (passing_fine (closing e N P R (range 0 N) mid) (fine cs mid) q).1 in
      roots_walked (range 0 N) (replicate N 0) {bs = cs} {seen' = mid} o (length-replicate N 0) (range_below 0 N N (omega arith)) b
      (subst (Memᴰ b) (sym same.0) m)

-- a blob that a walk found is small: its leaves can be numbered, and so can its heights
module _ (e : Edition) (p : Proper e) (N : ℕ) (P R : List ℕ) (whole : length P ≡ e.size * N) (most : N ≤ e.most) (b : Blob)
    (w : WalkedTo e N P R b) where
  pub walked_spelt : b ≡ blob_at e P (root_of b)
  walked_spelt = walk_spelt e N P R w.before (root_of b) w.found w.within

  pub walked_shaped : Shaped e b
  walked_shaped = walk_shaped e p N P R whole w.before (root_of b) w.found w.within

  pub walked_few : length (leaves_of b) ≤ N
  walked_few = walk_few e p N P R whole w.before (root_of b) w.found w.flags w.within

  -- fewer leaves than slots, if there are more than one
  fewer : 2 ≤ length (leaves_of b) → length (leaves_of b) < N
  fewer two =
      let n = length (leaves_of b) in
      omega (
        arith,
        walk_few_blocks e N P R w.before (root_of b) w.found w.flags w.within,
        shaped_blocks e p.some p.two b walked_shaped,
        total_more e.fan n p.two two,
        total_ge e.fan (up n e.fan) p.two,
        up_gt n e.fan 0 (omega (arith, p.two)) (omega arith),
      )

  pub walked_numbered : length (leaves_of b) < 2 ^ 32
  walked_numbered =
      by_test (ltb (length (leaves_of b)) 2)
      (λ t. omega (arith, ltb-true (length (leaves_of b)) 2 t))
      (λ t. omega (arith, fewer (ltb-false (length (leaves_of b)) 2 t), most, p.small))

  pub walked_low : b.height < 255
  walked_low =
      let n = length (leaves_of b) in
      omega (
        arith,
        shaped_height e p.some p.two b walked_shaped,
        height_least e.fan n 32 p.two (omega (arith, walked_few, most, p.small, pow-le-pow_left p.two 32)),
      )

  -- so its sites may be noted
  pub walked_start : (hs fs : List ℕ) → length hs ≡ N → length fs ≡ N → SitesStart e N P hs fs (root_of b)
  unfolding blob_at
  walked_start hs fs lh lf =
      record {
        ready = record { pool = whole; heights = lh; firsts = lf };
        inside = walk_inside e N P R w.before (root_of b) w.found w.within;
        low = omega (arith, walked_low, ap (λ (c : Blob). c.height) walked_spelt);
        few = omega (arith, walked_numbered, ap (λ (c : Blob). length (leaves_of c)) walked_spelt);
      }
