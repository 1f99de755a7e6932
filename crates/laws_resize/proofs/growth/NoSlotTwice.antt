-- A walk that went well visits no slot twice, and below its root parts only. Each child that it goes to had no flag and gets one, and flags stay;
-- so a
-- slot that it comes to later is another. No free slot is therefore one of the blob's.
use mathlib.Core.Path.{◌≡◌, refl, sym, ap, ◌∙◌}
use mathlib.Core.Bool.{Bool, true}
use mathlib.Core.List.{List, [], ◌∷◌, ◌++◌, map}
use Prim.Native.Nat.{ℕ, zero, suc, ◌<◌, min}
use native.Mathlib.Omega.{arith}
use lib.Dec.{eqb}
use lib.ListN.{length, get_or, drop, set, length-set}
use lib.Seq.{get_or-set_same, get_or-set_other}
use borrow.Author.Tests.{eqb-true, eqb-false}
use Rattle.meaning.specs.declared.Edition.{Edition}
use Rattle.meaning.specs.declared.Role.{Role}
use Rattle.meaning.specs.declared.Role.TheVariants.{Root, Child}
use Rattle.meaning.specs.Lists.{both, joined}
use Rattle.meaning.specs.Bytes.{block, height_of, children_of, state}
use Rattle.meaning.specs.Tree.{Tree, Blob, cells_of, slots_of, nothing, held}
use Rattle.meaning.specs.Walk.{fine, is_empty, visit_row, visit, from_root}
use Rattle.laws.proofs.Inversions.{by_test, passed_linked}
use Rattle.laws.proofs.Walked.{leaf_found, inner_found, none_found, row_found, root_found}
use Rattle.laws.proofs.Marks.{visit_link}
use Rattle.laws.proofs.Roots.{visit_slot, walk_root}
use Rattle.laws.proofs.TreeSlots.{slots, slots_leaf, slots_inner, blob_slots, own_slots, slots_root}
use Rattle.laws_resize.specs.growth.Sites.{Lacks, Once}
use Rattle.laws.proofs.Every.{Every, every_append, every_weaker}
use Rattle.laws_resize.proofs.growth.Sites.{lacks_held}

-- if each is another than s, s is lacking
others_lack : (l : List ℕ) (s : ℕ) → Every (λ x. x ≡ s → ⊥) l → Lacks l s
others_lack [] s a = tt
others_lack (x ∷ l) s a = (a.0, others_lack l s a.1)

-- lacking in two lists
lacks_append : (l m : List ℕ) (s : ℕ) → Lacks l s → Lacks m s → Lacks (l ++ m) s
lacks_append [] m s a b = b
lacks_append (x ∷ l) m s a b = (a.0, lacks_append l m s a.1 b)

-- no slot twice in two lists, if each of the first is another than each of the second
once_append : (l m : List ℕ) → Once l → Once m → Every (λ x. Lacks m x) l → Once (l ++ m)
once_append [] m a b c = b
once_append (x ∷ l) m a b c = (lacks_append l m x a.0 c.0, once_append l m a.1 b c.1)

-- no flag, and a part
abbrev New : (R seen : List ℕ) → ℕ → Type 0
New R seen x = (get_or seen x 0 ≡ 0) × (state R x ≡ 1)

-- flags before and after a visit of these slots
record Went (seen seen' l : List ℕ) : Type 0 where
  size : length seen' ≡ length seen
  back : (x : ℕ) → get_or seen' x 0 ≡ 0 → get_or seen x 0 ≡ 0
  on : Every (λ x. get_or seen' x 0 ≡ 0 → ⊥) l
  once : Once l

-- nothing visited
went_none : (seen : List ℕ) → Went seen seen []
went_none seen = record { size = refl; back = λ x z. z; on = tt; once = tt }

-- one visit, then another of slots that had no flag
went_then : (R seen mid seen' l m : List ℕ) → Went seen mid l → Went mid seen' m → Every (New R mid) m → Went seen seen' (l ++ m)
went_then R seen mid seen' l m a b new = record {
  size = b.size ∙ a.size;
  back = λ x z. a.back x (b.back x z);
  on = every_append _ l m (every_weaker (λ x. get_or mid x 0 ≡ 0 → ⊥) (λ x. get_or seen' x 0 ≡ 0 → ⊥) (λ x off z. off (b.back x z)) l a.on) b.on;
  once = once_append l m a.once b.once (every_weaker (λ x. get_or mid x 0 ≡ 0 → ⊥) (λ x. Lacks m x) apart l a.on);
}
  where
    apart : (x : ℕ) → (get_or mid x 0 ≡ 0 → ⊥) → Lacks m x
    apart x off = others_lack m x (every_weaker (New R mid) (λ y. y ≡ x → ⊥) (λ y n q. off (ap (λ (z : ℕ). get_or mid z 0) (sym q) ∙ n.0)) m new)

-- a flag that is not set after s was is another's, and was not set before
unset : (seen : List ℕ) (s x : ℕ) → s < length seen → get_or (set seen s 1) x 0 ≡ 0 → (x ≡ s → ⊥) × (get_or seen x 0 ≡ 0)
unset seen s x within z =
    by_test (eqb x s)
    (λ t. absurd (omega (arith, get_or-set_same seen s 1 0 within, ap (λ (y : ℕ). get_or (set seen s 1) y 0) (eqb-true x s t))))
    (λ t. (eqb-false x s t, sym (get_or-set_other seen s x 1 0 (eqb-false x s t)) ∙ z))

-- a block, then those below it
went_top : (R seen seen' l : List ℕ) (s : ℕ) → s < length seen → Went (set seen s 1) seen' l → Every (New R (set seen s 1)) l
    → Went seen seen' (s ∷ l) × Every (New R seen) l
went_top R seen seen' l s within w new = (
  record {
    size = w.size ∙ length-set seen s 1;
    back = λ x z. (unset seen s x within (w.back x z)).1;
    on = (λ z. (unset seen s s within (w.back s z)).0 refl, w.on);
    once = (others_lack l s (every_weaker (New R (set seen s 1)) (λ x. x ≡ s → ⊥) (λ x n. (unset seen s x within n.0).0) l new), w.once);
  },
  every_weaker (New R (set seen s 1)) (New R seen) (λ x n. ((unset seen s x within n.0).1, n.1)) l new,
)

module _ (e : Edition) (N : ℕ) (P R : List ℕ) where
  -- what a visit of a tree went through
  abbrev Visited : ℕ → Type 0
  Visited h = (role : Role) (edge : Bool) (seen : List ℕ) (s : ℕ) (t : Tree h) (seen' : List ℕ) → visit e N P R h role edge seen s ≡ fine t seen'
      → length seen ≡ N → s < N → Went seen seen' (slots h t) × Every (New R seen) (drop 1 (slots h t))

  -- a child is new itself
  child_new : (h q : ℕ) (edge : Bool) (seen : List ℕ) (s : ℕ) (t : Tree h) (seen' : List ℕ) → visit e N P R h (Child q) edge seen s ≡ fine t seen'
      → Every (New R seen) (drop 1 (slots h t)) → Every (New R seen) (slots h t)
  child_new h q edge seen s t seen' v below =
      let l = passed_linked N R seen q s (visit_link e N P R h (Child q) edge seen s v) in
      rw (own_slots h t, visit_slot e N P R h (Child q) edge seen s v) ((l.unseen, l.part), rw (own_slots h t) at below)

  -- a row
  rows_visited : (h : ℕ) → Visited h → (q : ℕ) (edge : Bool) (cs seen : List ℕ) (ts : List (Tree h)) (seen' : List ℕ)
      → visit_row e N P R (visit e N P R h) q edge cs seen ≡ fine ts seen' → length seen ≡ N
      → Went seen seen' (joined (map (slots h) ts)) × Every (New R seen) (joined (map (slots h) ts))
  unfolding joined
  rows_visited h each q edge [] seen ts seen' v all =
      let n = none_found e N P R h q edge seen v in
      rw (← n.0, ← n.1) (went_none seen, tt)
  rows_visited h each q edge (c ∷ cs) seen ts seen' v all =
      let f = row_found e N P R h q edge c cs seen v in
      let edge' = both edge (is_empty cs) in
      let l = passed_linked N R seen q c (visit_link e N P R h (Child q) edge' seen c f.walked) in
      let one = each (Child q) edge' seen c f.first f.mid f.walked all l.within in
      let more = rows_visited h each q edge cs f.mid f.rest seen' f.others (one.0.size ∙ all) in
      let new = child_new h q edge' seen c f.first f.mid f.walked one.1 in
      rw (← f.trees) (
        went_then R seen f.mid seen' (slots h f.first) (joined (map (slots h) f.rest)) one.0 more.0 more.1,
        every_append (New R seen) (slots h f.first) (joined (map (slots h) f.rest)) new
            (every_weaker (New R f.mid) (New R seen) (λ x n. (one.0.back x n.0, n.1)) (joined (map (slots h) f.rest)) more.1),
      )

  -- a tree
  visited : (h : ℕ) → Visited h
  visited zero role edge seen s t seen' v all within =
      let f = leaf_found e N P R role edge seen s v in
      rw (← f.flags, ← f.tree, slots_leaf (s, _)) (went_top R seen (set seen s 1) [] s (omega arith) (went_none (set seen s 1)) tt)
  visited (suc h) role edge seen s t seen' v all within =
      let f = inner_found e N P R h role edge seen s v in
      let r = rows_visited h (visited h) s edge (children_of (block e P s)) (set seen s 1) f.below seen' f.walked (length-set seen s 1 ∙ all) in
      rw (← f.tree, slots_inner h s f.below) (went_top R seen seen' (joined (map (slots h) f.below)) s (omega arith) r.0 r.1)

  -- the walk from a root
  module _ (seen : List ℕ) (r : ℕ) {b : Blob} {seen' : List ℕ} (v : from_root e N P R seen r ≡ fine b seen') (all : length seen ≡ N)
      (within : r < N) where
    walked : Went seen seen' (slots_of b) × Every (New R seen) (drop 1 (slots_of b))
    walked =
        let (t, o, q) = root_found e N P R seen r v in
        let w = visited (min (height_of (block e P r)) e.top) Root true seen r t seen' o all within in
        rw (← q, blob_slots) w

    -- no slot of the blob twice
    pub walk_once : Once (slots_of b)
    walk_once = walked.0.once

    -- every other block than the root is a part
    pub walk_parts : Every (λ x. state R x ≡ 1) (drop 1 (slots_of b))
    walk_parts = every_weaker (New R seen) (λ x. state R x ≡ 1) (λ x n. n.1) (drop 1 (slots_of b)) walked.1

    -- a free slot is none of the blob's
    pub free_apart : state R r ≡ 2 → (s : ℕ) → state R s ≡ 0 → held (cells_of b) s ≡ nothing
    unfolding slots_of
    free_apart root s free =
        let own : slots_of b ≡ r ∷ drop 1 (slots_of b) = slots_root b ∙ ap (λ (x : ℕ). x ∷ drop 1 (slots_of b)) (walk_root e N P R seen r v) in
        let parts = others_lack (drop 1 (slots_of b)) s
        (every_weaker (λ x. state R x ≡ 1) (λ x. x ≡ s → ⊥) (λ x one q. omega (arith, one, free, ap (state R) q)) (drop 1 (slots_of b)) walk_parts) in
        let first : r ≡ s → ⊥ = λ q. omega (arith, root, free, ap (state R) q) in
        lacks_held s (cells_of b) (rw own (first, parts))
