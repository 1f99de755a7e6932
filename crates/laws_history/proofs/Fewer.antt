-- A walk that goes well with slots already visited goes well with fewer, and finds the same: check 1 asks only that a child was not visited.
-- So where the pool check passes, the blob check of every root passes.
use Rattle.std.specs.Prelude.{Ok}
use mathlib.Core.Path.{◌≡◌, refl, sym, ap, subst, ◌∙◌}
use mathlib.Core.Bool.{Bool, true}
use mathlib.Core.List.{List, [], ◌∷◌}
use Prim.Native.Nat.{ℕ, zero, suc, ◌≤◌, ◌<◌, min}
use native.Mathlib.Omega.{arith}
use borrow.Author.Tests.{eqb-true, eqb-false, ltb-true, ltb-false, eq-eqb}
use lib.Dec.{eqb, ltb}
use lib.ListN.{length, get_or, set, replicate, length-set, length-replicate}
use lib.Seq.{get_or-set_same, get_or-set_other, set_out}
use Rattle.meaning.specs.declared.Edition.{Edition}
use Rattle.meaning.specs.declared.Role.{Role}
use Rattle.meaning.specs.declared.Role.TheVariants.{Root, Child}
use Rattle.meaning.specs.Lists.{both, range}
use Rattle.meaning.specs.Bytes.{block, height_of, children_of, state, recorded}
use Rattle.meaning.specs.Tree.{Tree, Blob}
use Rattle.meaning.specs.Walk.{is_root, link_check, Found, fine, is_empty, one_visit, visit_row, visit, from_root, blob_check, roots, pool_check}
use Rattle.laws.proofs.Inversions.{never, by_test, Sound, sound_passed, passed_linked, linked_passed, visited_fine, fine_and_then, and_then_fine}
use Rattle.laws.proofs.Walked.{leaf_found, inner_found, none_found, row_found, root_found}
use Rattle.laws.proofs.Marks.{walk_marks}
use Rattle.laws.proofs.Roots.{roots_root, roots_other}
use Rattle.laws.proofs.Every.{Every, every_range}

-- fewer flags no slot that more does not
pub record Fewer (fewer more : List ℕ) : Type 0 where
  pub long : length fewer ≡ length more
  pub unset : (x : ℕ) → get_or more x 0 ≡ 0 → get_or fewer x 0 ≡ 0

-- with one and the same flag more, still so
fewer_set : (m seen : List ℕ) (s : ℕ) → Fewer m seen → Fewer (set m s 1) (set seen s 1)
fewer_set m seen s f =
    record {
      long = length-set m s 1 ∙ f.long ∙ sym (length-set seen s 1);
      unset = λ x p.
          by_test (eqb x s)
          (λ t. let is : x ≡ s = eqb-true x s t in
          by_test (ltb s (length seen))
          (λ l. absurd (omega (arith, sym (rw is at p) ∙ get_or-set_same seen s 1 0 (ltb-true s (length seen) l))))
          (λ l. let out : length seen ≤ s = ltb-false s (length seen) l in
          ap (λ (l : List ℕ). get_or l x 0) (set_out m s 1 (omega (arith, f.long)))
          ∙ f.unset x (ap (λ (l : List ℕ). get_or l x 0) (sym (set_out seen s 1 out)) ∙ p)))
          (λ t. let other = eqb-false x s t in
          get_or-set_other m s x 1 0 other ∙ f.unset x (sym (get_or-set_other seen s x 1 0 other) ∙ p));
    }

-- no flag at all is fewer than any
fewer_none : (N : ℕ) (seen : List ℕ) → length seen ≡ N → Fewer (replicate N 0) seen
fewer_none N seen l = record { long = length-replicate N 0 ∙ sym l; unset = λ x p. blank N x }
  where
    blank : (n x : ℕ) → ◌≡◌ {A = ℕ} (get_or (replicate n 0) x 0) 0
    blank zero x = refl
    blank (suc n) zero = refl
    blank (suc n) (suc x) = blank n x

-- check 1 passes with fewer
link_fewer : (N : ℕ) (R seen m : List ℕ) (role : Role) (s : ℕ) → Fewer m seen → link_check N R seen role s ≡ Ok tt → link_check N R m role s ≡ Ok tt
unfolding link_check
link_fewer N R seen m Root s f link = refl
link_fewer N R seen m (Child p) s f link =
    let l = passed_linked N R seen p s link in
    linked_passed N R m p s (record { within = l.within; part = l.part; unseen = f.unset s l.unseen })

module _ (e : Edition) (N : ℕ) (P R : List ℕ) where
  -- the same is found, with fewer flags at the end as well
  abbrev Found-too : {A : Type 0} → Found A → A → List ℕ → Type 0
  Found-too f a seen' = (m' : List ℕ) × (f ≡ fine a m') × Fewer m' seen'

  -- one visit
  one_fewer : (h : ℕ) (role : Role) (edge : Bool) (seen m : List ℕ) (s : ℕ) → Fewer m seen → link_check N R seen role s ≡ Ok tt
      → Sound e h (is_root role) edge (recorded R s) s (block e P s)
      → one_visit e N P R h role edge m s ≡ fine (block e P s) (set m s 1)
  one_fewer h role edge seen m s f link sound =
      visited_fine e N P R h role edge m s (link_fewer N R seen m role s f link)
      (sound_passed e h (is_root role) edge (recorded R s) s (block e P s) sound)

  -- a row, from each child's visit
  row_fewer : (h : ℕ)
      → ((q : ℕ) (edge : Bool) (seen m : List ℕ) (s : ℕ) (t : Tree h) (seen' : List ℕ) → visit e N P R h (Child q) edge seen s ≡ fine t seen'
      → Fewer m seen → Found-too (visit e N P R h (Child q) edge m s) t seen')
      → (q : ℕ) (edge : Bool) (cs seen m : List ℕ) (ts : List (Tree h)) (seen' : List ℕ)
      → visit_row e N P R (visit e N P R h) q edge cs seen ≡ fine ts seen' → Fewer m seen
      → Found-too (visit_row e N P R (visit e N P R h) q edge cs m) ts seen'
  unfolding visit_row
  row_fewer h each q edge [] seen m ts seen' v f =
      let n = none_found e N P R h q edge seen v in
      (m, ap (λ (ts : List (Tree h)). fine ts m) n.0, subst (Fewer m) n.1 f)
  row_fewer h each q edge (c ∷ cs) seen m ts seen' v f =
      let r = row_found e N P R h q edge c cs seen v in
      let (m₁, o₁, f₁) = each q (both edge (is_empty cs)) seen m c r.first r.mid r.walked f in
      let (m₂, o₂, f₂) = row_fewer h each q edge cs r.mid m₁ r.rest seen' r.others f₁ in
      (m₂, fine_and_then _ _ r.first m₁ o₁ ∙ fine_and_then _ _ r.rest m₂ o₂ ∙ ap (λ (ts : List (Tree h)). fine ts m₂) r.trees, f₂)

  -- a visit
  pub visit_fewer : (h : ℕ) (role : Role) (edge : Bool) (seen m : List ℕ) (s : ℕ) (t : Tree h) (seen' : List ℕ)
      → visit e N P R h role edge seen s ≡ fine t seen' → Fewer m seen → Found-too (visit e N P R h role edge m s) t seen'
  unfolding visit
  visit_fewer zero role edge seen m s t seen' v f =
      let r = leaf_found e N P R role edge seen s v in (
        set m s 1,
        fine_and_then _ _ (block e P s) (set m s 1) (one_fewer zero role edge seen m s f r.link r.sound)
            ∙ ap (λ (t : Tree zero). fine t (set m s 1)) r.tree,
        subst (Fewer (set m s 1)) r.flags (fewer_set m seen s f),
      )
  visit_fewer (suc h) role edge seen m s t seen' v f =
      let r = inner_found e N P R h role edge seen s v in
      let (m₁, o₁, f₁) = row_fewer h (λ q. visit_fewer h (Child q)) s edge (children_of (block e P s)) (set seen s 1) (set m s 1) r.below seen'
      r.walked (fewer_set m seen s f) in (
        m₁,
        fine_and_then _ _ (block e P s) (set m s 1) (one_fewer (suc h) role edge seen m s f r.link r.sound)
            ∙ fine_and_then _ _ r.below m₁ o₁ ∙ ap (λ (t : Tree (suc h)). fine t m₁) r.tree,
        f₁,
      )

  -- a walk from a root that went well makes its blob check go well
  pub blob_found : (seen : List ℕ) (r : ℕ) (b : Blob) (seen' : List ℕ) → from_root e N P R seen r ≡ fine b seen' → length seen ≡ N
      → (m : List ℕ) × (blob_check e N P R r ≡ fine b m)
  unfolding from_root blob_check
  blob_found seen r b seen' v l =
      let (t, o, q) = root_found e N P R seen r v in
      let (m, o₁, f₁) = visit_fewer (min (height_of (block e P r)) e.top) Root true seen (replicate N 0) r t seen' o (fewer_none N seen l) in
      (m, fine_and_then _ _ t m o₁ ∙ ap (λ (b : Blob). fine b m) q)

  -- the blob check of r finds a blob
  abbrev pub Whole : ℕ → Type 0
  Whole r = (b : Blob) × (seen : List ℕ) × (blob_check e N P R r ≡ fine b seen)

  -- each root among these slots
  roots_found : (ss seen : List ℕ) (bs : List Blob) (seen' : List ℕ) → roots e N P R ss seen ≡ fine bs seen' → length seen ≡ N
      → Every (λ s. state R s ≡ 2 → Whole s) ss
  roots_found [] seen bs seen' v l = tt
  roots_found (s ∷ ss) seen bs seen' v l =
      by_test (eqb (state R s) 2)
      (λ t.
      let (b, mid, cs, o, o', q) = roots_root e N P R s ss seen t v in
      let (m, w) = blob_found seen s b mid o l in
      ((λ z. (b, m, w)), roots_found ss mid cs seen' o' (walk_marks e N P R seen s o l).0))
      (λ t.
      ((λ z. never (sym (eq-eqb (state R s) 2 z) ∙ t)), roots_found ss seen bs seen' (sym (roots_other e N P R s ss seen t) ∙ v) l))

  -- where the pool check passes, so does the blob check of every root
  pub pool_found : (bs : List Blob) (seen : List ℕ) → pool_check e N P R ≡ fine bs seen → (r : ℕ) → r < N → state R r ≡ 2 → Whole r
  unfolding pool_check
  pool_found bs seen v r h =
      let (cs, mid, o, q) = and_then_fine (roots e N P R (range 0 N) (replicate N 0)) _ v in
      every_range (λ s. state R s ≡ 2 → Whole s) N 0 (roots_found (range 0 N) (replicate N 0) cs mid o (length-replicate N 0))
      r (omega arith) (omega arith)
