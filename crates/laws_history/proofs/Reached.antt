-- What holds of each slot that a walk visited. A claim that follows from check 1 (the slot is in the pool and live) and check 2 (the block
-- there has no flaw) holds of every slot of the tree, and of every slot that is flagged as visited. The pool check goes from every root
-- and leaves no part unvisited, so after it such a claim holds of every live slot.
use Rattle.std.specs.Prelude.{Ok, None}
use mathlib.Core.Path.{◌≡◌, refl, sym, ap, subst, ◌∙◌}
use mathlib.Core.Bool.{Bool, true}
use mathlib.Core.List.{List, [], ◌∷◌, map}
use Prim.Native.Nat.{ℕ, zero, suc, ◌≤◌, ◌<◌, min}
use native.Mathlib.Omega.{arith}
use borrow.Author.Tests.{eqb-true, eqb-false, eq-eqb}
use lib.Dec.{eqb}
use lib.ListN.{get_or, set, replicate}
use lib.Seq.{get_or-set_other}
use Rattle.meaning.specs.declared.Edition.{Edition}
use Rattle.meaning.specs.declared.Role.{Role}
use Rattle.meaning.specs.declared.Role.TheVariants.{Root, Child}
use Rattle.meaning.specs.Lists.{pick, both, joined, range, zeros}
use Rattle.meaning.specs.Bytes.{block, height_of, children_of, state, recorded}
use Rattle.meaning.specs.Tree.{Tree, Blob, slots_of}
use Rattle.meaning.specs.Walk.{flaw, is_root, link_check, fine, is_empty, visit_row, visit, from_root, roots, closing_check, closing, pool_check}
use Rattle.laws.proofs.Inversions.{never, by_test, no_flaw, Sound, passed_linked, must_passed, first_passed, and_then_fine, passing_fine, fine_same}
use Rattle.laws.proofs.Walked.{leaf_found, inner_found, none_found, row_found, root_found}
use Rattle.laws.proofs.Roots.{visit_slot, roots_root, roots_other}
use Rattle.laws.proofs.Every.{Every, every_append, every_range, range_every}
use Rattle.laws.proofs.TreeSlots.{slots, below, own_slots, blob_slots}

-- Q holds of every slot that is flagged
abbrev pub Flagged : (ℕ → Type 0) → List ℕ → Type 0
Flagged Q seen = (x : ℕ) → get_or seen x 0 ≡ 1 → Q x

-- one flag more
flagged_more : (Q : ℕ → Type 0) (seen : List ℕ) (s : ℕ) → Q s → Flagged Q seen → Flagged Q (set seen s 1)
flagged_more Q seen s q f x p =
    by_test (eqb x s)
    (λ t. subst Q (sym (eqb-true x s t)) q)
    (λ t. f x (sym (get_or-set_other seen s x 1 0 (eqb-false x s t)) ∙ p))

-- none at first
flagged_none : (Q : ℕ → Type 0) (n : ℕ) → Flagged Q (replicate n 0)
flagged_none Q zero x p = absurd (omega arith)
flagged_none Q (suc n) zero p = absurd (omega arith)
flagged_none Q (suc n) (suc x) p = flagged_none (λ y. Q (suc y)) n x p

-- a slot in the pool whose record is live
abbrev pub Live : (N : ℕ) → (R : List ℕ) → ℕ → Type 0
Live N R x = (x < N) × (1 ≤ state R x)

-- a slot that was visited is live: a child's by check 1
slot_live : (N : ℕ) (R seen : List ℕ) (role : Role) (s : ℕ) → link_check N R seen role s ≡ Ok tt → (is_root role ≡ true → Live N R s) → Live N R s
unfolding is_root
slot_live N R seen Root s link root = root refl
slot_live N R seen (Child p) s link root =
    let l = passed_linked N R seen p s link in
    (l.within, omega (arith, l.part))

module _ (e : Edition) (N : ℕ) (P R : List ℕ) (Q : ℕ → Type 0)
    (holds : (x : ℕ) → Live N R x → flaw e (recorded R x) x (block e P x) ≡ None → Q x) where
  -- Q holds of these slots, and of each flagged slot if it did before
  abbrev pub Reach : (xs seen seen' : List ℕ) → Type 0
  Reach xs seen seen' = Every Q xs × (Flagged Q seen → Flagged Q seen')

  -- a visited slot itself
  here : (h : ℕ) (role : Role) (edge : Bool) (seen : List ℕ) (s : ℕ) → link_check N R seen role s ≡ Ok tt → (is_root role ≡ true → Live N R s)
      → Sound e h (is_root role) edge (recorded R s) s (block e P s) → Q s
  here h role edge seen s link root sound =
      holds s (slot_live N R seen role s link root) (no_flaw e (recorded R s) s (block e P s) sound.mark sound.own sound.version)

  -- a row, from each child's visit
  row_reach : (h : ℕ)
      → ((q : ℕ) (edge : Bool) (seen : List ℕ) (s : ℕ) (t : Tree h) (seen' : List ℕ) → visit e N P R h (Child q) edge seen s ≡ fine t seen'
      → Reach (slots h t) seen seen')
      → (q : ℕ) (edge : Bool) (cs seen : List ℕ) {ts : List (Tree h)} {seen' : List ℕ}
      → visit_row e N P R (visit e N P R h) q edge cs seen ≡ fine ts seen' → Reach (joined (map (slots h) ts)) seen seen'
  unfolding joined
  row_reach h each q edge [] seen v =
      let n = none_found e N P R h q edge seen v in
      rw (← n.0, ← n.1) (tt, λ f. f)
  row_reach h each q edge (c ∷ cs) seen v =
      let f = row_found e N P R h q edge c cs seen v in
      let one = each q (both edge (is_empty cs)) seen c f.first f.mid f.walked in
      let more = row_reach h each q edge cs f.mid f.others in
      rw (← f.trees) (every_append Q (slots h f.first) _ one.0 more.0, λ g. more.1 (one.1 g))

  -- every slot of a tree that was visited
  pub visit_reach : (h : ℕ) (role : Role) (edge : Bool) (seen : List ℕ) (s : ℕ) {t : Tree h} {seen' : List ℕ}
      → visit e N P R h role edge seen s ≡ fine t seen' → (is_root role ≡ true → Live N R s) → Reach (slots h t) seen seen'
  unfolding slots is_root
  visit_reach zero role edge seen s v root =
      let f = leaf_found e N P R role edge seen s v in
      let q = here zero role edge seen s f.link root f.sound in
      rw (← f.tree, ← f.flags) ((q, tt), flagged_more Q seen s q)
  visit_reach (suc h) role edge seen s v root =
      let f = inner_found e N P R h role edge seen s v in
      let q = here (suc h) role edge seen s f.link root f.sound in
      let below = row_reach h (λ q edge seen c t seen' o. visit_reach h (Child q) edge seen c o (λ z. never (sym z))) s edge
      (children_of (block e P s)) (set seen s 1) f.walked in
      rw (← f.tree) ((q, below.0), λ g. below.1 (flagged_more Q seen s q g))

  -- every slot of a blob that was walked, its root among them
  pub from_reach : (seen : List ℕ) (r : ℕ) {b : Blob} {seen' : List ℕ} → from_root e N P R seen r ≡ fine b seen' → Live N R r
      → Q r × Reach (slots_of b) seen seen'
  unfolding is_root
  from_reach seen r {b} {seen'} v live =
      let (t, o, q) = root_found e N P R seen r v in
      let h = min (height_of (block e P r)) e.top in
      let w = visit_reach h Root true seen r o (λ z. live) in
      let rest = below h t in
      let first : slots h t ≡ r ∷ rest = own_slots h t ∙ ap (λ (x : ℕ). x ∷ rest) (visit_slot e N P R h Root true seen r o) in
      let at_root : Every Q (r ∷ rest) = subst (λ (l : List ℕ). Every Q l) first w.0 in
      (at_root.0, (subst (λ (l : List ℕ). Every Q l) (sym (blob_slots (record { height = h; tree = t })) ∙ ap slots_of q) w.0, w.1))

  -- every slot of the blobs that the walks from these slots found
  roots_reach : (ss seen : List ℕ) {bs : List Blob} {seen' : List ℕ} → roots e N P R ss seen ≡ fine bs seen' → Every (λ s. s < N) ss
      → Every (λ s. state R s ≡ 2 → Q s) ss × Every (λ b. Every Q (slots_of b)) bs × (Flagged Q seen → Flagged Q seen')
  unfolding roots
  roots_reach [] seen v within =
      let n = fine_same v in
      rw (← n.0, ← n.1) (tt, tt, λ f. f)
  roots_reach (s ∷ ss) seen {bs} {seen'} v within =
      by_test (eqb (state R s) 2)
      (λ t.
      let (b, mid, cs, o, o', q) = roots_root e N P R s ss seen t v in
      let is = eqb-true (state R s) 2 t in
      let one = from_reach seen s o (within.0, omega arith) in
      let more = roots_reach ss mid o' within.1 in
      (((λ z. one.0), more.0), subst (λ (bs : List Blob). Every (λ b. Every Q (slots_of b)) bs) q (one.1.0, more.1), λ f. more.2 (one.1.1 f)))
      (λ t.
      let more = roots_reach ss seen {bs = bs} {seen' = seen'} (sym (roots_other e N P R s ss seen t) ∙ v) within.1 in
      (((λ z. never (sym (eq-eqb (state R s) 2 z) ∙ t)), more.0), more.1, more.2))

  -- what the closing pass says of a slot
  closing_says : (ss seen : List ℕ) → closing e N P R ss seen ≡ Ok tt
      → Every (λ s. (state R s ≡ 0 → zeros (block e P s) ≡ true) × (state R s ≡ 1 → get_or seen s 0 ≡ 1)) ss
  unfolding closing closing_check pick
  closing_says [] seen c = tt
  closing_says (s ∷ ss) seen c =
      let f = first_passed (closing_check e N P R seen s) (closing e N P R ss seen) c in
      let g = must_passed (pick (eqb (state R s) 0) (zeros (block e P s)) true) _ _ f.0 in
      let k = must_passed (pick (eqb (state R s) 1) (eqb (get_or seen s 0) 1) true) _ _ g.1 in (
        ((λ z. rw (eq-eqb (state R s) 0 z) at g.0), (λ z. eqb-true (get_or seen s 0) 1 (rw (eq-eqb (state R s) 1 z) at k.0))),
        closing_says ss seen f.1,
      )

  -- what a pool check that passed says: a free slot is zeros, a live one has Q, and so has every slot of each blob
  pub record Checked (bs : List Blob) : Type 0 where
    pub clean : (x : ℕ) → x < N → state R x ≡ 0 → zeros (block e P x) ≡ true
    pub root : (x : ℕ) → x < N → state R x ≡ 2 → Q x
    pub part : (x : ℕ) → x < N → state R x ≡ 1 → Q x
    pub blobs : Every (λ b. Every Q (slots_of b)) bs

  pub pool_reach : {bs : List Blob} {seen : List ℕ} → pool_check e N P R ≡ fine bs seen → Checked bs
  unfolding pool_check
  pool_reach {bs} {seen} v =
      let (cs, mid, o, q) = and_then_fine (roots e N P R (range 0 N) (replicate N 0)) _ v in
      let (c, w) = passing_fine (closing e N P R (range 0 N) mid) (fine cs mid) q in
      let r = roots_reach (range 0 N) (replicate N 0) o (range_every (λ s. s < N) N 0 (λ x h k. omega arith)) in
      let says = closing_says (range 0 N) mid c in
      record {
        clean = λ x h. (every_range _ N 0 says x (omega arith) (omega arith)).0;
        root = λ x h. every_range _ N 0 r.0 x (omega arith) (omega arith);
        part = λ x h z. r.2 (flagged_none Q N) x ((every_range _ N 0 says x (omega arith) (omega arith)).1 z);
        blobs = subst (λ (bs : List Blob). Every (λ b. Every Q (slots_of b)) bs) (fine_same w).0 r.1;
      }
