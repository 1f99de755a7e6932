-- Create: the changes of a new blob are one change, at the lowest usable slot.
use Rattle.std.specs.Prelude.{Err, Ok}
use mathlib.Core.Path.{◌≡◌, refl, ap, ◌∙◌, sym}
use mathlib.Core.Bool.{Bool, true, false}
use mathlib.Core.List.{List, [], ◌∷◌, ◌++◌}
use Prim.Native.Nat.{ℕ, zero, suc, ◌+◌, ◌-◌, ◌*◌, ◌^◌, ◌≤◌, ◌<◌}
use native.Mathlib.Omega.{arith}
use borrow.Author.Tests.{eq-eqb, ne_eqb, eqb-true, eqb-false, ltb-true, le-ltb}
use lib.Dec.{eqb, ltb}
use lib.ListN.{length, get_or}
use mir.Syntax.{w64}
use mir.Val.{Fits}
use Rattle.std.specs.Prelude.{Option, None, Some, slice_get}
use Rattle.meaning.specs.declared.Reason.TheVariants.{NoRoom}
use Rattle.meaning.specs.Lists.{pick, range, filter, joined}
use Rattle.meaning.specs.Edition.{Proper}
use Rattle.meaning.specs.Bytes.{encoded, block_bytes, item_bytes, record_at, record_of, recorded_of, recorded, state, usable_slot, last_version}
use Rattle.meaning.specs.Tree.{held}
use Rattle.meaning.specs.Refusals.{nowhere}
use Rattle.meaning.specs.Change.{Change, put, puts, renewed, changed, changed_by}
use Rattle.meaning.specs.Resize.{lowest}
use Rattle.meaning.specs.Calls.{done, refuse_if, usable, refuse_full, become, create_on, after}
use Rattle.meaning.specs.Answers.{answer_of, Ends}
use Rattle.meaning.specs.declared.Edition.{Edition}
use Rattle.meaning.specs.declared.Refusal.{Refusal}
use Rattle.laws.proofs.Inversions.{by_test, both_true}
use Rattle.laws.proofs.Codec.{version_is}
use Rattle.check_gate.specs.Gate.{Whole}
use Rattle.check_blob.proofs.visit.VisitAsDefined.{slot_fits}
use Rattle.base_slot.specs.usable.{usable_from}
use Rattle.base_slot.proofs.usable.UsableInOrder.{usable_all}
use Rattle.plan_slot.specs.change.Places.{Places}
use Rattle.plan_slot.specs.change.Turns.{over}
use Rattle.plan_slot.proofs.change.SlotLoop.{changes_over}

le_but : (i s : ℕ) → i ≤ s → (i ≡ s → ⊥) → suc i ≤ s
le_but i s a z = omega arith

first_picked : (t : Bool) (x : ℕ) (l : List ℕ) (s : ℕ) (rest : List ℕ) → t ≡ true → pick t (x ∷ l) l ≡ s ∷ rest → x ≡ s
unfolding pick
first_picked true x l s rest t e = cc
first_picked false x l s rest t e = cc

rest_picked : (t : Bool) (x : ℕ) (l m : List ℕ) → t ≡ false → pick t (x ∷ l) l ≡ m → l ≡ m
unfolding pick
rest_picked true x l m t e = cc
rest_picked false x l m t e = e

-- a plan that changes one slot only
over_empty : (plan : ℕ → List Change) (i k : ℕ) → ((j : ℕ) → i ≤ j → plan j ≡ []) → over plan i k ≡ []
unfolding over joined range
over_empty plan i zero h = refl
over_empty plan i (suc k) h = rw (h i (omega arith)) (over_empty plan (suc i) k (λ j l. h j (omega arith)))

over_more : (plan : ℕ → List Change) (i k : ℕ) → over plan i (suc k) ≡ plan i ++ over plan (suc i) k
unfolding over joined range
over_more plan i k = refl

pub over_one : (plan : ℕ → List Change) (c : Change) (s i k : ℕ) → i ≤ s → s < i + k → plan s ≡ c ∷ []
    → ((j : ℕ) → (j ≡ s → ⊥) → plan j ≡ []) → over plan i k ≡ c ∷ []
over_one plan c s i zero a b p h = absurd (omega arith)
over_one plan c s i (suc k) a b p h =
    by_test (eqb i s)
    (λ t. let z : i ≡ s = eqb-true i s t in
    rw (over_more plan i k, z, p, over_empty plan (suc s) k (λ j l. h j (λ q. omega arith))))
    (λ t. let z : i ≡ s → ⊥ = eqb-false i s t in
    rw (over_more plan i k, h i z) (over_one plan c s (suc i) k (le_but i s a z) (omega arith) p h))

-- the lowest of the usable slots is one
first_found : (f : ℕ → Bool) (i k s : ℕ) (rest : List ℕ) → filter f (range i k) ≡ s ∷ rest → (f s ≡ true) × (s < i + k)
unfolding filter range
first_found f i zero s rest e = absurd (let z : ◌≡◌ {A = ℕ} 0 1 = cc in omega arith)
first_found f i (suc k) s rest e =
    by_test (f i)
    (λ t. let z : i ≡ s = first_picked (f i) i (filter f (range (suc i) k)) s rest t e in (rw (← z) t, omega arith))
    (λ t. let w = first_found f (suc i) k s rest (rest_picked (f i) i (filter f (range (suc i) k)) (s ∷ rest) t e) in (w.0, omega (arith, w.1)))

at_first : (l : List ℕ) (s : ℕ) → Some s ≡ slice_get l 0 → (rest : List ℕ) × (l ≡ s ∷ rest)
at_first [] s e = absurd (let z : ◌≡◌ {A = ℕ} 0 1 = cc in omega arith)
at_first (x ∷ l) s e = (l, cc)

at_none : (l : List ℕ) → None ≡ slice_get l 0 → l ≡ []
at_none [] e = refl
at_none (x ∷ l) e = absurd (let z : ◌≡◌ {A = ℕ} 0 1 = cc in omega arith)

module _ (e : Edition) (p : Proper e) (n : ℕ) (P R : List ℕ) (w : Whole e n P R) (x : Option ℕ) (ex : x ≡ slice_get (usable_from R 0 n) 0) where
  pub create_full : x ≡ None → (q : Refusal) → q ≡ nowhere NoRoom → Ends e answer_of (create_on e n P R []) P R (Err q) P R
  unfolding create_on refuse_full refuse_if answer_of after
  create_full z q eq =
      let u : usable e n P R ≡ [] = sym (usable_all e n P R) ∙ at_none (usable_from R 0 n) (sym z ∙ ex) in
      record { answer = rw (eq, u); pool = rw u; records = rw u }

  module _ (s : ℕ) (es : x ≡ Some s) where
    slot : (rest : List ℕ) × (usable_from R 0 n ≡ s ∷ rest)
    slot = at_first (usable_from R 0 n) s (sym es ∙ ex)

    is_usable : (usable_slot R s ≡ true) × (s < 0 + n)
    unfolding usable_from
    is_usable = first_found (usable_slot R) 0 n s slot.0 slot.1

    inside : s < n
    inside = omega (arith, is_usable.1)

    pub create_line : 12 * s + 12 ≤ length R
    create_line = slot_fits 12 n s R w.records inside

    pub create_places : (scratch : List ℕ) → length scratch ≡ e.size → Places e P R scratch s
    create_places scratch l = record { block = slot_fits e.size n s P w.pool inside; line = create_line; scratch = l }

    pub create_small : s < 2 ^ 32
    create_small = omega (arith, inside, w.few, p.small)

    module _ (rb : List ℕ) (er : rb ≡ record_at R s) (v : ℕ) (ev : v ≡ recorded_of rb) where
      pub create_fits : Fits w64 (v + 1)
      unfolding usable_slot last_version
      create_fits =
          let b : recorded R s < 2 ^ 64 - 1 = ltb-true (recorded R s) (2 ^ 64 - 1) (both_true (eqb (state R s) 0) _ is_usable.0).1 in
          record { fits = omega (arith, version_is R s rb er v ev) }

      change : become e n P R 2 [] ((s, record { height = 0; items = [] }) ∷ []) ≡ renewed e R 2 s (record { height = 0; items = [] }) ∷ []
      unfolding become changed held pick
      change =
          changes_over e R 2 (held []) (held ((s, record { height = 0; items = [] }) ∷ [])) 0 n
          ∙ over_one (λ j. changed e R 2 j (held [] j) (held ((s, record { height = 0; items = [] }) ∷ []) j)) (renewed e R 2 s (record { height = 0; items = [] })) s 0 n
          (omega arith) (omega (arith, inside)) (simp (eq-eqb s s refl)) (λ j d. simp (ne_eqb s j (λ q. d (sym q))))

      outcome : create_on e n P R [] ≡ done s (renewed e R 2 s (record { height = 0; items = [] }) ∷ [])
      unfolding create_on refuse_full refuse_if lowest
      outcome =
          let u : usable e n P R ≡ s ∷ slot.0 = sym (usable_all e n P R) ∙ slot.1 in
          let f : ltb (length (usable e n P R)) 1 ≡ false = le-ltb (length (usable e n P R)) 1 (omega (arith, ap length u)) in
          let l : get_or (usable e n P R) 0 (2 ^ 32) ≡ s = rw u in
          rw (f, l, change)

      pub create_done : (P' R' none : List ℕ) → none ≡ [] → P' ≡ put e.size s (block_bytes e 0 0 s (v + 1) none) P → R' ≡ put 12 s (record_of 2 (v + 1)) R
          → Ends e answer_of (create_on e n P R []) P R (Ok s) P' R'
      unfolding answer_of after changed_by puts renewed encoded item_bytes
      create_done P' R' none en ep er' =
          record {
            answer = rw outcome;
            pool = ep ∙ rw (en, version_is R s rb er v ev, outcome);
            records = er' ∙ rw (version_is R s rb er v ev, outcome);
          }
