-- Refusals 1, 2 and 3: an equation for each way out of the code, and what stands behind the gate for every call.
use Rattle.std.specs.Prelude.{Err, Ok}
use mathlib.Core.Path.{◌≡◌, refl, ap, ◌∙◌, sym}
use mathlib.Core.Bool.{Bool, true, false, not}
use mathlib.Core.List.{List, [], ◌∷◌}
use Prim.Native.Nat.{ℕ, ◌+◌, ◌-◌, ◌*◌, ◌/◌, ◌%◌, ◌≤◌, ◌<◌}
use native.Mathlib.Nat.{div-add-mod'}
use native.Mathlib.Omega.{arith}
use borrow.Author.Tests.{eq-eqb, ne_eqb, le-leb, lt-leb, lt-ltb, le-ltb, leb-true, eqb-true, not-true, not-false}
use lib.Dec.{eqb, ltb}
use lib.ListN.{length}
use Rattle.meaning.specs.declared.Reason.TheVariants.{BadRecord, WrongLengths}
use Rattle.meaning.specs.Lists.{pick, both, range}
use Rattle.meaning.specs.Bytes.{record_at, state_of, state, sound_record}
use Rattle.meaning.specs.Refusals.{at, nowhere}
use Rattle.meaning.specs.Calls.{Outcome, refused, done, refuse_if, slots_in, sized, refuse_bad_record, opened}
use Rattle.meaning.specs.declared.Edition.{Edition}
use Rattle.meaning.specs.declared.Refusal.{Refusal}
use Rattle.meaning.specs.Answers.{answer_of}
use Rattle.laws.proofs.Inversions.{both_true}
use Rattle.laws.proofs.Ranges.{left_step, left_none}
use Rattle.check_gate.specs.Gate.{records_gate, gate, through, Whole, Opened}

-- refusal 1, test by test
module _ (e : Edition) (P R : List ℕ) where
  pub sized_not : (length P % e.size ≡ 0 → ⊥) → false ≡ sized e P R
  unfolding sized both
  sized_not n = simp (ne_eqb (length P % e.size) 0 n)

  module _ (z : length P % e.size ≡ 0) where
    pub sized_none : length P / e.size < 1 → false ≡ sized e P R
    unfolding sized both slots_in
    sized_none l = simp (eq-eqb (length P % e.size) 0 z, lt-leb 1 (length P / e.size) l)

    module _ (s : 1 ≤ length P / e.size) where
      pub sized_many : e.most < length P / e.size → false ≡ sized e P R
      unfolding sized both slots_in
      sized_many l =
          simp (eq-eqb (length P % e.size) 0 z, le-leb 1 (length P / e.size) s, lt-leb (length P / e.size) e.most l)

      pub sized_records : length P / e.size ≤ e.most → eqb (length R) (12 * (length P / e.size)) ≡ sized e P R
      unfolding sized both slots_in
      sized_records l =
          simp (eq-eqb (length P % e.size) 0 z, le-leb 1 (length P / e.size) s, le-leb (length P / e.size) e.most l)

-- what refusal 1 leaves
pub sized_whole : (e : Edition) (P R : List ℕ) → sized e P R ≡ true → Whole e (slots_in e P) P R
unfolding sized slots_in
sized_whole e P R t =
    let a = both_true _ _ t in
    let b = both_true _ _ a.1 in
    let c = both_true _ _ b.1 in
    let z : length P % e.size ≡ 0 = eqb-true _ _ a.0 in
    record {
      pool = omega (arith, div-add-mod' (length P) e.size);
      records = eqb-true _ _ c.1;
      some = leb-true _ _ b.0;
      few = leb-true _ _ c.0;
    }

-- refusal 2: the loop over the slots
module _ (R : List ℕ) (n i : ℕ) (inv : records_gate R 0 n n ≡ records_gate R i (n - i) n) where
  pub records_end : n ≤ i → Ok n ≡ records_gate R 0 n n
  unfolding records_gate answer_of refuse_bad_record
  records_end l = rw (inv, left_none i n l)

  module _ (l : i < n) where
    step : records_gate R 0 n n ≡ answer_of (refuse_bad_record R (i ∷ range (i + 1) (n - (i + 1))) (done n []))
    unfolding records_gate
    step = rw (inv, left_step i n l)

    module _ (r : List ℕ) (er : r ≡ record_at R i) (s : Bool) (es : s ≡ sound_record r) where
      sound_is : sound_record (record_at R i) ≡ s
      sound_is = sym (es ∙ ap sound_record er)

      pub records_bad : not s ≡ true → (q : Refusal) → q ≡ at BadRecord i → Err q ≡ records_gate R 0 n n
      unfolding refuse_bad_record answer_of pick
      records_bad t q eq = rw (step, eq) (simp (sound_is, not-true s t))

      pub records_good : not s ≡ false → records_gate R 0 n n ≡ records_gate R (i + 1) (n - (i + 1)) n
      unfolding records_gate refuse_bad_record pick
      records_good t = rw step (simp (sound_is, not-false s t))

-- the gate
module _ (e : Edition) (P R : List ℕ) (s : Bool) (es : s ≡ sized e P R) where
  pub gate_lengths : not s ≡ true → (q : Refusal) → q ≡ nowhere WrongLengths → Err q ≡ gate e P R
  unfolding gate opened answer_of refuse_if
  gate_lengths t q eq = rw eq (simp (← es, t))

  pub gate_records : not s ≡ false → (x : Opened) → x ≡ records_gate R 0 (length P / e.size) (length P / e.size) → x ≡ gate e P R
  unfolding gate records_gate opened slots_in refuse_if
  gate_records t x ex = ex ∙ simp (← es, t)

  pub gate_length : not s ≡ false → length R ≡ 12 * (length P / e.size)
  unfolding slots_in
  gate_length t = (sized_whole e P R (sym es ∙ not-false s t)).records

-- what stands behind the gate, for any call
pick_through : {A : Type 0} (t : Bool) (a : Outcome ℕ) (b : Outcome A) (q : Refusal) (o : Outcome A)
    → b ≡ through (answer_of a) o → pick t b (refused q) ≡ through (answer_of (pick t a (refused q))) o
unfolding pick answer_of through
pick_through true a b q o e = e
pick_through false a b q o e = refl

records_through : {A : Type 0} (R : List ℕ) (n : ℕ) (ss : List ℕ) (o : Outcome A)
    → refuse_bad_record R ss o ≡ through (answer_of (refuse_bad_record R ss (done n []))) o
unfolding refuse_bad_record answer_of through
records_through R n [] o = refl
records_through R n (s ∷ ss) o = pick_through (sound_record (record_at R s)) _ _ (at BadRecord s) o (records_through R n ss o)

lengths_through : {A : Type 0} (t : Bool) (a : Outcome ℕ) (b o : Outcome A) → b ≡ through (answer_of a) o
    → refuse_if t WrongLengths b ≡ through (answer_of (refuse_if t WrongLengths a)) o
unfolding refuse_if answer_of through
lengths_through true a b o e = refl
lengths_through false a b o e = e

-- a call is what the gate lets through
pub opened_through : {A : Type 0} (e : Edition) (P R : List ℕ) (o : Outcome A) → opened e P R o ≡ through (gate e P R) o
unfolding opened gate
opened_through e P R o =
    lengths_through (not (sized e P R)) _ _ o (records_through R (slots_in e P) (range 0 (slots_in e P)) o)

slots_pick : (t : Bool) (a : Outcome ℕ) (q : Refusal) (m n : ℕ) → (answer_of a ≡ Ok m → m ≡ n) → answer_of (pick t a (refused q)) ≡ Ok m → m ≡ n
unfolding pick answer_of
slots_pick true a q m n h e = h e
slots_pick false a q m n h e = cc

slots_records : (R : List ℕ) (n m : ℕ) (ss : List ℕ) → answer_of (refuse_bad_record R ss (done n [])) ≡ Ok m → m ≡ n
unfolding refuse_bad_record answer_of
slots_records R n m [] e = cc
slots_records R n m (s ∷ ss) e = slots_pick (sound_record (record_at R s)) _ (at BadRecord s) m n (slots_records R n m ss) e

slots_sized : (t : Bool) (a : Outcome ℕ) (m n : ℕ) → (answer_of a ≡ Ok m → m ≡ n) → answer_of (refuse_if (not t) WrongLengths a) ≡ Ok m → (t ≡ true) × (m ≡ n)
unfolding refuse_if answer_of
slots_sized true a m n h e = (refl, h e)
slots_sized false a m n h e = (cc, cc)

-- the gate's number is that of the slots, and pool and records are whole
module _ (e : Edition) (P R : List ℕ) (x : Opened) (ex : x ≡ gate e P R) where
  module _ (n : ℕ) (en : x ≡ Ok n) where
    found : (sized e P R ≡ true) × (n ≡ slots_in e P)
    unfolding gate opened
    found = slots_sized (sized e P R) _ n (slots_in e P) (slots_records R (slots_in e P) n (range 0 (slots_in e P))) (sym ex ∙ en)

    pub gate_slots : n ≡ slots_in e P
    gate_slots = found.1

    pub gate_whole : Whole e n P R
    gate_whole = rw found.1 (sized_whole e P R found.0)

    pub gate_behind : {A : Type 0} (f : ℕ → Outcome A) → opened e P R (f (slots_in e P)) ≡ f n
    unfolding through
    gate_behind f = opened_through e P R (f (slots_in e P)) ∙ rw (← ex, en, found.1)

  pub gate_barred : {A : Type 0} (r : Refusal) → x ≡ Err r → (o : Outcome A) → opened e P R o ≡ refused r
  unfolding through
  gate_barred r er o = opened_through e P R o ∙ rw (← ex, er)

-- refusal 3
module _ (R : List ℕ) (n r : ℕ) where
  pub root_past : n ≤ r → false ≡ both (ltb r n) (eqb (state R r) 2)
  unfolding both
  root_past l = simp (le-ltb r n l)

  pub root_state : r < n → (b : List ℕ) → b ≡ record_at R r → (st : ℕ) → st ≡ state_of b → eqb st 2 ≡ both (ltb r n) (eqb (state R r) 2)
  unfolding both state
  root_state l b eb st es = rw (es, eb) (simp (lt-ltb r n l))
