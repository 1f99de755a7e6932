-- Refusal 1, which a public call makes before it has any rows; and that behind it the largest rows suffice.
use Rattle.std.specs.Prelude.{Err, Ok, Result}
use mathlib.Core.Path.{◌≡◌, refl, ap, ◌∙◌, sym, subst}
use mathlib.Core.Bool.{Bool, true, false}
use mathlib.Core.List.{List}
use Prim.Native.Nat.{ℕ, ◌≤◌}
use native.Mathlib.Omega.{arith}
use Rattle.meaning.specs.declared.Reason.TheVariants.{WrongLengths}
use Rattle.meaning.specs.Edition.{one}
use Rattle.meaning.specs.Refusals.{must, nowhere, Checked}
use Rattle.meaning.specs.Calls.{Outcome, refused, slots_in, sized, opened, length_in, read_in, show_in, audit_in, create_in, length_call, read_call, show_call, audit_call, create_call, after}
use Rattle.meaning.specs.Answers.{answer_of, finish_answer, leaf_answer, read_out, Reads, Ends, Wipes}
use Rattle.meaning.specs.declared.Edition.{Edition}
use Rattle.meaning.specs.declared.Refusal.{Refusal}
use Rattle.laws.proofs.Inversions.{must_passed, passed_faultless}
use Rattle.call_show.specs.place.{Lies}
use Rattle.check_gate.proofs.BehindTheGate.{gate_lengths, gate_barred, sized_whole}

-- the check, as far as the code has come: s says whether the lengths are good
module _ (P R : List ℕ) (s : Bool) (es : s ≡ sized one P R) where
  pub lengths_good : s ≡ true → Ok tt ≡ must (sized one P R) (nowhere WrongLengths) (Ok tt)
  unfolding must
  lengths_good t = rw (← es, t)

  pub lengths_wrong : s ≡ false → (q : Refusal) → q ≡ nowhere WrongLengths → Err q ≡ must (sized one P R) (nowhere WrongLengths) (Ok tt)
  unfolding must
  lengths_wrong t q eq = rw (← es, t, eq)

-- what the check says
module _ (P R : List ℕ) (x : Checked) (ex : x ≡ must (sized one P R) (nowhere WrongLengths) (Ok tt)) where
  -- the lengths are good
  module _ (t : x ≡ Ok tt) where
    pub most_slots : slots_in one P ≤ 65536
    unfolding one
    most_slots = (sized_whole one P R (must_passed (sized one P R) _ _ (sym ex ∙ t)).0).few

  -- or they are not: every call is refused with 1, and nothing changes
  module _ (q : Refusal) (t : x ≡ Err q) where
    not_sized : (sized one P R ≡ false) × (q ≡ nowhere WrongLengths)
    unfolding must
    not_sized = go (sized one P R) (sym ex ∙ t)
      where
        go : (s : Bool) → must s (nowhere WrongLengths) (Ok tt) ≡ Err q → (s ≡ false) × (q ≡ nowhere WrongLengths)
        go true h = passed_faultless h
        go false h = (refl, cc)

    barred : {A : Type 0} (o : Outcome A) → opened one P R o ≡ refused q
    barred o =
        gate_barred one P R (Err q) (gate_lengths one P R (sized one P R) refl (rw not_sized.0 refl) q not_sized.1) q refl o

    pub no_length : (r : ℕ) → Err q ≡ answer_of (length_call one P R r)
    unfolding length_call answer_of
    no_length r = sym (ap answer_of (barred (length_in one (slots_in one P) P R r)))

    pub no_read : (r offset size : ℕ) (out : List ℕ) → Reads (read_call one P R r offset size) (Err q) out out
    unfolding read_call finish_answer read_out
    no_read r offset size out =
        let u = barred (read_in one (slots_in one P) P R r offset size) in
        record { answer = rw u; output = rw u }

    pub no_leaf : (r i : ℕ) → Err q ≡ leaf_answer one (show_call one P R r i)
    unfolding show_call leaf_answer
    no_leaf r i = sym (ap (leaf_answer one) (barred (show_in one (slots_in one P) P R r i)))

    pub no_place : (bytes : ℕ) → Lies (Err q) bytes
    unfolding Lies
    no_place bytes = tt

    pub no_audit : Err q ≡ answer_of (audit_call one P R)
    unfolding audit_call answer_of
    no_audit = sym (ap answer_of (barred (audit_in one (slots_in one P) P R)))

    pub no_create : Ends one answer_of (create_call one P R) P R (Err q) P R
    unfolding create_call answer_of after
    no_create =
        let u = barred (create_in one (slots_in one P) P R) in
        record { answer = rw u; pool = rw u; records = rw u }

    -- a call that changes one blob, which is refused with 1 where the lengths are wrong
    pub no_change : (o : Outcome (Unit {0})) → (sized one P R ≡ false → o ≡ refused (nowhere WrongLengths)) → Ends one answer_of o P R (Err q) P R
    unfolding answer_of after
    no_change o wrong = let u = wrong not_sized.0 in record { answer = rw (u, not_sized.1); pool = rw u; records = rw u }

-- rows of the smallest size suffice
pub few_slots : (P : List ℕ) (n : ℕ) → n ≡ slots_in one P → n ≤ 128 → slots_in one P ≤ 128
few_slots P n en l = omega (arith, en, l)

-- the wipe of any edition, at edition one
pub wipe_one : (e : Edition) → e ≡ one → (P R : List ℕ) (x : Result (Unit {0}) Refusal) (P' R' : List ℕ) → Wipes e P R x P' R' → Wipes one P R x P' R'
wipe_one e ee P R x P' R' h = subst (λ (y : Edition). Wipes y P R x P' R') ee h
