-- From a leaf's place to what show hands out: the part of the pool at that place, or an empty one at its start and the refusal's two numbers.
use Rattle.std.specs.Prelude.{Err, Ok, Result}
use mathlib.Core.Path.{◌≡◌, refl, ap, ◌∙◌, sym}
use mathlib.Core.List.{List, []}
use Prim.Native.Nat.{ℕ, ◌+◌, ◌-◌, ◌*◌, ◌^◌, ◌≤◌, ◌<◌}
use native.Mathlib.Omega.{arith}
use lib.ListN.{take, drop}
use mir.Syntax.{w64}
use mir.Val.{Fits}
use Rattle.meaning.specs.Refusals.{slot_number, number_of}
use Rattle.meaning.specs.Calls.{Outcome, refused, done}
use Rattle.meaning.specs.Answers.{data_start, leaf_answer, shown_at, shown_part, shown_number, shown_slot}
use Rattle.meaning.specs.declared.Edition.{Edition}
use Rattle.meaning.specs.declared.Refusal.{Refusal}
use Rattle.laws.proofs.Parts.{lent_part}
use Rattle.call_show.specs.place.{Lies}

-- an outcome, from the place that the leaf's answer gives
placed_at : (e : Edition) (o : Outcome (ℕ × ℕ)) (a c : ℕ) → Ok (a, c) ≡ leaf_answer e o → a ≡ shown_at e o
unfolding leaf_answer shown_at
placed_at e (refused q) a c h = absurd (let z : ◌≡◌ {A = ℕ} 0 1 = cc in omega arith)
placed_at e (done v cs) a c h =
    let q : ◌≡◌ {A = ℕ × ℕ} (a, c) (data_start e v.0, v.1) = cc in
    ap (λ (p : ℕ × ℕ). p.0) q

placed_part : (e : Edition) (P : List ℕ) (o : Outcome (ℕ × ℕ)) (a c : ℕ) → Ok (a, c) ≡ leaf_answer e o → take (a + c - a) (drop a P) ≡ shown_part e P o
unfolding leaf_answer shown_part
placed_part e P (refused q) a c h = absurd (let z : ◌≡◌ {A = ℕ} 0 1 = cc in omega arith)
placed_part e P (done v cs) a c h =
    let q : ◌≡◌ {A = ℕ × ℕ} (a, c) (data_start e v.0, v.1) = cc in
    lent_part a c P ∙ rw (ap (λ (p : ℕ × ℕ). p.0) q, ap (λ (p : ℕ × ℕ). p.1) q)

placed_number : (e : Edition) (o : Outcome (ℕ × ℕ)) (a c : ℕ) → Ok (a, c) ≡ leaf_answer e o → 0 ≡ shown_number o
unfolding leaf_answer shown_number
placed_number e (refused q) a c h = absurd (let z : ◌≡◌ {A = ℕ} 0 1 = cc in omega arith)
placed_number e (done v cs) a c h = refl

placed_slot : (e : Edition) (o : Outcome (ℕ × ℕ)) (a c : ℕ) → Ok (a, c) ≡ leaf_answer e o → 0xFFFF_FFFF_FFFF_FFFF ≡ shown_slot o
unfolding leaf_answer shown_slot slot_number
placed_slot e (refused q) a c h = absurd (let z : ◌≡◌ {A = ℕ} 0 1 = cc in omega arith)
placed_slot e (done v cs) a c h = refl

refused_place : (e : Edition) (o : Outcome (ℕ × ℕ)) (q : Refusal) → Err q ≡ leaf_answer e o → o ≡ refused q
unfolding leaf_answer
refused_place e (refused r) q h = cc
refused_place e (done v cs) q h = absurd (let z : ◌≡◌ {A = ℕ} 0 1 = cc in omega arith)

-- what a leaf's place says of show's part, of where it starts in a pool that starts at p, and of show's numbers
module _ (e : Edition) (P : List ℕ) (o : Outcome (ℕ × ℕ)) (x : Result (ℕ × ℕ) Refusal) (ex : x ≡ leaf_answer e o) where
  module _ (a c : ℕ) (ea : x ≡ Ok (a, c)) where
    pub shown_at_lem : (p : ℕ) → a + p ≡ p + shown_at e o
    shown_at_lem p = omega (arith, placed_at e o a c (sym ea ∙ ex))

    pub shown_part_lem : take (a + c - a) (drop a P) ≡ shown_part e P o
    shown_part_lem = placed_part e P o a c (sym ea ∙ ex)

    pub shown_nothing_refused : 0 ≡ shown_number o
    shown_nothing_refused = placed_number e o a c (sym ea ∙ ex)

    pub shown_nowhere : 0xFFFF_FFFF_FFFF_FFFF ≡ shown_slot o
    shown_nowhere = placed_slot e o a c (sym ea ∙ ex)

  module _ (q : Refusal) (eq : x ≡ Err q) where
    was_refused : o ≡ refused q
    was_refused = refused_place e o q (sym eq ∙ ex)

    at_start : shown_at e o ≡ 0
    unfolding shown_at
    at_start = rw was_refused

    pub shown_at_start : (p : ℕ) → 0 + p ≡ p + shown_at e o
    shown_at_start p = omega (arith, at_start)

    pub shown_empty : [] ≡ shown_part e P o
    unfolding shown_part
    shown_empty = rw was_refused

    pub shown_number_lem : (n : ℕ) → n ≡ number_of q.reason → n ≡ shown_number o
    unfolding shown_number
    shown_number_lem n en = en ∙ rw was_refused

    pub shown_slot_lem : (s : ℕ) → s ≡ slot_number q.named → s ≡ shown_slot o
    unfolding shown_slot
    shown_slot_lem s es = es ∙ rw was_refused

-- a place that is found lies in the pool
pub placed_within : (x : Result (ℕ × ℕ) Refusal) (a c n : ℕ) → Lies x n → x ≡ Ok (a, c) → a + c ≤ n
unfolding Lies
placed_within x a c n h ex = rw ex at h

pub placed_fits : (x : Result (ℕ × ℕ) Refusal) (a c n : ℕ) → Lies x n → x ≡ Ok (a, c) → n < 2 ^ 64 → Fits w64 (a + c)
placed_fits x a c n h ex l = record { fits = omega (arith, placed_within x a c n h ex) }
