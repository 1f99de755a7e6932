-- The eight numbers of each call, from the store's answer and what was put into the lent answer.
use Rattle.std.specs.Prelude.{Result}
use mathlib.Core.Path.{◌≡◌, ap, ◌∙◌}
use mathlib.Core.List.{List}
use Prim.Native.Nat.{ℕ}
use Rattle.meaning.specs.declared.Refusal.{Refusal}
use Rattle.meaning.specs.Calls.{Outcome}
use Rattle.meaning.specs.Answers.{answer_of, leaf_answer, Reads, Ends, Wipes}
use Rattle.meaning.specs.Answers.{value_said, done_said, leaf_said}
use Rattle.meaning.specs.declared.Edition.{Edition}
use Rattle.answers.specs.Numbers.{numbers, told_numbers, change_numbers, finish_numbers, leaf_numbers, ReadNumbers, WipeNumbers}

module _ (a : List ℕ) where
  pub told_numbers_lem : (o : Outcome ℕ) (x : Result ℕ Refusal) → x ≡ answer_of o → a ≡ numbers (value_said x) → a ≡ told_numbers o
  unfolding told_numbers
  told_numbers_lem o x e ea = ea ∙ ap (λ (y : Result ℕ Refusal). numbers (value_said y)) e

  -- of length, and of audit
  pub length_numbers_lem : (o : Outcome ℕ) (x : Result ℕ Refusal) → x ≡ answer_of o → a ≡ numbers (value_said x) → a ≡ told_numbers o
  length_numbers_lem = told_numbers_lem

  pub audit_numbers_lem : (o : Outcome ℕ) (x : Result ℕ Refusal) → x ≡ answer_of o → a ≡ numbers (value_said x) → a ≡ told_numbers o
  audit_numbers_lem = told_numbers_lem

  pub leaf_numbers_lem : (e : Edition) (o : Outcome (ℕ × ℕ)) (x : Result (ℕ × ℕ) Refusal) → x ≡ leaf_answer e o → a ≡ numbers (leaf_said x) → a ≡ leaf_numbers e o
  unfolding leaf_numbers
  leaf_numbers_lem e o x ex ea = ea ∙ ap (λ (y : Result (ℕ × ℕ) Refusal). numbers (leaf_said y)) ex

  pub read_numbers : (o : Outcome (List ℕ)) (x : Result (Unit {0}) Refusal) (out out' : List ℕ) → Reads o x out out' → a ≡ numbers (done_said x)
      → ReadNumbers o a out out'
  unfolding finish_numbers
  read_numbers o x out out' h ea = record { answer = ea ∙ ap (λ (y : Result (Unit {0}) Refusal). numbers (done_said y)) h.answer; output = h.output }

  module _ (e : Edition) (P R P' R' : List ℕ) where
    pub wipe_numbers : (x : Result (Unit {0}) Refusal) → Wipes e P R x P' R' → a ≡ numbers (done_said x) → WipeNumbers e P R a P' R'
    wipe_numbers x h ea =
        record {
          answer = ea ∙ ap (λ (y : Result (Unit {0}) Refusal). numbers (done_said y)) h.answer;
          pool = h.pool;
          records = h.records;
        }

    pub create_numbers_lem : (o : Outcome ℕ) (x : Result ℕ Refusal) → Ends e answer_of o P R x P' R' → a ≡ numbers (value_said x)
        → Ends e told_numbers o P R a P' R'
    unfolding told_numbers
    create_numbers_lem o x h ea =
        record {
          answer = ea ∙ ap (λ (y : Result ℕ Refusal). numbers (value_said y)) h.answer;
          pool = h.pool;
          records = h.records;
        }

    pub change_numbers_lem : (o : Outcome (Unit {0})) (x : Result (Unit {0}) Refusal) → Ends e answer_of o P R x P' R' → a ≡ numbers (done_said x)
        → Ends e change_numbers o P R a P' R'
    unfolding change_numbers
    change_numbers_lem o x h ea =
        record {
          answer = ea ∙ ap (λ (y : Result (Unit {0}) Refusal). numbers (done_said y)) h.answer;
          pool = h.pool;
          records = h.records;
        }
