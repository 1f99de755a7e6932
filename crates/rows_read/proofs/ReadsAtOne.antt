-- The reading calls of any edition, at edition one.
use Rattle.std.specs.Prelude.{Result}
use mathlib.Core.Path.{◌≡◌, subst}
use mathlib.Core.List.{List}
use Prim.Native.Nat.{ℕ}
use Rattle.meaning.specs.declared.Refusal.{Refusal}
use Rattle.meaning.specs.Edition.{one}
use Rattle.meaning.specs.Calls.{length_call, read_call, show_call, audit_call}
use Rattle.meaning.specs.Answers.{answer_of, leaf_answer, Reads}
use Rattle.meaning.specs.declared.Edition.{Edition}

module _ (e : Edition) (ee : e ≡ one) (P R : List ℕ) where
  pub length_one : (r : ℕ) (a : Result ℕ Refusal) → a ≡ answer_of (length_call e P R r) → a ≡ answer_of (length_call one P R r)
  length_one r a h = subst (λ (y : Edition). a ≡ answer_of (length_call y P R r)) ee h

  pub read_one : (r offset size : ℕ) (a : Result (Unit {0}) Refusal) (out out' : List ℕ) → Reads (read_call e P R r offset size) a out out'
      → Reads (read_call one P R r offset size) a out out'
  read_one r offset size a out out' h = subst (λ (y : Edition). Reads (read_call y P R r offset size) a out out') ee h

  pub leaf_one : (r i : ℕ) (a : Result (ℕ × ℕ) Refusal) → a ≡ leaf_answer e (show_call e P R r i) → a ≡ leaf_answer one (show_call one P R r i)
  leaf_one r i a h = subst (λ (y : Edition). a ≡ leaf_answer y (show_call y P R r i)) ee h

  pub audit_one : (a : Result ℕ Refusal) → a ≡ answer_of (audit_call e P R) → a ≡ answer_of (audit_call one P R)
  audit_one a h = subst (λ (y : Edition). a ≡ answer_of (audit_call y P R)) ee h
