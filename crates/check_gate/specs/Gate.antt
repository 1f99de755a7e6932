-- Refusals 1 and 2 as the code gives them: the refusal, or the number of slots.
use Rattle.std.specs.Prelude.{◌≡◌, List, [], ℕ, ◌*◌, ◌≤◌, length, Err, Ok, Result}
use Rattle.meaning.specs.Lists.{range}
use Rattle.meaning.specs.Calls.{Outcome, refused, done, refuse_bad_record, opened, slots_in}
use Rattle.meaning.specs.declared.Edition.{Edition}
use Rattle.meaning.specs.Answers.{answer_of}
use Rattle.meaning.specs.declared.Refusal.{Refusal}

-- what the gate answers: the number of slots, or refusal 1 or 2
abbrev pub Opened : Type 0
Opened = Result ℕ Refusal

-- refusal 2 over k slots from i on, else n
unfoldable pub records_gate : List ℕ → (i k n : ℕ) → Opened
records_gate R i k n = answer_of (refuse_bad_record R (range i k) (done n []))

unfoldable pub gate : Edition → (P R : List ℕ) → Opened
gate e P R = answer_of (opened e P R (done (slots_in e P) []))

-- what is behind a gate, or any check
unfoldable pub through : {A B : Type 0} → Result B Refusal → Outcome A → Outcome A
through (Ok v) o = o
through (Err r) o = refused r

-- pool and records of n slots, behind refusals 1 and 2
pub record Whole (e : Edition) (n : ℕ) (P R : List ℕ) : Type 0 where
  pub pool : length P ≡ e.size * n
  pub records : length R ≡ 12 * n
  pub some : 1 ≤ n
  pub few : n ≤ e.most
