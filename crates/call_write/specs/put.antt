-- Write by what is noted of a blob: what it knows of the leaves once all checks are done, and the call.
use Rattle.std.specs.Prelude.{◌≡◌, List, ℕ, ◌<◌, length}
use Rattle.meaning.specs.declared.Edition.{Edition}
use Rattle.meaning.specs.Calls.{Outcome, done}
use Rattle.plan_slot.specs.change.Turns.{over}
use Rattle.plan_write.specs.stretch.{write_plan, Writable}
use Rattle.check_gate.specs.Gate.{through}
use Rattle.check_survey.specs.refusal.{write_barred}

-- each leaf of the blob may be written
pub record Leaves (e : Edition) (n : ℕ) (P R hs fs : List ℕ) : Type 0 where
  pub heights : length hs ≡ n
  pub firsts : length fs ≡ n
  pub each : (s : ℕ) → s < n → Writable e P R hs s

-- the call, by what is noted of a blob of so many bytes: refused so, or the plan of each slot
unfoldable pub write_noted : Edition → (n : ℕ) → (P R hs fs : List ℕ) → (bytes offset : ℕ) → (d : List ℕ) → Outcome (Unit {0})
write_noted e n P R hs fs bytes offset d =
    through (write_barred R hs n bytes offset (length d)) (done tt (over (write_plan e P R hs fs d offset) 0 n))
