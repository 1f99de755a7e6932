-- What is known of a blob's leaves once the pool check has passed.
use Rattle.std.specs.Prelude.{◌≡◌, false, List, ℕ, ◌<◌, length}
use Rattle.meaning.specs.declared.Edition.{Edition}
use Rattle.check_survey.specs.worn.{worn_among}
use Rattle.plan_write.specs.stretch.{Writable}

-- each leaf of the blob may be written, if the blob is not worn
pub record Unworn (e : Edition) (n : ℕ) (P R hs fs : List ℕ) : Type 0 where
  pub heights : length hs ≡ n
  pub firsts : length fs ≡ n
  pub each : worn_among R hs n ≡ false → (s : ℕ) → s < n → Writable e P R hs s
