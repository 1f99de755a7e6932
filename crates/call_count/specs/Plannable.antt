-- What a write is owed before its changes can be counted.
use Rattle.std.specs.Prelude.{◌≡◌, List, ℕ, ◌*◌, ◌<◌, length}
use Rattle.meaning.specs.declared.Edition.{Edition}
use Rattle.plan_write.specs.stretch.{Counted}

-- each slot can be planned: n blocks, rows of n places, and no leaf of the blob is too full
pub record Plannable (e : Edition) (n : ℕ) (P hs fs : List ℕ) : Type 0 where
  pub pool : length P ≡ e.size * n
  pub heights : length hs ≡ n
  pub firsts : length fs ≡ n
  pub each : (s : ℕ) → s < n → Counted e P hs s
