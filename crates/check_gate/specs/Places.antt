-- What a call is lent before refusal 1 is known: rows with a place for each slot that the pool has.
use Rattle.std.specs.Prelude.{◌≡◌, List, ℕ, ◌≤◌, length, replicate}
use Rattle.meaning.specs.Calls.{slots_in}
use Rattle.meaning.specs.declared.Edition.{Edition}

-- a row that starts at zero: each place is 0, and there is one for each slot
pub record Clear (e : Edition) (P row : List ℕ) : Type 0 where
  pub zero : row ≡ replicate (length row) 0
  pub reaches : slots_in e P ≤ length row
