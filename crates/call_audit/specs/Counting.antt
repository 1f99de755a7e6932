-- Counting live slots from one on.
use Rattle.std.specs.Prelude.{not, List, ℕ, eqb, length}
use Rattle.meaning.specs.Lists.{range, filter}
use Rattle.meaning.specs.Bytes.{state}

-- how many of k slots from i on are live
unfoldable pub live_from : List ℕ → (i k : ℕ) → ℕ
live_from R i k = length (filter (λ s. not (eqb (state R s) 0)) (range i k))
