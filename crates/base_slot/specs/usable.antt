-- Usable slots from one on.
use Rattle.std.specs.Prelude.{List, ℕ}
use Rattle.meaning.specs.Lists.{range, filter}
use Rattle.meaning.specs.Bytes.{usable_slot}

-- the usable ones of k slots from i on
unfoldable pub usable_from : List ℕ → (i k : ℕ) → List ℕ
usable_from R i k = filter (usable_slot R) (range i k)
