-- The left edge of a blob by first children.
use Rattle.std.specs.Prelude.{List, ℕ, zero, suc}
use Rattle.meaning.specs.declared.Edition.{Edition}
use Rattle.meaning.specs.Lists.{part, number}
use Rattle.meaning.specs.Bytes.{block}

-- the slot so many steps of first children below the block in slot s
unfoldable pub first_below : (e : Edition) (P : List ℕ) (s k : ℕ) → ℕ
first_below e P s zero = s
first_below e P s (suc k) = number (part 16 4 (block e P (first_below e P s k)))
