-- What becomes of a live slot whose block is resized: its change, by height and count alone.
use Rattle.std.specs.Prelude.{List, [], ◌∷◌, ℕ, eqb, length}
use Rattle.meaning.specs.declared.Edition.{Edition}
use Rattle.meaning.specs.Lists.{pick, both}
use Rattle.meaning.specs.Bytes.{Cell, height_of, count_of, state}
use Rattle.meaning.specs.Change.{Change, renewed}

-- slot s, whose block is b, gets the cell c: nothing changes if height and count stay
unfoldable pub renewal : Edition → (R : List ℕ) → (s : ℕ) → (b : List ℕ) → Cell → List Change
renewal e R s b c = pick (both (eqb c.height (height_of b)) (eqb (length c.items) (count_of b))) [] (renewed e R (state R s) s c ∷ [])
