-- What delete makes of each slot, by the row of heights.
use Rattle.std.specs.Prelude.{List, [], ◌∷◌, ℕ, eqb, get_or}
use Rattle.meaning.specs.Lists.{pick}
use Rattle.meaning.specs.Change.{Change, freed}
use Rattle.meaning.specs.declared.Edition.{Edition}

-- a block of the blob goes; any other slot stays
unfoldable pub clear_plan : Edition → (R heights : List ℕ) → ℕ → List Change
clear_plan e R heights s = pick (eqb (get_or heights s 0) 0) [] (freed e R s ∷ [])
