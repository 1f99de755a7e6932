-- `meaning::edition_one` meets its contract: the struct's numbers are those of the definition.
use mathlib.Core.Path.{refl}
use Rattle.meaning.specs.Edition.{one}
use Rattle.meaning.proofs.edition_one.Goals as goal

pub returns : goal.returns
unfolding one
returns c = refl
