-- `meaning::refuse` meets its contract: a refusal is its reason and the named slot.
use mathlib.Core.Path.{refl}
use Rattle.meaning.specs.Refusals.{refusal_of}
use Rattle.meaning.proofs.refuse.Goals as goal

pub returns : goal.returns
unfolding refusal_of
returns c = refl
