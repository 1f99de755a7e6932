-- The state is byte 2.
use mathlib.Core.Path.{refl}
use Rattle.meaning.specs.Bytes.{state_of}
use Rattle.base_slot.proofs.record.state_of.Goals as goal

pub returns : goal.returns
unfolding state_of
returns c = refl
