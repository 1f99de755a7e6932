-- The height is byte 2.
use Rattle.meaning.specs.Bytes.{height_of}
use borrow.Author.Rules.{rules}
use Rattle.base_slot.proofs.fields.height_of.Goals as goal

pub returns : goal.returns
unfolding height_of
returns c = search rules
