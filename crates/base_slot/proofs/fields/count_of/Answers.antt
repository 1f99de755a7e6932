-- The count is byte 3.
use Rattle.meaning.specs.Bytes.{count_of}
use borrow.Author.Rules.{rules}
use Rattle.base_slot.proofs.fields.count_of.Goals as goal

pub returns : goal.returns
unfolding count_of
returns c = search rules
