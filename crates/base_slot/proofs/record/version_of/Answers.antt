-- The version is the number in bytes 4 to 11.
use Rattle.meaning.specs.Bytes.{recorded_of}
use borrow.Author.Rules.{rules}
use Rattle.base_slot.proofs.record.version_of.Goals as goal

pub returns : goal.returns
unfolding recorded_of
returns c = search rules
