-- A record is the slot's part of the records.
use Rattle.meaning.specs.Bytes.{record_at}
use borrow.Author.Rules.{rules}
use Rattle.base_slot.proofs.slot.record_of.Goals as goal

pub returns : goal.returns
unfolding record_at
returns c = search rules
