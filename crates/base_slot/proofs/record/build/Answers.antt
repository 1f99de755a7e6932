-- The array's four bytes and the eight of the version are the record.
use Rattle.meaning.specs.Lists.{pasted, bytes}
use Rattle.meaning.specs.Bytes.{record_with}
use Rattle.base_slot.proofs.record.build.Goals as goal

pub returns : goal.returns
unfolding pasted bytes record_with
returns c = c.put.ensures
