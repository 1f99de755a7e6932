-- To paste at width * slot is to put that slot.
use Rattle.meaning.specs.Change.{put}
use borrow.Author.Rules.{rules}
use Rattle.base_slot.proofs.slot.put_in.Goals as goal

pub returns : goal.returns
unfolding put
returns c = search rules
