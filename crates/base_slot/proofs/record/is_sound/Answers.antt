-- The last test decides. The check finds this alone; it stands here so that a test changed in the code fails as a goal that is not met.
use borrow.Author.Rules.{rules}
use Rattle.meaning.specs.Lists.{both, pick}
use Rattle.meaning.specs.Bytes.{sound_record}
use Rattle.base_slot.proofs.record.is_sound.Goals as goal

pub returns-else-state-eq0 : goal.returns-else-state-eq0
unfolding sound_record both pick
returns-else-state-eq0 c = search rules
