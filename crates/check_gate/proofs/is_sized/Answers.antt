-- The check finds this alone; it stands here so that a test changed in the code fails as a goal that is not met.
use borrow.Author.Rules.{rules}
use Rattle.meaning.specs.Lists.{both}
use Rattle.meaning.specs.Calls.{sized, slots_in}
use Rattle.check_gate.proofs.is_sized.Goals as goal

pub returns-else-n-e : goal.returns-else-n-e
unfolding sized slots_in both
returns-else-n-e c = search rules
