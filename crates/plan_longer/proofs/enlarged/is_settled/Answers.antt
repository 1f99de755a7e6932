-- The count decides. The check finds this alone; it stands here so that a comparison changed in the code fails as a goal that is not met.
use borrow.Author.Rules.{rules}
use Rattle.meaning.specs.Lists.{both}
use Rattle.plan_longer.proofs.enlarged.is_settled.Goals as goal

pub returns-then-height_of-eq0 : goal.returns-then-height_of-eq0
unfolding both
returns-then-height_of-eq0 c = search rules
