-- By height.
use Rattle.laws.proofs.Checks.{most_leaf, most_inner}
use Rattle.base_block.proofs.forms.most_of.Goals as goal

pub returns-then-h-eq0 : goal.returns-then-h-eq0
returns-then-h-eq0 c = search most_leaf

pub returns-else-h-eq0 : goal.returns-else-h-eq0
returns-else-h-eq0 c = search most_inner
