-- A refusal made of the reason and no slot.
use Rattle.meaning.specs.Refusals.{nowhere}
use borrow.Author.Rules.{rules}
use Rattle.meaning.proofs.refuse_nowhere.Goals as goal

pub returns : goal.returns
unfolding nowhere
returns c = search rules
