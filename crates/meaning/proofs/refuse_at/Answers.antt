-- A refusal made of the reason and the slot.
use Rattle.meaning.specs.Refusals.{at}
use borrow.Author.Rules.{rules}
use Rattle.meaning.proofs.refuse_at.Goals as goal

pub returns : goal.returns
unfolding at
returns c = search rules
