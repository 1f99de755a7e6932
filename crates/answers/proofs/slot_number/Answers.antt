-- The slot, or the number that stands for none.
use mathlib.Core.Path.{◌∙◌}
use Rattle.answers.proofs.NumbersOfAnswers.{named_number}
use Rattle.answers.proofs.slot_number.Goals as goal

pub returns : goal.returns
returns c = c.unwrap_or.ensures ∙ named_number c.args.named
