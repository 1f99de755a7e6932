-- The array as it is written.
use Rattle.answers.proofs.NumbersOfAnswers.{put_values}
use Rattle.answers.proofs.put_values.Goals as goal

pub returns : goal.returns
returns c = search put_values
