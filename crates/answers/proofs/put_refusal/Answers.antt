-- The refusal's number, and its slot as a number.
use Rattle.answers.proofs.NumbersOfAnswers.{put_refusal}
use Rattle.answers.proofs.put_refusal.Goals as goal

pub returns : goal.returns
returns c = search put_refusal
