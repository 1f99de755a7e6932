-- By cases: no value, or the refusal.
use Rattle.answers.proofs.NumbersOfAnswers.{done_done, done_refused}
use Rattle.answers.proofs.put_done.Goals as goal

pub returns-in-Ok : goal.returns-in-Ok
returns-in-Ok c = search done_done

pub returns-in-Err : goal.returns-in-Err
returns-in-Err c = search done_refused
