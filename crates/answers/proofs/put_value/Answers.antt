-- By cases: the value, or the refusal.
use Rattle.answers.proofs.NumbersOfAnswers.{value_done, value_refused}
use Rattle.answers.proofs.put_value.Goals as goal

pub returns-in-Ok : goal.returns-in-Ok
returns-in-Ok c = search value_done

pub returns-in-Err : goal.returns-in-Err
returns-in-Err c = search value_refused
