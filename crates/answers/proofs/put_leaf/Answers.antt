-- By cases: start and count, or the refusal.
use Rattle.answers.proofs.NumbersOfAnswers.{leaf_at_lem, leaf_refused}
use Rattle.answers.proofs.put_leaf.Goals as goal

pub returns-in-Ok : goal.returns-in-Ok
returns-in-Ok c = search leaf_at_lem

pub returns-in-Err : goal.returns-in-Err
returns-in-Err c = search leaf_refused
