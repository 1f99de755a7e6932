-- Refusal 12 first, then 10.
use Rattle.check_survey.proofs.refusal.BarredByTests.{write_worn, write_past, write_none}
use Rattle.check_survey.proofs.refusal.write.barred.Goals as goal

pub returns-then-is_worn : goal.returns-then-is_worn
returns-then-is_worn c = search write_worn

pub returns-then-not-lies_within : goal.returns-then-not-lies_within
returns-then-not-lies_within c = search write_past

pub returns : goal.returns
returns c = search write_none
