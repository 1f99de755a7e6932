-- Refusal 12 first, then 11.
use Rattle.check_survey.proofs.refusal.BarredByTests.{resize_worn, resize_full, resize_none}
use Rattle.check_survey.proofs.refusal.resize.barred.Goals as goal

pub returns-then-is_worn : goal.returns-then-is_worn
returns-then-is_worn c = search resize_worn

pub returns-then-lacks_room : goal.returns-then-lacks_room
returns-then-lacks_room c = search resize_full

pub returns : goal.returns
returns c = search resize_none
