-- By the fourth number.
use Rattle.tjornsaki.proofs.HeadNumbers.{length_open, length_shut}
use Rattle.tjornsaki.proofs.heads.open_length.Goals as goal

pub returns-then-is_open-eq1 : goal.returns-then-is_open-eq1
returns-then-is_open-eq1 c = search length_open

pub returns-else-is_open-eq1 : goal.returns-else-is_open-eq1
returns-else-is_open-eq1 c = search length_shut
