-- The answer of length, as eight numbers and as the head's four.
use Rattle.tjornsaki.proofs.HeadNumbers.{open_numbers}
use Rattle.tjornsaki.proofs.heads.tj_open_head.Goals as goal

pub returns : goal.returns
returns c = search open_numbers
