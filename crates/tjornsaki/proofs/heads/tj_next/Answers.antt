-- How many bytes were handed out, and the place behind them.
use Rattle.tjornsaki.proofs.HeadNumbers.{next_numbers}
use Rattle.tjornsaki.proofs.heads.tj_next.Goals as goal

pub returns : goal.returns
returns c = search next_numbers
