-- The store's answer as numbers.
use Rattle.answers.proofs.NumbersOfCalls.{told_numbers_lem}
use Rattle.tjornsaki.proofs.reads.tj_length.Goals as goal

pub returns : goal.returns
returns c = search told_numbers_lem
