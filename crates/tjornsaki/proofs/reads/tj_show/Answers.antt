-- The store's answer as numbers.
use Rattle.answers.proofs.NumbersOfCalls.{leaf_numbers_lem}
use Rattle.tjornsaki.proofs.reads.tj_show.Goals as goal

pub returns : goal.returns
returns c = search leaf_numbers_lem
