-- The store's answer as numbers; the output as the store left it.
use Rattle.answers.proofs.NumbersOfCalls.{read_numbers}
use Rattle.tjornsaki.proofs.reads.tj_read.Goals as goal

pub returns : goal.returns
returns c = search read_numbers
