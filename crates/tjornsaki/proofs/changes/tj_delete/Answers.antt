-- The store's answer as numbers; pool and records as the store left them.
use Rattle.answers.proofs.NumbersOfCalls.{change_numbers_lem}
use Rattle.tjornsaki.proofs.changes.tj_delete.Goals as goal

pub returns : goal.returns
returns c = search change_numbers_lem
