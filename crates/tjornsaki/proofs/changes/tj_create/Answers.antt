-- The store's answer as numbers; pool and records as the store left them.
use Rattle.answers.proofs.NumbersOfCalls.{told_numbers_lem}
use Rattle.tjornsaki.proofs.changes.tj_create.Goals as goal

pub returns : goal.returns
returns c = search told_numbers_lem
