-- The store's answer as numbers; pool and records as the store left them.
use Rattle.answers.proofs.NumbersOfCalls.{wipe_numbers}
use Rattle.tjornsaki.proofs.changes.tj_wipe.Goals as goal

pub returns : goal.returns
returns c = search wipe_numbers
