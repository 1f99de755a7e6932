-- Refusal 1, or none.
use Rattle.store.proofs.Lengths.{lengths_good, lengths_wrong}
use Rattle.store.proofs.check_lengths.Goals as goal

pub returns-then-is_sized : goal.returns-then-is_sized
returns-then-is_sized c = search lengths_good

pub returns : goal.returns
returns c = search lengths_wrong
