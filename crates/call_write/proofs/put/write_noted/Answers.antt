-- The refusal with nothing changed, or every slot's change stored.
use Rattle.call_write.proofs.put.WrittenSoFar.{noted_refused, noted_leaves, noted_done}
use borrow.Author.Rules.{rules}
use Rattle.call_write.proofs.put.write_noted.Goals as goal
use Rattle.laws.proofs.HandedOn.{handed}

pub returns-in_err-barred : goal.returns-in_err-barred
returns-in_err-barred c = rw (handed c.from_residual.ensures.1) (search (noted_refused, c.in_err-barred.was))

pub write_all-requires : goal.write_all-requires
write_all-requires c = record { proper = search rules; size_value = search rules; whole = search rules; leaves = search (noted_leaves, c.in_ok-barred.was) }

pub returns : goal.returns
returns c = search (noted_done, c.in_ok-barred.was)
