-- What was built in the scratch is what is stored.
use Rattle.plan_slot.proofs.change.SlotLoop.{block_stored}
use borrow.Author.Rules.{rules}
use Rattle.plan_slot.proofs.change.put_cell.Goals as goal

pub returns : goal.returns
returns c = record { pool_after = search block_stored; records_after = search rules }
