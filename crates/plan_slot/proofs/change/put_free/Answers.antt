-- The scratch cleared is what is stored.
use Rattle.plan_slot.proofs.change.SlotLoop.{zeros_stored}
use borrow.Author.Rules.{rules}
use Rattle.plan_slot.proofs.change.put_free.Goals as goal

pub returns : goal.returns
returns c = record { pool_after = search zeros_stored; records_after = search rules }
