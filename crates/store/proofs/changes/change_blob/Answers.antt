-- Refusal 1, or the change in rows that suffice.
use Rattle.store.proofs.Lengths.{most_slots, no_change}
use Rattle.store.proofs.changes.change_blob.Goals as goal

pub returns-in-Err : goal.returns-in-Err
returns-in-Err g c = let w = g.met.C.Change.barred c.args.change c.args.pool.now c.args.records.now in search no_change

pub in_rows-requires : goal.in_rows-requires
in_rows-requires g c = search most_slots
