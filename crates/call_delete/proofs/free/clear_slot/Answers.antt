-- The height noted decides: the slot stays, or its block goes.
use Rattle.call_delete.proofs.free.FreedSoFar.{pool_stays, records_stay, clear_places, clear_pool, clear_records}
use Rattle.call_delete.proofs.free.clear_slot.Goals as goal

pub returns-then-heights-i-eq0 : goal.returns-then-heights-i-eq0
returns-then-heights-i-eq0 c = record { pool_after = search pool_stays; records_after = search records_stay }

pub put_free-requires : goal.put_free-requires
put_free-requires c = search clear_places

pub returns : goal.returns
returns c = record { pool_after = search clear_pool; records_after = search clear_records }
