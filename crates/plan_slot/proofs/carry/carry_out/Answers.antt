-- Each case stores what the turn says, with the version that the slot's record has, or one more.
use Rattle.plan_slot.proofs.carry.TurnCarriedOut.{takes_fits, renews_fits, stays_pool, stays_records, goes_pool, goes_records}
use Rattle.plan_slot.proofs.carry.TurnCarriedOut.{takes_pool, takes_records, renews_pool, renews_records}
use borrow.Author.Rules.{rules}
use Rattle.plan_slot.proofs.carry.carry_out.Goals as goal

pub overflow_add-version : goal.overflow_add-version
overflow_add-version c =
    takes_fits _ _ _ c.record_of-line.ensures.0 _ _ c.version_of-version.ensures c.requires.rises _ c.in-Takes.is

pub put_cell-requires : goal.put_cell-requires
put_cell-requires c = record { proper = search rules; places = search rules; slot_bound = (search rules, search rules) }

pub overflow_add-version-in-Renews : goal.overflow_add-version-in-Renews
overflow_add-version-in-Renews c =
    renews_fits _ _ _ c.record_of-line.ensures.0 _ _ c.version_of-version.ensures c.requires.rises _ c.in-Renews.is

pub put_cell-requires-in-Renews : goal.put_cell-requires-in-Renews
put_cell-requires-in-Renews c = record { proper = search rules; places = search rules; slot_bound = (search rules, search rules) }

pub returns-in-Stays : goal.returns-in-Stays
returns-in-Stays c = record { pool_after = search stays_pool; records_after = search stays_records }

pub returns-in-Goes : goal.returns-in-Goes
returns-in-Goes c =
    record {
      pool_after = goes_pool _ _ _ _ _ c.in-Goes.is _ _ c.put_free.ensures.pool_after;
      records_after = goes_records _ _ _ _ _ _ c.record_of-line.ensures.0 _ c.version_of-version.ensures c.in-Goes.is _ c.put_free.ensures.records_after;
    }

pub returns-in-Takes : goal.returns-in-Takes
returns-in-Takes c =
    let its = c.record_of-line.ensures.0 in
    let same = c.version_of-version.ensures in record {
      pool_after = takes_pool _ _ _ _ _ _ its _ same _ c.in-Takes.is _ _ c.put_cell.ensures.pool_after;
      records_after = takes_records _ _ _ _ _ _ its _ same _ c.in-Takes.is _ c.put_cell.ensures.records_after;
    }

pub returns-in-Renews : goal.returns-in-Renews
returns-in-Renews c =
    let its = c.record_of-line.ensures.0 in
    let same = c.version_of-version.ensures in record {
      pool_after = renews_pool _ _ _ _ _ _ its _ same _ c.in-Renews.is _ _ c.put_cell-in-Renews.ensures.pool_after;
      records_after = renews_records _ _ _ _ _ _ its _ same _ c.state_of-state.ensures _ c.in-Renews.is _ c.put_cell-in-Renews.ensures.records_after;
    }
