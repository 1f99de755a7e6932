-- No stretch and nothing is stored; else the stored bytes are the planned block's and record's.
use Rattle.plan_write.proofs.patch.PatchedAsPlanned.{leaf_count_lem, pool_stays, records_stay, store_room, store_source, store_young, pool_put, records_put}
use borrow.Author.Rules.{rules}
use Rattle.plan_write.proofs.patch.write_slot.Goals as goal

pub plan_slot-requires : goal.plan_slot-requires
plan_slot-requires c = record { proper = search rules; place = search rules; counted = search leaf_count_lem }

pub returns-in-None : goal.returns-in-None
returns-in-None c =
    let planned = c.in-None.ensures.value in
    record { pool_after = search pool_stays; records_after = search records_stay }

pub store_leaf-requires : goal.store_leaf-requires
store_leaf-requires c =
    let planned = c.in-Some.ensures.value in
    let chosen = c.in-Some.ensures.chosen_at in
    record {
      size_in_bounds = (search rules, search rules);
      count_bound = (search store_room, search store_source);
      i_bound = search store_young;
    }

pub returns-in-Some : goal.returns-in-Some
returns-in-Some c =
    let planned = c.in-Some.ensures.value in
    let chosen = c.in-Some.ensures.chosen_at in
    record { pool_after = search pool_put; records_after = search records_put }
