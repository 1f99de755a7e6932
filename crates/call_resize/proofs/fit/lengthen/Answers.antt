-- The numbers are those of the blob, and what the code below does with them is as the definition says.
use Rattle.call_resize.proofs.fit.Longer.{long_place, long_within, long_whole, long_more, long_few, long_grows, long_towers, long_root, long_here, long_pool, long_records}
use borrow.Author.Rules.{rules}
use Rattle.call_resize.proofs.fit.lengthen.Goals as goal

pub tower_at-t-requires : goal.tower_at-t-requires
tower_at-t-requires c = record { proper = search rules; size_in_bounds = search long_place; leaves_le_want = (search long_more, search long_few) }

pub overflow_sub-g : goal.overflow_sub-g
overflow_sub-g c = search long_more

pub grow-requires : goal.grow-requires
grow-requires c = record {
  proper = search rules;
  grows = search long_grows;
  towers = search long_towers;
  root_block = search long_root;
  whole = search long_whole;
  all_here = search long_here;
  kept_len = (search rules, search rules, search rules, search long_within);
}

pub returns : goal.returns
returns c =
    let p = c.requires.proper in
    let longer = c.requires.longer in record {
      pool_after = long_pool _ p _ _ _ _ _ _ _ _ _ _ longer _ c.tower_at-t.ensures _ c.grow.ensures.pool_after;
      records_after = long_records _ p _ _ _ _ _ _ _ _ _ _ longer _ c.tower_at-t.ensures _ c.grow.ensures.records_after;
    }
