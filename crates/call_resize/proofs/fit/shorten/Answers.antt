-- The blob is cut as the code below does it, which is as the definition says.
use Rattle.call_resize.proofs.fit.Shorter.{short_place, short_few, short_start, height_read, short_pool, short_records}
use borrow.Author.Rules.{rules}
use Rattle.call_resize.proofs.fit.shorten.Goals as goal

pub height_for-top-requires : goal.height_for-top-requires
height_for-top-requires c = (search rules, search rules, search short_few)

pub block_of-requires : goal.block_of-requires
block_of-requires c = search short_place

pub cut_blob-requires : goal.cut_blob-requires
cut_blob-requires c = record {
  proper = search rules;
  cut_start = search short_start;
  h_value = search height_read;
  kept_len = (search rules, search rules, search rules);
}

pub returns : goal.returns
returns c = record { pool_after = search short_pool; records_after = search short_records }
