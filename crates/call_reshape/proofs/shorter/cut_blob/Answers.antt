-- What is known of the blob gives all that the loop asks, and that its changes are the definitions'.
use Rattle.call_reshape.proofs.shorter.ReadyToCut.{start_low, start_edge, start_cuts, start_kept, start_here, start_fresh, start_pool, start_records}
use borrow.Author.Rules.{rules}
use Rattle.call_reshape.proofs.shorter.cut_blob.Goals as goal

pub overflow_sub-h : goal.overflow_sub-h
overflow_sub-h c = search start_low

pub keep_left-requires : goal.keep_left-requires
keep_left-requires c = record { proper = search rules; by_index = search start_edge; kept_len = search rules }

pub cut_all-requires : goal.cut_all-requires
cut_all-requires c =
    let pre = c.requires in
    let kept = c.keep_left.ensures in
    record {
      proper = search rules;
      cuts = search start_cuts;
      kept_block = start_kept _ pre.proper _ _ _ _ _ _ _ pre.cut_start _ pre.h_value _ kept;
      whole = search rules;
      by_index = search start_here;
      by_index_2 = search start_fresh;
      payload_len = search rules;
    }

pub returns : goal.returns
returns c =
    let pre = c.requires in
    let kept = c.keep_left.ensures in
    let done = c.cut_all.ensures in record {
      pool_after = start_pool _ pre.proper _ _ _ _ _ _ _ pre.cut_start _ pre.h_value _ kept _ done.pool_after;
      records_after = start_records _ pre.proper _ _ _ _ _ _ _ pre.cut_start _ pre.h_value _ kept _ done.records_after;
    }
