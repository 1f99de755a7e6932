-- The refusal with nothing changed, or the blob as it becomes.
use Rattle.call_resize.proofs.found.FoundAnswered.{resize_barred_lem, resize_roomy, resize_done}
use borrow.Author.Rules.{rules}
use Rattle.call_resize.proofs.found.resize_found.Goals as goal
use Rattle.laws.proofs.HandedOn.{handed}

pub barred-requires : goal.barred-requires
barred-requires c = record { proper = search rules; records_len = search rules; leaves_bound = search rules }

pub returns-in_err-barred : goal.returns-in_err-barred
returns-in_err-barred c = rw (handed c.from_residual.ensures.1) (search (resize_barred_lem, c.in_err-barred.was))

pub resize_blob-requires : goal.resize_blob-requires
resize_blob-requires c =
    record {
      proper = c.requires.proper;
      roomy = resize_roomy _ _ _ _ _ _ _ _ _ c.requires.found _ _ c.list-free.ensures.value.0 _ c.barred.ensures c.in_ok-barred.was
          c.requires.whole _ c.list-free.ensures.row_after _ c.leaf_count-want.ensures;
      drafts = c.requires.drafts;
    }

pub returns : goal.returns
returns c =
    resize_done _ _ _ _ _ _ _ _ _ c.requires.found _ _ c.list-free.ensures.value.0 _ c.barred.ensures c.in_ok-barred.was _ _
    c.resize_blob.ensures.pool_after c.resize_blob.ensures.records_after
