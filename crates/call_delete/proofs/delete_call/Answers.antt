-- The refusal with nothing changed, or every block of the blob gone.
use Rattle.check_survey.proofs.BehindTheSurvey.{noted_heights}
use Rattle.call_delete.proofs.NotedSlotsGo.{delete_refused, delete_whole, delete_heights, delete_done}
use Rattle.call_delete.proofs.delete_call.Goals as goal

pub slice_bounds-clear_all-end : goal.slice_bounds-clear_all-end
slice_bounds-clear_all-end c = search noted_heights

pub clear_all-requires : goal.clear_all-requires
clear_all-requires c =
    record {
      whole = delete_whole _ _ _ _ _ _ _ _ c.reach.ensures _ c.in-Ok.is;
      heights_len = (delete_heights _ _ _ _ _ _ _ _ c.reach.ensures _ c.in-Ok.is, c.requires.scratch_len);
    }

pub returns-in-Err : goal.returns-in-Err
returns-in-Err c = search delete_refused

pub returns-in-Ok : goal.returns-in-Ok
returns-in-Ok c =
    delete_done _ _ _ _ _ _ _ _ c.reach.ensures _ c.in-Ok.is c.requires.proper _ _ c.clear_all.ensures.pool_after c.clear_all.ensures.records_after
