-- The refusal with nothing changed, or what is behind it.
use Rattle.check_survey.proofs.BehindTheSurvey.{noted_row, noted_heights, noted_firsts}
use Rattle.call_resize.proofs.ReachedDecides.{resize_refused, resize_whole, resize_found, resize_row, resize_ends}
use Rattle.call_resize.proofs.resize_call.Goals as goal

pub slice_bounds-resize_found-end : goal.slice_bounds-resize_found-end
slice_bounds-resize_found-end c =
    noted_row _ _ _ _ _ _ _ _ c.reach.ensures _ c.in-Ok.is _ _ _ _ c.requires.rows c.row-1.given

pub slice_bounds-notes-end : goal.slice_bounds-notes-end
slice_bounds-notes-end c =
    noted_heights _ _ _ _ _ _ _ _ c.reach.ensures _ c.in-Ok.is

pub slice_bounds-notes-end-in-Ok : goal.slice_bounds-notes-end-in-Ok
slice_bounds-notes-end-in-Ok c =
    noted_firsts _ _ _ _ _ _ _ _ c.reach.ensures _ c.in-Ok.is

pub resize_found-requires : goal.resize_found-requires
resize_found-requires c =
    let reached = c.in-Ok.is in record {
      proper = c.requires.proper;
      whole = resize_whole _ _ _ _ _ _ _ _ c.reach.ensures _ reached;
      found = resize_found _ _ _ _ _ _ _ _ c.reach.ensures _ reached;
      drafts = c.requires.drafts;
      row_len = resize_row _ _ _ _ _ _ _ _ c.reach.ensures _ reached _ _ _ _ c.requires.rows c.row-1.given;
    }

pub returns-in-Err : goal.returns-in-Err
returns-in-Err c =
    resize_refused _ _ _ _ _ _ _ _ c.reach.ensures _ c.in-Err.is _

pub returns-in-Ok : goal.returns-in-Ok
returns-in-Ok c =
    resize_ends _ _ _ _ _ _ _ _ c.reach.ensures _ c.in-Ok.is _ _ _ _ c.resize_found.ensures
