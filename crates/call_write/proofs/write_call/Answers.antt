-- The refusal with nothing changed, or what is noted of the blob decides.
use Rattle.check_survey.proofs.BehindTheSurvey.{reached_blob, noted_heights, noted_firsts}
use Rattle.call_write.proofs.ReachedDecides.{write_refused, write_unworn, write_done}
use Rattle.call_write.proofs.write_call.Goals as goal

pub slice_bounds-notes-end : goal.slice_bounds-notes-end
slice_bounds-notes-end c = search noted_heights

pub slice_bounds-notes-end-in-Ok : goal.slice_bounds-notes-end-in-Ok
slice_bounds-notes-end-in-Ok c = search noted_firsts

pub write_noted-requires : goal.write_noted-requires
write_noted-requires c =
    let told = c.in-Ok.is in
    record {
      proper = c.requires.proper;
      size_value = c.requires.size_value;
      whole = (reached_blob _ _ _ _ _ _ _ _ c.reach.ensures _ told).whole;
      unworn = write_unworn _ _ _ _ _ _ _ _ c.reach.ensures _ told c.requires.proper;
    }

pub returns-in-Err : goal.returns-in-Err
returns-in-Err c = search write_refused

pub returns-in-Ok : goal.returns-in-Ok
returns-in-Ok c =
    write_done _ _ _ _ _ _ _ _ c.reach.ensures _ c.in-Ok.is c.requires.proper _ _ _ _ _ c.write_noted.ensures
