-- Refusals 1 and 2, or what the survey says of the rows' first places.
use Rattle.check_survey.proofs.BehindTheSurvey.{seen_reaches, places_reach, heights_reach, firsts_reach, reach_barred, reach_room, reach_fault, reach_blob}
use borrow.Author.Rules.{rules}
use Rattle.check_survey.proofs.reach.Goals as goal
use Rattle.laws.proofs.HandedOn.{handed}

pub slice_bounds-survey_root-end : goal.slice_bounds-survey_root-end
slice_bounds-survey_root-end c = search (seen_reaches, c.in_ok-slots.was)

pub slice_bounds-survey_root-end-2 : goal.slice_bounds-survey_root-end-2
slice_bounds-survey_root-end-2 c = search (places_reach, c.in_ok-slots.was)

pub slice_bounds-survey_root-end-3 : goal.slice_bounds-survey_root-end-3
slice_bounds-survey_root-end-3 c = search (heights_reach, c.in_ok-slots.was)

pub slice_bounds-survey_root-end-4 : goal.slice_bounds-survey_root-end-4
slice_bounds-survey_root-end-4 c = search (firsts_reach, c.in_ok-slots.was)

pub survey_root-requires : goal.survey_root-requires
survey_root-requires c = record { proper = search rules; room = search (reach_room, c.in_ok-slots.was) }

pub returns-in_err-slots : goal.returns-in_err-slots
returns-in_err-slots c = rw (handed c.from_residual.ensures.1) (search (reach_barred, c.in_err-slots.was))

pub returns-in_err-bytes : goal.returns-in_err-bytes
returns-in_err-bytes c = rw (handed c.from_residual-in_err-bytes.ensures.1) (search (reach_fault, c.in_ok-slots.was, c.in_err-bytes.was))

pub returns : goal.returns
returns c = search (reach_blob, c.in_ok-slots.was, c.in_ok-bytes.was)
