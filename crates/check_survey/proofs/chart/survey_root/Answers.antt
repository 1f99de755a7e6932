-- Refusal 3, or the pool check's fault; behind them the sites may be noted, and then the blob is known.
use Rattle.check_survey.proofs.chart.BlobKnown.{room_sized, unrooted, rooted_fault, rooted_sites, rooted_known}
use mathlib.Core.Path.{ap}
use mathlib.Core.Bool.{not}
use borrow.Author.Rules.{rules}
use Rattle.check_survey.proofs.chart.survey_root.Goals as goal

pub returns-then-not-is_root : goal.returns-then-not-is_root
returns-then-not-is_root c = search unrooted

pub check-walked-requires : goal.check-walked-requires
check-walked-requires c = record { proper = search rules; sized = search room_sized; n_le_most = search rules }

pub returns-in_default : goal.returns-in_default
returns-in_default c = search rooted_fault

pub note_sites-requires : goal.note_sites-requires
note_sites-requires c =
    record {
      proper = c.requires.proper;
      sites_start = rooted_sites _ _ _ _ _ _ c.is_root.ensures (ap not c.if-not-is_root.false) _ _ _ _ c.check-walked.ensures _ _ c.in-Ok.is c.requires.proper _ _ _ c.requires.room;
    }

pub returns : goal.returns
returns c = search rooted_known
