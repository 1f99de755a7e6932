-- Check 1, then checks 2 and 3 and the mark: each way out is a law of one visit.
use Rattle.check_blob.proofs.visit.VisitAsDefined.{visit_unlinked, visit_in_pool, visit_in_records, visit_in_flags, visit_linked}
use borrow.Author.Rules.{rules}
use Rattle.check_blob.proofs.visit.visit.Goals as goal

pub returns-in_default : goal.returns-in_default
returns-in_default c = search visit_unlinked

pub check_and_mark-requires : goal.check_and_mark-requires
check_and_mark-requires c = record { proper = search rules; size_in_bounds = (search visit_in_pool, search visit_in_records); slot_in_bounds = search visit_in_flags }

pub returns : goal.returns
returns c = search visit_linked
