-- Checks 2 and 3, then the mark: each way out is a law.
use Rattle.check_blob.proofs.visit.VisitAsDefined.{mark_faulty, mark_passed}
use Rattle.check_blob.proofs.visit.check_and_mark.Goals as goal

pub returns-in_default : goal.returns-in_default
returns-in_default c = search mark_faulty

pub returns : goal.returns
returns c = search mark_passed
