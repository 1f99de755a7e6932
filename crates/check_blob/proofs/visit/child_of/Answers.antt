-- Four bytes of the block.
use Rattle.check_blob.proofs.visit.VisitAsDefined.{child_is}
use Rattle.check_blob.proofs.visit.child_of.Goals as goal

pub returns : goal.returns
returns c = search child_is
