-- Each way out is a law of check 1.
use Rattle.check_blob.proofs.visit.VisitAsDefined.{link_root, link_past, link_state, link_seen, link_free, link_good}
use Rattle.check_blob.proofs.visit.check_link.Goals as goal

pub returns-in_default : goal.returns-in_default
returns-in_default c = search link_root

pub returns-then-n-slot : goal.returns-then-n-slot
returns-then-n-slot c = search link_past

pub returns-then-state-eq2 : goal.returns-then-state-eq2
returns-then-state-eq2 c = search link_state

pub returns-then-seen-slot-ne0 : goal.returns-then-seen-slot-ne0
returns-then-seen-slot-ne0 c = search link_seen

pub returns-then-state-ne1 : goal.returns-then-state-ne1
returns-then-state-ne1 c = search link_free

pub returns : goal.returns
returns c = search link_good
