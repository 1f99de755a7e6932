-- A leaf that has all its bytes stays. Any other block is drawn by where it stands, and compared with the one that is there.
use Rattle.plan_longer.proofs.enlarged.OldBlocksPlanned.{redrawn_old, redrawn_settled}
use Rattle.plan_longer.proofs.enlarged.plan_old.Goals as goal

pub returns-then-is_settled : goal.returns-then-is_settled
returns-then-is_settled c = search redrawn_settled

pub returns : goal.returns
returns c = search redrawn_old
