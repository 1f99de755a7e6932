-- Height and count at once.
use Rattle.plan_slot.proofs.turn.TurnByCases.{same_stays, other_renews}
use Rattle.plan_slot.proofs.turn.renewed.Goals as goal

pub returns-then-eq : goal.returns-then-eq
returns-then-eq c = search same_stays

pub returns-else-eq : goal.returns-else-eq
returns-else-eq c = search other_renews
