-- One, or none.
use Rattle.plan_slot.proofs.turn.TurnByCases.{stays_count, goes_count, takes_count, renews_count}
use Rattle.plan_slot.proofs.turn.changes.Goals as goal

pub returns-in-Stays : goal.returns-in-Stays
returns-in-Stays c = search stays_count

pub returns-in-Goes : goal.returns-in-Goes
returns-in-Goes c = search goes_count

pub returns-in-Takes : goal.returns-in-Takes
returns-in-Takes c = search takes_count

pub returns-in-Renews : goal.returns-in-Renews
returns-in-Renews c = search renews_count
