-- The check finds this alone: it stands here so that rows that are too short are refused by name.
use native.Mathlib.Omega.{arith}
use Rattle.rows_change.proofs.change.in_rows.Goals as goal

pub in_places-requires-in_default : goal.in_places-requires-in_default
in_places-requires-in_default g c = (omega arith, omega arith)
