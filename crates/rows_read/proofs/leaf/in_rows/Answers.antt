-- The check finds this alone: it stands here so that rows that are too short are refused by name.
use native.Mathlib.Omega.{arith}
use Rattle.rows_read.proofs.leaf.in_rows.Goals as goal

pub in_places-requires-in-129-to-1024 : goal.in_places-requires-in-129-to-1024
in_places-requires-in-129-to-1024 c = (omega arith, omega arith)
