-- The plan has no stretch, or one.
use Rattle.call_count.proofs.Counts.{write_none, write_one}
use borrow.Author.Rules.{rules}
use Rattle.call_count.proofs.writing_at.Goals as goal

pub returns-in-None : goal.returns-in-None
returns-in-None c =
    let planned = c.in-None.ensures.value in
    record { by_index = search write_none; upper_bound = search rules }

pub returns-in-Some : goal.returns-in-Some
returns-in-Some c =
    let planned = c.in-Some.ensures.value in
    record { by_index = search write_one; upper_bound = search rules }
