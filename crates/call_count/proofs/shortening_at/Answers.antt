-- A turn says how many slots it changes.
use Rattle.call_count.proofs.Counts.{cut_one}
use borrow.Author.Rules.{rules}
use Rattle.call_count.proofs.shortening_at.Goals as goal

pub returns : goal.returns
returns c = record { by_index = cut_one _ _ _ _ _ _ _ _ _ _ c.plan_slot.ensures.by_index _ c.changes.ensures.0; upper_bound = search rules }
