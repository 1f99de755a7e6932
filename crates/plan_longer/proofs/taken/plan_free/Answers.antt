-- A slot stays if enough are taken below it or if it is not usable; else it takes the next new block.
use Rattle.plan_longer.proofs.taken.TakenOrLeft.{enough_planned, unusable_planned, new_planned, stays_rises, new_can_rise}
use borrow.Author.Rules.{rules}
use Rattle.plan_longer.proofs.taken.plan_free.Goals as goal

pub returns-then-t-below : goal.returns-then-t-below
returns-then-t-below c = record { payload_after = search enough_planned; rises = search stays_rises }

pub returns-then-not-is_usable : goal.returns-then-not-is_usable
returns-then-not-is_usable c = record { payload_after = search unusable_planned; rises = search stays_rises }

pub draw_new-d-requires : goal.draw_new-d-requires
draw_new-d-requires c = record { proper = search rules; grows = search rules; towers = search rules; root_block = search rules; payload_len = search rules }

pub returns : goal.returns
returns c = record { payload_after = search new_planned; rises = search new_can_rise }
