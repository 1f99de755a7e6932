-- Height falls from block to row: the measure is twice the height for a block, and twice the height of
-- its blocks and one more for a row. The loop's invariant: what is left to note brings the rows to what the whole row was to bring them to.
use Rattle.check_survey.proofs.sites.NotedAsTheyStand.{leaf_noted, leaf_counted, inner_noted, inner_counted, row_on, row_on_counted, row_end, row_end_counted}
use Rattle.check_survey.proofs.sites.Bounds.{in_heights, in_firsts, block_in_pool, row_start, child_start, row_next}
use borrow.Author.Rules.{rules}
use native.Mathlib.Omega.{arith}
use Rattle.check_survey.proofs.sites.+note_block_note_row.Goals as goal

pub note_block-note_slot-requires-clause-slot_in_bounds : goal.note_block-note_slot-requires-clause-slot_in_bounds
note_block-note_slot-requires-clause-slot_in_bounds t c = (search in_heights, search in_firsts)

pub note_block-returns-then-h-eq0 : goal.note_block-returns-then-h-eq0
note_block-returns-then-h-eq0 t c = record { marked = search leaf_noted; value = search leaf_counted }

pub note_block-block_of-requires : goal.note_block-block_of-requires
note_block-block_of-requires t c = search block_in_pool

pub note_block-note_row-requires : goal.note_block-note_row-requires
note_block-note_row-requires t c =
    (omega arith, (search rules, row_start _ _ _ _ _ _ _ _ c.requires.block_start c.if-h-eq0.false _ _ c.note_slot.ensures.0 c.note_slot.ensures.1 _ c.block_of.ensures.0 _ c.count_of-count.ensures.0))

pub note_block-returns : goal.note_block-returns
note_block-returns t c = record { marked = search inner_noted; value = search inner_counted }

pub note_row-note_block-k-requires : goal.note_row-note_block-k-requires
note_row-note_block-k-requires t c = (omega arith, (search rules, search child_start))

pub note_row-loop-from-preserved : goal.note_row-loop-from-preserved
note_row-loop-from-preserved t c = (search row_on, search row_on_counted, search row_next)

pub note_row-returns : goal.note_row-returns
note_row-returns t c = record { marked = search row_end; value = search row_end_counted }
