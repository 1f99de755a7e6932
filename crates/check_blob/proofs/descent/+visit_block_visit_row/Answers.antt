-- Height falls from block to row: the measure is twice the height for a block, and twice the height of
-- its blocks and one more for a row. The loop's invariant: the whole row comes to what the children left come to, with what was noted so far.
use Rattle.check_blob.proofs.notes.Bounds.{block_in_pool, slot_small, bytes_fit, leaves_fit, count_data, leaf_small, row_start, child_start, row_next, small_fault, small_none}
use Rattle.check_blob.proofs.notes.WalkAsDefined.{note_fault, note_leaf, note_inner, notes_end, notes_stop, notes_on}
use borrow.Author.Rules.{rules}
use native.Mathlib.Omega.{arith}
use Rattle.check_blob.proofs.descent.+visit_block_visit_row.Goals as goal
use Rattle.laws.proofs.HandedOn.{handed}

pub visit_block-block_of-requires : goal.visit_block-block_of-requires
visit_block-block_of-requires t c = search (block_in_pool, c.in_ok-visit.was)

pub visit_block-note_leaf-requires : goal.visit_block-note_leaf-requires
visit_block-note_leaf-requires t c = search (slot_small, c.in_ok-visit.was)

pub visit_block-overflow_add-result : goal.visit_block-overflow_add-result
visit_block-overflow_add-result t c = search (bytes_fit, c.in_ok-visit.was)

pub visit_block-overflow_add-result-then-h-eq0 : goal.visit_block-overflow_add-result-then-h-eq0
visit_block-overflow_add-result-then-h-eq0 t c = search (leaves_fit, c.in_ok-visit.was)

pub visit_block-returns-then-h-eq0 : goal.visit_block-returns-then-h-eq0
visit_block-returns-then-h-eq0 t c = record { row_after = search (note_leaf, count_data, c.in_ok-visit.was); small = search (leaf_small, c.in_ok-visit.was) }

pub visit_block-visit_row-requires : goal.visit_block-visit_row-requires
visit_block-visit_row-requires t c =
    (omega arith, (search rules, row_start _ c.requires.proper _ _ _ _ _ _ _ _ _ _ c.requires.block_start _ _ c.visit.ensures c.in_ok-visit.was _ c.block_of.ensures.0 _ c.count_of-count.ensures.0 c.if-h-eq0.false))

pub visit_block-returns-in_err-visit : goal.visit_block-returns-in_err-visit
visit_block-returns-in_err-visit t c = record { row_after = rw (handed c.from_residual.ensures.1) (search (note_fault, c.in_err-visit.was)); small = rw (handed c.from_residual.ensures.1) (search (small_fault, c.in_err-visit.was)) }

pub visit_block-returns-clause-row_after : goal.visit_block-returns-clause-row_after
visit_block-returns-clause-row_after t c = search (note_inner, c.in_ok-visit.was)

pub visit_row-visit_block-here-requires : goal.visit_row-visit_block-here-requires
visit_row-visit_block-here-requires t c = (omega arith, (search rules, search child_start))

pub visit_row-returns-in_default-clause-row_after : goal.visit_row-returns-in_default-clause-row_after
visit_row-returns-in_default-clause-row_after t c = search notes_stop

pub visit_row-loop-from-preserved : goal.visit_row-loop-from-preserved
visit_row-loop-from-preserved t c = (search notes_on, search row_next)

pub visit_row-returns : goal.visit_row-returns
visit_row-returns t c = record { row_after = search notes_end; small = search small_none }
