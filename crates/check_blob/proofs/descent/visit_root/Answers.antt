-- The root's visit, then its row: each way out is a law of the root.
use Rattle.check_blob.proofs.notes.RootVisited.{root_in_pool, root_in_records, root_in_flags, root_small, root_fault, root_leaf, root_row_lem, root_inner}
use borrow.Author.Rules.{rules}
use Rattle.check_blob.proofs.descent.visit_root.Goals as goal
use Rattle.laws.proofs.HandedOn.{handed}

pub check_and_mark-requires : goal.check_and_mark-requires
check_and_mark-requires c = record { proper = search rules; size_in_bounds = (search root_in_pool, search root_in_records); slot_in_bounds = search root_in_flags }

pub block_of-requires : goal.block_of-requires
block_of-requires c = search root_in_pool

pub note_leaf-requires : goal.note_leaf-requires
note_leaf-requires c = search root_small

pub returns-then-h-eq0 : goal.returns-then-h-eq0
returns-then-h-eq0 c = search (root_leaf, c.in_ok-check_and_mark.was)

pub visit_row-requires : goal.visit_row-requires
visit_row-requires c =
    record {
      proper = search rules;
      row_start = root_row_lem _ c.requires.proper _ _ _ _ _ c.requires.block_start _ _ _ c.check_and_mark.ensures c.in_ok-check_and_mark.was _ c.block_of.ensures.0 _ c.count_of-count.ensures.0 c.if-h-eq0.false;
    }

pub returns-in_err-check_and_mark : goal.returns-in_err-check_and_mark
returns-in_err-check_and_mark c = rw (handed c.from_residual.ensures.1) (search (root_fault, c.in_err-check_and_mark.was))

pub returns : goal.returns
returns c = search (root_inner, c.in_ok-check_and_mark.was)
