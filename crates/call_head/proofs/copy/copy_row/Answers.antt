use Rattle.call_head.proofs.copy.Rows.{row_starts, row_goes, row_more, row_done, along_starts, along_more, row_begun, row_parent}
use borrow.Author.Rules.{rules}
use Rattle.call_head.proofs.copy.copy_row.Goals as goal

pub loop-to-init : goal.loop-to-init
loop-to-init c = (search along_starts, search rules, search row_starts)

pub copy_child-to-requires : goal.copy_child-to-requires
copy_child-to-requires c =
    let a = c.loop-to.invariant in
    record {
      proper = search rules;
      copying = search row_goes;
      fact = (search rules, row_parent _ _ _ _ _ _ _ _ _ a.0 _ c.row_of.ensures c.if-row_of-row.true);
    }

pub loop-to-preserved : goal.loop-to-preserved
loop-to-preserved c = (search along_more, search rules, search row_more)

pub returns-else-row_of-row : goal.returns-else-row_of-row
returns-else-row_of-row c =
    let a = c.loop-to.invariant in
    record { more = row_begun _ _ _ _ _ _ _ _ _ a.0 _ c.row_of.ensures c.if-row_of-row.false; most = search rules; bytes = search rules }

pub returns-after-loop-to : goal.returns-after-loop-to
returns-after-loop-to c = search row_done
