-- A usable slot is put behind those in the row; any other leaves the row as it is.
use borrow.Author.Rules.{rules}
use Rattle.base_slot.proofs.usable.UsableInOrder.{list_put, list_passed, list_end, list_count}
use Rattle.base_slot.proofs.usable.list.Goals.{then-is_usable, else-is_usable}
use Rattle.base_slot.proofs.usable.list.Goals as goal

pub loop-i-preserved : goal.loop-i-preserved
loop-i-preserved c =
    elim c.if-is_usable.branch [
      | then-is_usable w ↦ (rw (w.row-is, w.found-is) (search (rules, list_put)), search rules)
      | else-is_usable w ↦ (rw (w.row-is, w.found-is) (search (rules, list_passed)), search rules)
    ]

pub returns-clause-value : goal.returns-clause-value
returns-clause-value c = (search (rules, list_count), search rules)

pub returns-clause-row_after : goal.returns-clause-row_after
returns-clause-row_after c = search list_end
