use borrow.Author.Rules.{rules}
use Rattle.base_slot.proofs.usable.UsableInOrder.{count_start, count_more, count_end}
use Rattle.base_slot.proofs.usable.count.Goals as goal

pub loop-i-init : goal.loop-i-init
loop-i-init c = (search count_start, search rules)

pub loop-i-preserved : goal.loop-i-preserved
loop-i-preserved c = (search count_more, search rules)

pub returns : goal.returns
returns c = search (rules, count_end)
