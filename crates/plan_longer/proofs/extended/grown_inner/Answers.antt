-- The old slots are copied, and the new ones put behind them.
use Rattle.plan_longer.proofs.extended.RowContinued.{copied_long, grown_inner}
use borrow.Author.Rules.{rules}
use Rattle.plan_longer.proofs.extended.grown_inner.Goals as goal

pub put_children-c-requires : goal.put_children-c-requires
put_children-c-requires c = record { proper = search rules; grows = search rules; payload_len = (search copied_long, search rules, search rules, search rules) }

pub returns : goal.returns
returns c = search grown_inner
