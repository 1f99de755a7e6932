use borrow.Author.Rules.{rules}
use Rattle.call_audit.proofs.LiveCounted.{live_more, live_end}
use Rattle.call_audit.proofs.count_live.Goals as goal

pub loop-i-preserved : goal.loop-i-preserved
loop-i-preserved c = (search live_more, search rules)

pub returns : goal.returns
returns c = search live_end
