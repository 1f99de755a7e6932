use Rattle.call_count.proofs.Counts.{counting_on, counting_end}
use Rattle.call_count.proofs.count_shortening.Goals as goal

pub loop-i-preserved : goal.loop-i-preserved
loop-i-preserved c = search counting_on

pub returns-clause-by_index_2 : goal.returns-clause-by_index_2
returns-clause-by_index_2 c = counting_end _ _ _ _ c.loop-i.invariant c.loop-i-test.false
