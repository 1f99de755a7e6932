-- Each way out is a law of the closing pass at one slot.
use Rattle.check_pool.proofs.closing.ClosingBySteps.{in_pool, close_free, close_dirty, close_root, close_part, close_lost}
use Rattle.check_pool.proofs.closing.close_slot.Goals as goal

pub block_of-requires : goal.block_of-requires
block_of-requires c = search in_pool

pub returns-then-all_zero : goal.returns-then-all_zero
returns-then-all_zero c = search close_free

pub returns-then-state-eq0 : goal.returns-then-state-eq0
returns-then-state-eq0 c = search close_dirty

pub returns-then-state-ne1 : goal.returns-then-state-ne1
returns-then-state-ne1 c = search close_root

pub returns-then-seen-i-eq1 : goal.returns-then-seen-i-eq1
returns-then-seen-i-eq1 c = search close_part

pub returns : goal.returns
returns c = search close_lost
