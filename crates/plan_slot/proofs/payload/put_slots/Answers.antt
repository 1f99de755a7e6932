use borrow.Author.Rules.{rules}
use Rattle.plan_slot.proofs.payload.SlotsPutIn.{put_none, put_more, put_all}
use Rattle.plan_slot.proofs.payload.put_slots.Goals as goal

pub loop-i-init : goal.loop-i-init
loop-i-init c = (search rules, search rules, search put_none)

pub loop-i-preserved : goal.loop-i-preserved
loop-i-preserved c = (search rules, search rules, search put_more)

pub returns : goal.returns
returns c = search put_all
