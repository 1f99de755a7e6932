use Rattle.call_head.proofs.HandedOut.{nothing_handed, nothing_copied, copy_starts, out_length, copy_goes, copied_more, copied_all, count_handed}
use borrow.Author.Rules.{rules}
use Rattle.call_head.proofs.next_call.Goals as goal

pub returns-then-len-place : goal.returns-then-len-place
returns-then-len-place c = record { value = search nothing_handed; out_after = search nothing_copied }

pub loop-pos-init : goal.loop-pos-init
loop-pos-init c = (search rules, search copy_starts)

pub copy_some-pos-requires : goal.copy_some-pos-requires
copy_some-pos-requires c = record { proper = search rules; copying = search copy_goes }

pub loop-pos-preserved : goal.loop-pos-preserved
loop-pos-preserved c = (search rules, search copied_more)

pub shape_of-out : goal.shape_of-out
shape_of-out c = search out_length

pub returns : goal.returns
returns c = record { value = search count_handed; out_after = search copied_all }
