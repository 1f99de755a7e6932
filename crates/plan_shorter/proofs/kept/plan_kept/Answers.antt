-- The row is drawn, and the drawn cell is stored unless height and count stay.
use Rattle.plan_slot.proofs.renewal.DrawnIsChanged.{renewal_turned, renewal_rises}
use Rattle.plan_shorter.proofs.kept.FewLeaves.{cuts_few}
use borrow.Author.Rules.{rules}
use Rattle.plan_shorter.proofs.kept.plan_kept.Goals as goal

pub draw_cut-d-requires : goal.draw_cut-d-requires
draw_cut-d-requires c = record { proper = search rules; leaves_value = (search rules, search cuts_few); payload_len = search rules; block_len = search rules }

pub returns : goal.returns
returns c = record { by_index = search renewal_turned; by_index_2 = search renewal_rises }
