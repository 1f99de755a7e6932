-- The branches in the plan's order: another blob's slot, the root, a block that goes, one that stays.
use Rattle.plan_shorter.proofs.PlanByCases.{none_few, here_power, here_most, stays_rising, goes_rising, noted_rising}
use Rattle.plan_shorter.proofs.PlanByCases.{plan_other, plan_root, plan_gone, plan_old}
use borrow.Author.Rules.{rules}
use Rattle.plan_shorter.proofs.plan_slot.Goals as goal

pub returns-in_default : goal.returns-in_default
returns-in_default c =
    let none = c.in_default.ensures in
    record { by_index = search plan_other; rising = search stays_rising }

pub plan_kept-requires : goal.plan_kept-requires
plan_kept-requires c = record {
  proper = search rules;
  cuts = search rules;
  payload_len = (search rules, search rules, search rules, search none_few);
  len = search rules;
}

pub returns-then-i-root : goal.returns-then-i-root
returns-then-i-root c =
    let noted = c.in-Some.ensures in
    record { by_index = search plan_root; rising = search noted_rising }

pub returns-then-is_gone : goal.returns-then-is_gone
returns-then-is_gone c =
    let noted = c.in-Some.ensures in
    record { by_index = search plan_gone; rising = search goes_rising }

pub plan_kept-requires-2 : goal.plan_kept-requires-2
plan_kept-requires-2 c =
    let noted = c.in-Some.ensures in
    record {
      proper = search rules;
      cuts = search rules;
      payload_len = (search rules, search rules, search here_power, search rules);
      len = (search rules, search rules, search here_most);
    }

pub returns : goal.returns
returns c =
    let noted = c.in-Some.ensures in
    record { by_index = search plan_old; rising = search noted_rising }
