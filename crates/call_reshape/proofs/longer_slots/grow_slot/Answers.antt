-- The slot is planned, and the plan carried out.
use Rattle.call_reshape.proofs.longer_slots.TurnsAsPlanned.{here_places, planned_puts}
use borrow.Author.Rules.{rules}
use Rattle.call_reshape.proofs.longer_slots.grow_slot.Goals as goal

pub plan_slot-turn-requires : goal.plan_slot-turn-requires
plan_slot-turn-requires c = record {
  proper = search rules;
  grows = search rules;
  towers = search rules;
  root_block = search rules;
  here = search rules;
  payload_len = search rules;
}

pub carry_out-requires : goal.carry_out-requires
carry_out-requires c =
    let here = c.requires.here in
    let sizes = c.requires.payload_len in
    record {
      proper = search rules;
      places = search (here_places, here, sizes);
      slot_bound = (search (here), search (rules, sizes));
      rises = search rules;
    }

pub returns : goal.returns
returns c = record { pool_after = search planned_puts; records_after = search planned_puts }
