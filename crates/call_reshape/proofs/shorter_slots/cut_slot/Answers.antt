-- The turn that is planned is carried out.
use Rattle.call_reshape.proofs.shorter_slots.TurnsAsPlanned.{carry_rises, carry_payload, carry_pool, carry_records}
use borrow.Author.Rules.{rules}
use Rattle.call_reshape.proofs.shorter_slots.cut_slot.Goals as goal

pub plan_slot-turn-requires : goal.plan_slot-turn-requires
plan_slot-turn-requires c = record { proper = search rules; cuts = search rules; kept_block = search rules; here = search rules; payload_len = search rules }

pub carry_out-requires : goal.carry_out-requires
carry_out-requires c =
    let pre = c.requires in
    let small = pre.i_bound in
    record {
      proper = pre.proper;
      places = search rules;
      slot_bound = (small.0, search (carry_payload, small.1));
      rises = carry_rises _ _ _ _ c.plan_slot-turn.ensures.rising pre.i_bound_2;
    }

pub returns : goal.returns
returns c = record { pool_after = search carry_pool; records_after = search carry_records }
