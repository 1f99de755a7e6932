-- The slot is the root's, or none of the blob, or another block of it.
use Rattle.plan_longer.proofs.PlanByOwner.{root_planned, root_can_rise, free_planned, old_planned, old_can_rise}
use borrow.Author.Rules.{rules}
use Rattle.plan_longer.proofs.plan_slot.Goals as goal

pub plan_root-requires : goal.plan_root-requires
plan_root-requires c = record { proper = search rules; grows = search rules; towers = search rules; root_block = search rules; payload_len = search rules }

pub returns-then-i-root : goal.returns-then-i-root
returns-then-i-root c =
    record {
      payload_after = root_planned _ _ _ _ _ _ _ _ _ _ _ _ _ _ c.if-i-root.true c.plan_root.ensures;
      rises = root_can_rise _ _ _ _ _ _ _ _ _ _ _ _ _ c.if-i-root.true c.plan_root.ensures c.requires.here;
    }

pub returns-in-None : goal.returns-in-None
returns-in-None c =
    record {
      payload_after = free_planned _ _ _ _ _ _ _ _ _ _ _ _ _ _ c.if-i-root.false c.in-None.ensures c.plan_free.ensures.payload_after;
      rises = c.plan_free.ensures.rises;
    }

pub returns-in-Some : goal.returns-in-Some
returns-in-Some c =
    let noted = c.in-Some.ensures in
    record {
      payload_after = old_planned _ _ _ _ _ _ _ _ _ _ _ _ _ _ c.if-i-root.false noted.0 c.plan_old.ensures;
      rises = old_can_rise _ _ _ _ _ _ _ _ _ _ _ noted.0 c.plan_old.ensures c.requires.here;
    }
