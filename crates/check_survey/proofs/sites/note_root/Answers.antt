-- The root is noted as a block is, and then its row.
use Rattle.check_survey.proofs.sites.NotedAsTheyStand.{leaf_noted, inner_noted}
use Rattle.check_survey.proofs.sites.Bounds.{in_heights, in_firsts, few_enough, block_in_pool, row_start}
use borrow.Author.Rules.{rules}
use Rattle.check_survey.proofs.sites.note_root.Goals as goal

pub note_slot-requires : goal.note_slot-requires
note_slot-requires c = record { slot_in_bounds = (search in_heights, search in_firsts); h_bound = (search rules, search few_enough) }

pub returns-then-h-eq0 : goal.returns-then-h-eq0
returns-then-h-eq0 c = search leaf_noted

pub block_of-requires : goal.block_of-requires
block_of-requires c = search block_in_pool

pub note_row-requires : goal.note_row-requires
note_row-requires c =
    record {
      proper = search rules;
      row_start = row_start _ _ _ _ _ _ _ _ c.requires.block_start c.if-h-eq0.false _ _ c.note_slot.ensures.0 c.note_slot.ensures.1 _ c.block_of.ensures.0 _ c.count_of-count.ensures.0;
    }

pub returns : goal.returns
returns c = search inner_noted
