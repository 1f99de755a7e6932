-- Height falls from block to row: the measure is twice the height for a block, and twice the height of
-- its blocks and one more for a row. The loop's invariant: what is left to note brings the rows to what the whole row was to bring them to.
use Rattle.check_survey.proofs.sites.NotedAsTheyStand.{Going}
use mathlib.Core.Path.{◌≡◌}
use lib.ListN.{drop}
use Rattle.meaning.specs.Lists.{fours}
use Rattle.meaning.specs.Bytes.{block}
use Rattle.check_survey.specs.sites.Spelt.{row_sites, row_leaves}
use Rattle.check_survey.specs.sites.Marks.{RowStart}
use Prim.Native.Nat.{◌+◌, ◌-◌, ◌*◌}
use Rattle.check_survey.proofs.sites.+note_block_note_row.Given as goal

abbrev pub decreases-note_block : goal.decreases-note_block
decreases-note_block l = 2 * l.h

abbrev pub decreases-note_row : goal.decreases-note_row
decreases-note_row l = 2 * l.w + 1

abbrev pub invariant-note_row-loop-from : goal.invariant-note_row-loop-from
invariant-note_row-loop-from l =
    Going (row_sites l.e l.pool l.w l.leaves (fours l.count (drop 16 (block l.e l.pool l.parent))))
    (row_sites l.e l.pool l.w l.k (fours (l.count - l.from) (drop (16 + 4 * l.from) (block l.e l.pool l.parent)))) l.initial.heights l.initial.firsts l.heights l.firsts
    × (l.leaves + row_leaves l.e l.pool l.w (fours l.count (drop 16 (block l.e l.pool l.parent)))
    ≡ l.k + row_leaves l.e l.pool l.w (fours (l.count - l.from) (drop (16 + 4 * l.from) (block l.e l.pool l.parent))))
    × RowStart l.e l.n l.pool l.heights l.firsts l.w l.parent l.from (l.count - l.from) l.k
