-- Height falls from block to row: the measure is twice the height for a block, and twice the height of
-- its blocks and one more for a row. The loop's invariant: the whole row comes to what the children left come to, with what was noted so far.
use mathlib.Core.Path.{◌≡◌}
use Prim.Native.Nat.{◌+◌, ◌-◌, ◌*◌}
use lib.ListN.{drop}
use Rattle.meaning.specs.Lists.{fours}
use Rattle.meaning.specs.Bytes.{block}
use Rattle.check_blob.specs.notes.{notes, RowStart}
use Rattle.check_blob.proofs.descent.+visit_block_visit_row.Given as goal

abbrev pub decreases-visit_block : goal.decreases-visit_block
decreases-visit_block l = 2 * l.h

abbrev pub decreases-visit_row : goal.decreases-visit_row
decreases-visit_row l = 2 * l.w + 1

abbrev pub invariant-visit_row-loop-from : goal.invariant-visit_row-loop-from
invariant-visit_row-loop-from l =
    (notes l.e l.n l.pool l.records l.w l.parent l.edge (fours l.count (drop 16 (block l.e l.pool l.parent))) l.initial.seen l.bytes l.leaves l.initial.row
    ≡ notes l.e l.n l.pool l.records l.w l.parent l.edge (fours (l.count - l.from) (drop (16 + 4 * l.from) (block l.e l.pool l.parent))) l.seen l.b l.k l.row)
    × RowStart l.e l.n l.pool l.records l.seen l.parent l.from (l.count - l.from) l.b l.k
