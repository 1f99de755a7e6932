-- A store past the end changes nothing.
use mathlib.Core.Path.{sym}
use lib.Seq.{set_out}
use Rattle.check_blob.proofs.notes.note_leaf.Goals as goal

pub returns-else-at-row : goal.returns-else-at-row
returns-else-at-row c = sym (set_out _ _ _ c.if-at-row.false)
