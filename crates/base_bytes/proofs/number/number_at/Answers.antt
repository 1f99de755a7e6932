-- The bytes from `at` on, and zeros after them, have the number of those bytes.
use mathlib.Core.Path.{◌∙◌, ap}
use lib.ListN.{length}
use Rattle.meaning.specs.Lists.{number}
use Rattle.laws.proofs.Numbers.{number_below}
use Rattle.laws.proofs.Parts.{lent_part, lent_length}
use Rattle.base_bytes.proofs.number.LittleEndian.{number_read}
use Rattle.base_bytes.proofs.number.number_at.Goals as goal

pub returns-clause-value : goal.returns-clause-value
returns-clause-value g c =
    let a = c.args in
    let same = c.copy_from_slice.ensures.after in
    c.from_le_bytes.ensures ∙ number_read g.row.W _ (ap length same ∙ lent_length a.at g.row.W a.s.now c.requires.1) c.requires.0
    ∙ ap number (same ∙ lent_part a.at g.row.W a.s.now)

pub returns-clause-bound : goal.returns-clause-bound
returns-clause-bound g c =
    let a = c.args in
    rw (returns-clause-value g c) (number_below a.at g.row.W a.s.now c.requires.1 (λ i. (c.type_inv.s i).fits))
