-- The lent part came back as the lowest of the eight bytes, which are pasted at `at`.
use mathlib.Core.Path.{◌∙◌, ap}
use lib.ListN.{take}
use Rattle.meaning.specs.Lists.{bytes}
use Rattle.laws.proofs.Numbers.{bytes_length}
use Rattle.laws.proofs.Parts.{lent_back}
use Rattle.base_bytes.proofs.number.LittleEndian.{bytes_lowest}
use Rattle.base_bytes.proofs.number.put.Goals as goal

pub returns : goal.returns
returns g c =
    lent_back c.args.at g.row.W c.args.s.now _ (bytes g.row.W c.args.x)
    (c.copy_from_slice.ensures.after ∙ ap (take g.row.W) c.to_le_bytes.ensures ∙ bytes_lowest g.row.W c.args.x c.requires.0) (bytes_length g.row.W c.args.x)
