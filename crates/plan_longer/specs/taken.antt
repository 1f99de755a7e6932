-- What a blob that gets longer makes of a slot that it has not, by what code has of it: its record, and how many usable slots lie below.
use Rattle.std.specs.Prelude.{List, [], ◌∷◌, ℕ, ◌-◌, ltb}
use Rattle.meaning.specs.declared.Edition.{Edition}
use Rattle.meaning.specs.Lists.{pick, both}
use Rattle.meaning.specs.Bytes.{Cell, usable_slot}
use Rattle.meaning.specs.Change.{Change, renewed}
use Rattle.laws.proofs.Codec.{items_of}
use Rattle.laws_resize.specs.growth.Forms.{grown_new}
use Rattle.plan_longer.specs.declared.fresh.Growth.{Growth}
use Rattle.plan_longer.specs.declared.towers.Tower.{Tower}

-- what the new block p holds
unfoldable pub new_end : Edition → Growth → Tower → (free kept : List ℕ) → ℕ → Cell
new_end e g t free kept p = grown_new e g.length g.leaves free (t.top - t.height) t.height (items_of t.height kept) p

-- what a slot becomes that is none of the blob, if so many usable slots lie below it
unfoldable pub free_plan : Edition → Growth → Tower → (R free kept : List ℕ) → (below s : ℕ) → List Change
free_plan e g t R free kept below s =
    pick (both (usable_slot R s) (ltb below t.taken)) (renewed e R 1 s (new_end e g t free kept below) ∷ []) []
