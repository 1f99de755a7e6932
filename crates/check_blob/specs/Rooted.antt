-- What every call on one blob does first.
use Rattle.std.specs.Prelude.{List, ℕ, ltb, eqb, replicate}
use Rattle.meaning.specs.declared.Reason.TheVariants.{NotARoot}
use Rattle.meaning.specs.Lists.{pick, both}
use Rattle.meaning.specs.Bytes.{state}
use Rattle.meaning.specs.Refusals.{nowhere}
use Rattle.meaning.specs.Walk.{Found, fault}
use Rattle.check_blob.specs.notes.{Noted, note_root}
use Rattle.meaning.specs.declared.Edition.{Edition}

-- refusal 3, then the blob check with what it notes
unfoldable pub open_noted : Edition → (n : ℕ) → (P R : List ℕ) → (r : ℕ) → (o : List ℕ) → Found Noted
open_noted e n P R r o =
    pick (both (ltb r n) (eqb (state R r) 2)) (note_root e n P R (replicate n 0) r o) (fault (nowhere NotARoot))
