-- Worn blobs, by the row of heights: a slot is one of the blob exactly if its height is noted, that is not 0.
use Rattle.std.specs.Prelude.{Bool, true, not, List, ℕ, eqb, ltb, get_or}
use Rattle.meaning.specs.Lists.{pick, range, all}
use Rattle.meaning.specs.Bytes.{recorded, last_version}

-- whether a slot is none of the blob, or its version is below the last
unfoldable pub fresh_slot : (R hs : List ℕ) → ℕ → Bool
fresh_slot R hs s = pick (eqb (get_or hs s 0) 0) true (ltb (recorded R s) last_version)

-- and that of each of k slots from i on
unfoldable pub fresh_from : (R hs : List ℕ) → (i k : ℕ) → Bool
fresh_from R hs i k = all (fresh_slot R hs) (range i k)

-- whether a slot of the blob, of n slots, is at the last version
unfoldable pub worn_among : (R hs : List ℕ) → (n : ℕ) → Bool
worn_among R hs n = not (fresh_from R hs 0 n)
