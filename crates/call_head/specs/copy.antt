-- Words of the copying by position: a stretch of a payload, what a copy needs, and what it leaves.
use Rattle.std.specs.Prelude.{◌≡◌, List, map, ℕ, ◌+◌, ◌-◌, ◌^◌, ◌≤◌, ◌<◌, get_or}
use Rattle.meaning.specs.Lists.{pasted, range}
use Rattle.meaning.specs.Head.{block_at, piece}
use Rattle.meaning.specs.declared.Edition.{Edition}

-- m bytes of the payload in a slot, from within on; zeros, where the pool has no such slot
unfoldable pub payload_at : Edition → (P : List ℕ) → (s within m : ℕ) → List ℕ
payload_at e P s within m = map (λ i. get_or (block_at e P s) (16 + i) 0) (range within m)

-- bytes from pos on may be put into an output of n places, count in all, the first of them the byte at a place
pub record Copying (place pos count n : ℕ) : Type 0 where
  pub more : pos < count
  pub fits : count ≤ n
  pub word : place + count < 2 ^ 64

-- then the places from pos up to end hold the bytes from place + pos on of a blob whose root r is h high, one or more and count in all at most, and no
-- other place has changed
pub record Copied (e : Edition) (P : List ℕ) (h r place pos count end : ℕ) (out out' : List ℕ) : Type 0 where
  pub more : pos < end
  pub most : end ≤ count
  pub bytes : out' ≡ pasted pos (piece e P h r (place + pos) (end - pos)) out
