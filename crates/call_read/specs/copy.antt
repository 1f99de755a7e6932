-- A blob's bytes as its leaves' slots spell them, and a read of them.
use Rattle.std.specs.Prelude.{◌≡◌, List, [], map, ℕ, ◌+◌, ◌*◌, ◌/◌, ◌%◌, ◌^◌, ◌≤◌, ◌<◌, ltb, length, get_or, take}
use Rattle.meaning.specs.Lists.{part, joined}
use Rattle.meaning.specs.Bytes.{block, data_of}
use Rattle.meaning.specs.Calls.{Outcome, done, refuse_if}
use Rattle.meaning.specs.declared.Edition.{Edition}
use Rattle.meaning.specs.declared.Reason.TheVariants.{OutOfRange}

-- the data bytes of these slots, one after the other
unfoldable pub spelt : Edition → (P slots : List ℕ) → List ℕ
spelt e P slots = joined (map (λ s. data_of (block e P s)) slots)

-- a stretch of m bytes from place p on lies in one block
pub record Stretch (e : Edition) (n : ℕ) (P slots : List ℕ) (p m : ℕ) : Type 0 where
  pub leaf : p / e.leaf < length slots
  pub within : get_or slots (p / e.leaf) 0 < n
  pub room : 16 + (p % e.leaf + m) ≤ e.size
  pub bytes : part (16 + p % e.leaf) m (block e P (get_or slots (p / e.leaf) 0)) ≡ part p m (spelt e P slots)

-- so does every stretch that stays within one payload and within the bytes
pub record Readable (e : Edition) (n : ℕ) (P slots : List ℕ) : Type 0 where
  pub stretch : (p m : ℕ) → p < length (spelt e P slots) → p % e.leaf + m ≤ e.leaf → p + m ≤ length (spelt e P slots)
      → Stretch e n P slots p m

-- size bytes may be read from the offset on, of the leaves in the row's first k slots
pub record Reading (e : Edition) (n : ℕ) (P row : List ℕ) (k offset size : ℕ) : Type 0 where
  pub leaves : k ≤ length row
  pub pool : length P ≡ e.size * n
  pub readable : Readable e n P (take k row)
  pub fits : offset + size ≤ length (spelt e P (take k row))
  pub word : offset + size < 2 ^ 64

-- refusal 10, or the bytes from the offset on
unfoldable pub read_spelt : (offset size : ℕ) → List ℕ → Outcome (List ℕ)
read_spelt offset size c = refuse_if (ltb (length c) (offset + size)) OutOfRange (done (part offset size c) [])
