-- Where a leaf's data bytes lie, by the slots of a blob's leaves.
use Rattle.std.specs.Prelude.{List, [], ℕ, ◌+◌, ◌≤◌, ◌<◌, leb, length, get_or, Err, Ok, Result}
use Rattle.meaning.specs.declared.Refusal.{Refusal}
use Rattle.meaning.specs.Bytes.{block, count_of}
use Rattle.meaning.specs.Calls.{Outcome, done, refuse_if}
use Rattle.meaning.specs.declared.Edition.{Edition}
use Rattle.meaning.specs.declared.Reason.TheVariants.{OutOfRange}

-- every slot lies in the pool, and its count within the payload
pub record Below (e : Edition) (n : ℕ) (P slots : List ℕ) : Type 0 where
  pub slot : (i : ℕ) → i < length slots → get_or slots i 0 < n
  pub count : (i : ℕ) → i < length slots → count_of (block e P (get_or slots i 0)) ≤ e.leaf

-- a leaf that is found lies in a pool of that many bytes
unfoldable pub Lies : Result (ℕ × ℕ) Refusal → (bytes : ℕ) → Type 0
Lies (Ok (start, count)) bytes = start + count ≤ bytes
Lies (Err r) bytes = Unit {0}

-- refusal 10, or the slot of leaf number i and its count
unfoldable pub show_spelt : Edition → (P : List ℕ) → (i : ℕ) → (slots : List ℕ) → Outcome (ℕ × ℕ)
show_spelt e P i slots =
    refuse_if (leb (length slots) i) OutOfRange (done (get_or slots i 0, count_of (block e P (get_or slots i 0))) [])
