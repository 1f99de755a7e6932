-- What the calls that change one blob share: refusals 1, 2 and 3, the pool check, and where the blob's blocks stand.
use Rattle.std.specs.Prelude.{◌≡◌, List, ℕ, ◌-◌, ◌≤◌, length, take, drop, Err, Ok, Result}
use Rattle.meaning.specs.declared.Edition.{Edition}
use Rattle.meaning.specs.Tree.{Blob}
use Rattle.meaning.specs.Calls.{Outcome, refused, slots_in, opened, changing}
use Rattle.meaning.specs.declared.Refusal.{Refusal}
use Rattle.check_gate.specs.Gate.{Whole, gate}
use Rattle.check_gate.specs.Places.{Clear}
use Rattle.check_survey.specs.sites.Known.{Known}
use Rattle.check_survey.specs.declared.Reached.{Reached}

-- the rows that such a call is lent: a place for each slot of the pool; flags and heights start at zero
pub record Rows (e : Edition) (P seen row heights firsts : List ℕ) : Type 0 where
  pub unseen : Clear e P seen
  pub rows : slots_in e P ≤ length row
  pub flat : Clear e P heights
  pub begins : slots_in e P ≤ length firsts

-- the first n places of a row, as they are lent
abbrev pub front : ℕ → List ℕ → List ℕ
front n l = take (n - 0) (drop 0 l)

-- the blob of root r, behind refusals 1 and 2 in a pool of n slots: the rows say where its blocks stand
pub record Behind (e : Edition) (P R : List ℕ) (r n len k : ℕ) (row hs fs : List ℕ) : Type 0 where
  pub gated : gate e P R ≡ Ok n
  pub whole : Whole e n P R
  pub known : Known e n P R r len k (front n row) (front n hs) (front n fs)

-- what is reached: the refusal of every call that changes that blob, or the blob
unfoldable pub Reaches : (e : Edition) (P R : List ℕ) (r : ℕ) → Result Reached Refusal → (row hs fs : List ℕ) → Type 0
Reaches e P R r (Err q) row hs fs = (f : Blob → Outcome (Unit {0})) → opened e P R (changing e (slots_in e P) P R r f) ≡ refused q
Reaches e P R r (Ok b) row hs fs = Behind e P R r b.slots b.bytes b.leaves row hs fs
