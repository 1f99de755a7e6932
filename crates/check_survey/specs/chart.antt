-- What the calls that change one blob share behind refusals 1 and 2: refusal 3, the pool check, and where the blob's blocks stand.
use Rattle.std.specs.Prelude.{◌≡◌, List, ℕ, length, replicate, Err, Ok}
use Rattle.check_blob.specs.notes.{Walked}
use Rattle.meaning.specs.declared.Edition.{Edition}
use Rattle.meaning.specs.Tree.{Blob}
use Rattle.meaning.specs.Calls.{Outcome, refused, changing}
use Rattle.check_gate.specs.Gate.{Whole}
use Rattle.check_survey.specs.sites.Known.{Known}

-- what such a call lends behind refusals 1 and 2: pool and records of n slots, and rows of n places
pub record Room (e : Edition) (n : ℕ) (P R seen row heights firsts : List ℕ) : Type 0 where
  pub whole : Whole e n P R
  pub unseen : seen ≡ replicate n 0
  pub rows : length row ≡ n
  pub flat : heights ≡ replicate n 0
  pub begins : length firsts ≡ n

-- what a walk's answer says of every call that changes the blob of root r: it is refused so, or the blob is known
unfoldable pub Rooted : (e : Edition) (n : ℕ) (P R : List ℕ) (r : ℕ) → Walked → (row hs fs : List ℕ) → Type 0
Rooted e n P R r (Err q) row hs fs = (f : Blob → Outcome (Unit {0})) → changing e n P R r f ≡ refused q
Rooted e n P R r (Ok (len, k)) row hs fs = Known e n P R r len k row hs fs
