-- The promise of request W-201, the reading head, in the words of the definitions. The record below is the promise, each field of it one sentence;
-- crates/promises/proofs/Heads.antt shows it, as `reading_head`, of every proper edition.
use Rattle.std.specs.Prelude.{◌≡◌, ◌↔◌, true, ℕ, ◌-◌, ◌≤◌, min, length}
use mathlib.Core.List.{List, [], ◌∷◌, ◌++◌, Memᴰ}
use Rattle.meaning.specs.Lists.{joined}
use Rattle.meaning.specs.Bytes.{state}
use Rattle.meaning.specs.Tree.{Blob}
use Rattle.meaning.specs.Refusals.{at, number_of}
use Rattle.meaning.specs.Walk.{fine}
use Rattle.meaning.specs.Change.{Store}
use Rattle.meaning.specs.Calls.{sized}
use Rattle.meaning.specs.Answers.{Said, yields, refuses}
use Rattle.meaning.specs.Run.{Call, tell_length, read, says, run}
use Rattle.meaning.specs.Head.{open_head, pieces, sum}
use Rattle.meaning.specs.declared.Edition.{Edition}
use Rattle.meaning.specs.declared.Refusal.{Refusal}
use Rattle.meaning.specs.declared.Reason.{Reason}
use Rattle.promises.specs.Demands.{blob_at, AsItWas, FirstOther, reader, Filled}

-- What opening a head on root r says: what length says, with its refusals, of which demand one speaks.
abbrev pub opens : Edition → Store → (r : ℕ) → Said
opens e S r = says e S (tell_length r)

-- what that head then hands out, asked for these sizes one after the other
abbrev pub hands_out : Edition → Store → (r : ℕ) → (sizes : List ℕ) → List (List ℕ)
hands_out e S r sizes = pieces e S.pool (open_head e S.pool S.records r) sizes

-- the head on root r opens and hands out on one store as on the other
abbrev pub SameHead : Edition → (S S* : Store) → (r : ℕ) → (sizes : List ℕ) → Type 0
SameHead e S S* r sizes = (opens e S* r ≡ opens e S r) × (hands_out e S* r sizes ≡ hands_out e S r sizes)

-- after these askings of a head of length n, k bytes more are what a read gives from where those ended: as many as asked or as remain
abbrev pub Next : Edition → Store → (r n : ℕ) → (sizes : List ℕ) → (k : ℕ) → Type 0
Next e S r n sizes k = (d : List ℕ) × (hands_out e S r (sizes ++ (k ∷ [])) ≡ hands_out e S r sizes ++ (d ∷ []))
    × (says e S (read r (min (sum sizes) n) (min k (n - min (sum sizes) n))) ≡ yields d)

-- on that pool with the records of moment S, the head on root r, whose blob is b, opens and hands out as then exactly if every block of b is as it was; or it is
-- refused, naming the first that is not, and hands out nothing
pub record HeadTold (e : Edition) (S : Store) (P* : List ℕ) (r : ℕ) (b : Blob) : Type 0 where
  pub answers : (sizes : List ℕ) → SameHead e S (reader P* S) r sizes ↔ AsItWas e S.pool P* b
  pub refuses : (AsItWas e S.pool P* b → ⊥)
      → (why : Reason) × (s : ℕ) × FirstOther e S.pool P* b s × (4 ≤ number_of why) × (number_of why ≤ 7) × (opens e (reader P* S) r ≡ refuses (at why s))
      × ((sizes : List ℕ) → joined (hands_out e (reader P* S) r sizes) ≡ [])

pub record ReadingHead (e : Edition) : Type 0 where
  -- "hands out the next bytes, as many as asked or as remain"
  pub next : (S : Store) (r n : ℕ) → opens e S r ≡ yields (n ∷ []) → (sizes : List ℕ) (k : ℕ) → Next e S r n sizes k
  -- "However the asking is cut up, the pieces joined are what one read gives": from 0, of the lesser of all that was asked and the length
  pub all_joined : (S : Store) (r n : ℕ) → opens e S r ≡ yields (n ∷ []) → (sizes : List ℕ)
      → says e S (read r 0 (min (sum sizes) n)) ≡ yields (joined (hands_out e S r sizes))
  -- "a refused head hands out nothing"
  pub nothing : (S : Store) (r : ℕ) (q : Refusal) → opens e S r ≡ refuses q → (sizes : List ℕ) → joined (hands_out e S r sizes) ≡ []
  -- demand three, of the head: at every moment S of a run, over every pool of that history, the head on a root that is alive then
  pub told : (S₀ : Store) → sized e S₀.pool S₀.records ≡ true → (calls : List Call) (S : Store) → Memᴰ S (run e S₀ calls)
      → (P* : List ℕ) → length P* ≡ length S.pool → Filled e S₀ calls P* → (r : ℕ) → state S.records r ≡ 2
      → (b : Blob) × (seen : List ℕ) × (blob_at e S r ≡ fine b seen) × HeadTold e S P* r b
