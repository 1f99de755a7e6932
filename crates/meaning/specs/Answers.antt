-- Each call's answer as the value that the code gives, and what document 01's number and values of it are.
use Rattle.std.specs.Prelude.{◌≡◌, List, [], ◌∷◌, ◌++◌, ℕ, ◌+◌, ◌*◌, None, Result, Ok, Err}
use Rattle.meaning.specs.declared.Reason.TheVariants.{WrongLengths}
use Rattle.meaning.specs.Lists.{pick, part}
use Rattle.meaning.specs.Refusals.{number_of, nowhere, slot_number}
use Rattle.meaning.specs.Calls.{Outcome, refused, done, sized, after, after_wipe}
use Rattle.meaning.specs.declared.Edition.{Edition}
use Rattle.meaning.specs.declared.Refusal.{Refusal}

-- what a call answers: its value, or the refusal
unfoldable pub answer_of : {A : Type 0} → Outcome A → Result A Refusal
answer_of (refused r) = Err r
answer_of (done v cs) = Ok v

-- a read answers that it is done: its value is in the lent output
unfoldable pub finish_answer : {A : Type 0} → Outcome A → Result (Unit {0}) Refusal
finish_answer (refused r) = Err r
finish_answer (done v cs) = Ok tt

-- the lent output after a read: filled whole, or untouched
unfoldable pub read_out : Outcome (List ℕ) → List ℕ → List ℕ
read_out (refused r) out = out
read_out (done d cs) out = d

-- wipe checks 1 only; what it leaves is after_wipe (Calls)
unfoldable pub wipe_answer : Edition → (P R : List ℕ) → Result (Unit {0}) Refusal
wipe_answer e P R = pick (sized e P R) (Ok tt) (Err (nowhere WrongLengths))

-- where in the pool the data bytes of slot s start
abbrev pub data_start : Edition → (s : ℕ) → ℕ
data_start e s = e.size * s + 16

-- where a shown leaf's data bytes lie in the pool, and how many they are
unfoldable pub leaf_answer : Edition → Outcome (ℕ × ℕ) → Result (ℕ × ℕ) Refusal
leaf_answer e (refused r) = Err r
leaf_answer e (done v cs) = Ok ((data_start e v.0), v.1)

-- where in the pool show's part starts: at the leaf's data bytes; the empty part of a refusal at the pool's first byte
unfoldable pub shown_at : Edition → Outcome (ℕ × ℕ) → ℕ
shown_at e (refused r) = 0
shown_at e (done v cs) = data_start e v.0

-- show's part of the pool: the leaf's data bytes as they lie there; a refusal shows an empty part
unfoldable pub shown_part : Edition → (P : List ℕ) → Outcome (ℕ × ℕ) → List ℕ
shown_part e P (refused r) = []
shown_part e P (done v cs) = part (data_start e v.0) v.1 P

-- show's lent numbers: the refusal's number and named slot, 0 and no slot on success
unfoldable pub shown_number : Outcome (ℕ × ℕ) → ℕ
shown_number (refused r) = number_of r.reason
shown_number (done v cs) = 0

unfoldable pub shown_slot : Outcome (ℕ × ℕ) → ℕ
shown_slot (refused r) = slot_number r.named
shown_slot (done v cs) = slot_number None

-- a changing call on pool P and records R whose outcome is o answers x and leaves P' and R'
pub record Ends {A X : Type 0} (e : Edition) (say : Outcome A → X) (o : Outcome A) (P R : List ℕ) (x : X) (P' R' : List ℕ) : Type 0 where
  pub answer : x ≡ say o
  pub pool : P' ≡ (after e (record { pool = P; records = R }) o).pool
  pub records : R' ≡ (after e (record { pool = P; records = R }) o).records

-- a wipe of pool P and records R answers x and leaves P' and R'
pub record Wipes (e : Edition) (P R : List ℕ) (x : Result (Unit {0}) Refusal) (P' R' : List ℕ) : Type 0 where
  pub answer : x ≡ wipe_answer e P R
  pub pool : P' ≡ (after_wipe e (record { pool = P; records = R })).pool
  pub records : R' ≡ (after_wipe e (record { pool = P; records = R })).records

-- a read whose outcome is o answers x and leaves out' in the lent output
pub record Reads (o : Outcome (List ℕ)) (x : Result (Unit {0}) Refusal) (out out' : List ℕ) : Type 0 where
  pub answer : x ≡ finish_answer o
  pub output : out' ≡ read_out o out

-- what an answer says in document 01's terms: the values of a call that is done, or the number and the named slot of a refusal
pub data Said : Type 0 where
  yields : List ℕ → Said
  refuses : Refusal → Said

-- length, audit and create
unfoldable pub value_said : Result ℕ Refusal → Said
value_said (Ok n) = yields (n ∷ [])
value_said (Err r) = refuses r

-- read, wipe, write, resize and delete
unfoldable pub done_said : Result (Unit {0}) Refusal → Said
done_said (Ok v) = yields []
done_said (Err r) = refuses r

unfoldable pub leaf_said : Result (ℕ × ℕ) Refusal → Said
leaf_said (Ok (start, count)) = yields (start ∷ count ∷ [])
leaf_said (Err r) = refuses r

-- the same, and after its values the bytes that the call hands out
unfoldable pub said_with : Said → (bytes : List ℕ) → Said
said_with (yields vs) bytes = yields (vs ++ bytes)
said_with (refuses r) bytes = refuses r
