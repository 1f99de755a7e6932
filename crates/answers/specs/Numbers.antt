-- The eight numbers that a call leaves in the lent answer, from what its answer says in document 01's terms.
use Rattle.std.specs.Prelude.{◌≡◌, List, [], ◌∷◌, ℕ, None}
use Rattle.meaning.specs.Refusals.{number_of, slot_number}
use Rattle.meaning.specs.Calls.{Outcome, after_wipe}
use Rattle.meaning.specs.Answers.{answer_of, finish_answer, wipe_answer, leaf_answer, read_out}
use Rattle.meaning.specs.Answers.{Said, yields, refuses, value_said, done_said, leaf_said}
use Rattle.meaning.specs.declared.Edition.{Edition}
use Rattle.meaning.specs.declared.Refusal.{Refusal}

-- done, with up to two values: refusal number 0, no slot, the values, four zeros
unfoldable pub value_numbers : (first second : ℕ) → List ℕ
value_numbers first second = 0 ∷ slot_number None ∷ first ∷ second ∷ 0 ∷ 0 ∷ 0 ∷ 0 ∷ []

-- refused: the refusal's number, the named slot, six zeros
unfoldable pub refusal_numbers : Refusal → List ℕ
refusal_numbers r = number_of r.reason ∷ slot_number r.named ∷ 0 ∷ 0 ∷ 0 ∷ 0 ∷ 0 ∷ 0 ∷ []

-- an answer says at most two values
unfoldable pub numbers : Said → List ℕ
numbers (refuses r) = refusal_numbers r
numbers (yields []) = value_numbers 0 0
numbers (yields (a ∷ [])) = value_numbers a 0
numbers (yields (a ∷ b ∷ _)) = value_numbers a b

-- each call's outcome as its eight numbers: length, audit and create
unfoldable pub told_numbers : Outcome ℕ → List ℕ
told_numbers o = numbers (value_said (answer_of o))

-- write, resize and delete
unfoldable pub change_numbers : Outcome (Unit {0}) → List ℕ
change_numbers o = numbers (done_said (answer_of o))

-- read
unfoldable pub finish_numbers : {A : Type 0} → Outcome A → List ℕ
finish_numbers o = numbers (done_said (finish_answer o))

-- show: where in the pool the leaf's data bytes start, and how many they are
unfoldable pub leaf_numbers : Edition → Outcome (ℕ × ℕ) → List ℕ
leaf_numbers e o = numbers (leaf_said (leaf_answer e o))

-- a read whose outcome is o leaves the numbers a and, in the lent output, out'
pub record ReadNumbers (o : Outcome (List ℕ)) (a out out' : List ℕ) : Type 0 where
  pub answer : a ≡ finish_numbers o
  pub output : out' ≡ read_out o out

-- a wipe of pool P and records R leaves the numbers a, and P' and R'
pub record WipeNumbers (e : Edition) (P R a P' R' : List ℕ) : Type 0 where
  pub answer : a ≡ numbers (done_said (wipe_answer e P R))
  pub pool : P' ≡ (after_wipe e (record { pool = P; records = R })).pool
  pub records : R' ≡ (after_wipe e (record { pool = P; records = R })).records
