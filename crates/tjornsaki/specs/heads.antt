-- A head as four numbers for C, and what the two functions leave in them.
use Rattle.std.specs.Prelude.{◌≡◌, List, [], ◌∷◌, ℕ, eqb, length, get_or, set, Err, Ok, Result}
use Rattle.meaning.specs.declared.Refusal.{Refusal}
use Rattle.meaning.specs.Lists.{pick}
use Rattle.meaning.specs.Calls.{Outcome}
use Rattle.meaning.specs.Answers.{answer_of}
use Rattle.meaning.specs.Head.{Head, head_at, handed, moved, out_after}
use Rattle.meaning.specs.declared.Edition.{Edition}
use Rattle.answers.specs.Numbers.{value_numbers, told_numbers}

-- a head that is opened: root, place 0, length, 1; all 0, if it is refused
unfoldable pub head_numbers : (root : ℕ) → Result ℕ Refusal → List ℕ
head_numbers root (Ok n) = root ∷ 0 ∷ n ∷ 1 ∷ []
head_numbers root (Err r) = 0 ∷ 0 ∷ 0 ∷ 0 ∷ []

-- any four numbers as a head: it is open if the fourth is 1; of one that is not, nothing remains
unfoldable pub open_length : (len is_open : ℕ) → ℕ
open_length len is_open = pick (eqb is_open 1) len 0

unfoldable pub head_from : (head : List ℕ) → Head
head_from head = head_at (get_or head 0 0) (get_or head 1 0) (open_length (get_or head 2 0) (get_or head 3 0))

-- opening, with the outcome of length, leaves these numbers in the answer and in the head
pub record OpenNumbers (o : Outcome ℕ) (root : ℕ) (answer head : List ℕ) : Type 0 where
  pub answered : answer ≡ told_numbers o
  pub opened : head ≡ head_numbers root (answer_of o)

-- an asking leaves in the answer how many bytes were handed out, moves the head's place by as many, and puts them into the lent output
pub record NextNumbers (e : Edition) (P head out answer head' out' : List ℕ) : Type 0 where
  pub answered : answer ≡ value_numbers (handed (head_from head).length (head_from head).place (length out)) 0
  pub moves : head' ≡ set head 1 (moved (head_from head) (length out)).place
  pub output : out' ≡ out_after e P (head_from head) out
