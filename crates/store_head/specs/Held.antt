-- A head that holds its pool, and the definition's head that it is.
use Rattle.std.specs.Prelude.{ℕ, List, Err, Ok, Result}
use Rattle.meaning.specs.declared.Refusal.{Refusal}
use Rattle.meaning.specs.Edition.{one}
use Rattle.meaning.specs.Head as definition
use Rattle.meaning.specs.Head.{head_at, moved, out_after}
use Rattle.store_head.specs.declared.Head.{Head}

-- how many bytes the blob has, by what opening answered; none, where it was refused
unfoldable pub bytes_of : Result ℕ Refusal → ℕ
bytes_of (Ok n) = n
bytes_of (Err r) = 0

unfoldable pub head_in : (root place : ℕ) → Result ℕ Refusal → definition.Head
head_in root place a = head_at root place (bytes_of a)

-- the place after so many bytes were asked for, and the lent output then
unfoldable pub place_after : (root place : ℕ) → Result ℕ Refusal → (asked : ℕ) → ℕ
place_after root place a asked = (moved (head_in root place a) asked).place

unfoldable pub out_from : (P : List ℕ) → (root place : ℕ) → Result ℕ Refusal → (out : List ℕ) → List ℕ
out_from P root place a out = out_after one P (head_in root place a) out

-- the head after that
abbrev pub head_after : Head → (asked : ℕ) → Head
head_after h asked =
    record { pool = h.pool; root = h.root; place = place_after h.root h.place h.answer asked; answer = h.answer }
