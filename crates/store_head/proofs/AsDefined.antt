-- The head that `open` returns is the definition's opened head, and the one that `next` returns is the definition's head after the asking: so what is proved
-- of the definition's heads (crates/promises/specs/Heads.antt) is so of these.
use Rattle.std.specs.Prelude.{Result}
use mathlib.Core.Path.{◌≡◌, refl}
use mathlib.Core.List.{List}
use Prim.Native.Nat.{ℕ}
use Rattle.meaning.specs.declared.Refusal.{Refusal}
use Rattle.meaning.specs.Edition.{one}
use Rattle.meaning.specs.Calls.{Outcome, refused, done, length_call}
use Rattle.meaning.specs.Answers.{answer_of}
use Rattle.meaning.specs.Head.{head_of, open_head, moved}
use Rattle.store_head.specs.Held.{bytes_of, head_in, place_after}

by_outcome : (r : ℕ) (o : Outcome ℕ) → head_in r 0 (answer_of o) ≡ head_of r o
unfolding head_in bytes_of answer_of head_of
by_outcome r (refused q) = refl
by_outcome r (done n cs) = refl

pub opened_is : (P R : List ℕ) (r : ℕ) (a : Result ℕ Refusal) → a ≡ answer_of (length_call one P R r) → head_in r 0 a ≡ open_head one P R r
unfolding open_head
opened_is P R r a ea = rw ea (by_outcome r (length_call one P R r))

pub next_is : (root place : ℕ) (a : Result ℕ Refusal) (k : ℕ) → head_in root (place_after root place a k) a ≡ moved (head_in root place a) k
unfolding head_in place_after moved
next_is root place a k = refl
