-- The four numbers of a head. What the functions leave in them is the definition's head again: opened, it stands at the blob's start, or hands out nothing;
-- after an asking it stands behind what was handed out.
use Rattle.std.specs.Prelude.{Err, Ok, Result}
use mathlib.Core.Path.{◌≡◌, ap, ◌∙◌, sym}
use mathlib.Core.List.{List, [], ◌∷◌}
use Prim.Native.Nat.{ℕ, ◌+◌, ◌-◌, min}
use native.Mathlib.Omega.{arith}
use borrow.Author.Tests.{eq-eqb, ne_eqb}
use lib.ListN.{length, get_or, set}
use Rattle.meaning.specs.Lists.{pick, joined}
use Rattle.meaning.specs.Change.{Change}
use Rattle.meaning.specs.Calls.{Outcome, refused, done, length_call}
use Rattle.meaning.specs.Answers.{answer_of, value_said}
use Rattle.meaning.specs.Head.{head_at, head_of, open_head, height_at, handed, moved, out_after, pieces, sum}
use Rattle.meaning.specs.declared.Edition.{Edition}
use Rattle.meaning.specs.declared.Refusal.{Refusal}
use Rattle.laws.proofs.Pieces.{pieces_are, piece_none}
use Rattle.answers.specs.Numbers.{value_numbers, numbers}
use Rattle.answers.proofs.NumbersOfCalls.{told_numbers_lem}
use Rattle.tjornsaki.specs.heads.{head_numbers, open_length, head_from, OpenNumbers, NextNumbers}

-- a head that is opened
pub head_opened : (root n : ℕ) (x : Result ℕ Refusal) → x ≡ Ok n → root ∷ 0 ∷ n ∷ 1 ∷ [] ≡ head_numbers root x
unfolding head_numbers
head_opened root n x e = rw e

pub head_refused : (root : ℕ) (q : Refusal) (x : Result ℕ Refusal) → x ≡ Err q → 0 ∷ 0 ∷ 0 ∷ 0 ∷ [] ≡ head_numbers root x
unfolding head_numbers
head_refused root q x e = rw e

pub open_numbers : (o : Outcome ℕ) (root : ℕ) (x : Result ℕ Refusal) (a h : List ℕ) → x ≡ answer_of o → h ≡ head_numbers root x → a ≡ numbers (value_said x)
    → OpenNumbers o root a h
open_numbers o root x a h e eh ea = record { answered = told_numbers_lem a o x e ea; opened = eh ∙ ap (head_numbers root) e }

-- the length of one that is open, and of another
pub length_open : (n k : ℕ) → k ≡ 1 → n ≡ open_length n k
unfolding open_length pick
length_open n k e = simp (eq-eqb k 1 e)

pub length_shut : (n k : ℕ) → (k ≡ 1 → ⊥) → 0 ≡ open_length n k
unfolding open_length pick
length_shut n k e = simp (ne_eqb k 1 e)

-- an asking
module _ (head out : List ℕ) (n : ℕ) (en : n ≡ open_length (get_or head 2 0) (get_or head 3 0)) (c : ℕ) (ec : c ≡ handed n (get_or head 1 0) (length out)) where
  pub next_numbers : (e : Edition) (P a out' : List ℕ) → a ≡ value_numbers c 0 → out' ≡ out_after e P (head_at (get_or head 0 0) (get_or head 1 0) n) out
      → NextNumbers e P head out a (set head 1 (get_or head 1 0 + c)) out'
  unfolding head_from moved
  next_numbers e P a out' ea eo =
      record { answered = ea ∙ rw (ec, en); moves = rw (ec, en); output = eo ∙ rw en }

-- the head that opening leaves for C: where it is done, the definition's opened head; refused, one that hands out nothing, whatever is asked
pub opened_is : (e : Edition) (P R : List ℕ) (r n : ℕ) {cs : List Change} → length_call e P R r ≡ done n cs
    → head_from (head_numbers r (answer_of (length_call e P R r))) ≡ open_head e P R r
unfolding head_from head_numbers open_length pick open_head head_of answer_of
opened_is e P R r n h = rw h

pub refused_hands_none : (e : Edition) (P R : List ℕ) (r : ℕ) (q : Refusal) → length_call e P R r ≡ refused q → (sizes : List ℕ)
    → joined (pieces e P (head_from (head_numbers r (answer_of (length_call e P R r)))) sizes) ≡ []
unfolding head_from head_numbers open_length pick answer_of
refused_hands_none e P R r q h sizes =
    let z : min (sum sizes) (0 - 0) ≡ 0 = omega arith in
    rw h (pieces_are e P 0 0 sizes 0 ∙ rw z (piece_none e P (height_at e P 0) 0 0))

-- and the head that an asking leaves is the definition's head after the asking
pub next_is : (root place len is_open k : ℕ) (h : List ℕ) → h ≡ root ∷ place ∷ len ∷ is_open ∷ []
    → head_from (set h 1 (moved (head_from h) k).place) ≡ moved (head_from h) k
unfolding head_from moved
next_is root place len is_open k h e = rw e

-- two outcomes that meet one promise are equal
pub one_opening : (o : Outcome ℕ) (root : ℕ) (a b h g : List ℕ) → OpenNumbers o root a h → OpenNumbers o root b g → (a ≡ b) × (h ≡ g)
one_opening o root a b h g x y = (x.answered ∙ sym y.answered, x.opened ∙ sym y.opened)

pub one_next : (e : Edition) (P head out a b h g o p : List ℕ) → NextNumbers e P head out a h o → NextNumbers e P head out b g p → (a ≡ b) × (h ≡ g) × (o ≡ p)
one_next e P head out a b h g o p x y = (x.answered ∙ sym y.answered, x.moves ∙ sym y.moves, x.output ∙ sym y.output)
