-- A claim of each element of a list: of lists in a row, of what follows from the claim, of a member, and of the numbers of a range.
use mathlib.Core.Path.{refl, subst, sym}
use mathlib.Core.List.{List, [], ◌∷◌, ◌++◌, Memᴰ}
use Prim.Native.Nat.{ℕ, zero, suc, ◌+◌, ◌≤◌, ◌<◌}
use native.Mathlib.Omega.{arith}
use borrow.Author.Tests.{eqb-true, eqb-false}
use lib.Dec.{eqb}
use Rattle.meaning.specs.Lists.{range}
use Rattle.laws.proofs.Inversions.{by_test}

-- Q holds of each element
abbrev pub Every : {A : Type 0} → (A → Type 0) → List A → Type 0
Every Q [] = Unit {0}
Every Q (x ∷ xs) = Q x × Every Q xs

module _ {A : Type 0} (Q : A → Type 0) where
  -- of two lists in a row: of the first
  pub every_left : (xs ys : List A) → Every Q (xs ++ ys) → Every Q xs
  every_left [] ys h = tt
  every_left (x ∷ xs) ys h = (h.0, every_left xs ys h.1)

  -- and of the second
  pub every_right : (xs ys : List A) → Every Q (xs ++ ys) → Every Q ys
  every_right [] ys h = h
  every_right (x ∷ xs) ys h = every_right xs ys h.1

  -- of both, of both in a row
  pub every_append : (xs ys : List A) → Every Q xs → Every Q ys → Every Q (xs ++ ys)
  every_append [] ys h k = k
  every_append (x ∷ xs) ys h k = (h.0, every_append xs ys h.1 k)

  -- what follows from the claim holds of each as well
  pub every_weaker : (Q' : A → Type 0) → ((x : A) → Q x → Q' x) → (xs : List A) → Every Q xs → Every Q' xs
  every_weaker Q' f [] h = tt
  every_weaker Q' f (x ∷ xs) h = (f x h.0, every_weaker Q' f xs h.1)

  -- the claim holds of every member
  pub every_mem : {x : A} {xs : List A} → Every Q xs → Memᴰ x xs → Q x
  every_mem h (Memᴰ.head p) = subst Q (sym p) h.0
  every_mem h (Memᴰ.tail m) = every_mem h.1 m

  -- and what holds of every member holds of each
  pub mem_every : (xs : List A) → ((x : A) → Memᴰ x xs → Q x) → Every Q xs
  mem_every [] f = tt
  mem_every (x ∷ xs) f = (f x (Memᴰ.head refl), mem_every xs (λ y m. f y (Memᴰ.tail m)))

-- what holds of every number of a range holds of each element of it
pub range_every : (Q : ℕ → Type 0) (n from : ℕ) → ((x : ℕ) → from ≤ x → x < from + n → Q x) → Every Q (range from n)
unfolding range
range_every Q zero from f = tt
range_every Q (suc n) from f = (f from (omega arith) (omega arith), range_every Q n (suc from) (λ x h k. f x (omega arith) (omega arith)))

-- what holds of each element of a range holds of every number of it
pub every_range : (Q : ℕ → Type 0) (n from : ℕ) → Every Q (range from n) → (x : ℕ) → from ≤ x → x < from + n → Q x
unfolding range
every_range Q zero from q x h k = absurd (omega arith)
every_range Q (suc n) from q x h k =
    by_test (eqb from x)
    (λ t. subst Q (eqb-true from x t) q.0)
    (λ t. let other = eqb-false from x t in every_range Q n (suc from) q.1 x (omega arith) (omega arith))
