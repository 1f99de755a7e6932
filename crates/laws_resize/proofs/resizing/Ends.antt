-- Rows taken apart at their last element: what is done to the last of a row is done to the x of front ++ x ∷ []. So a claim of rows needs
-- no induction on lists, and a row on the right edge is a row off it, followed by one tree on it.
use mathlib.Core.Path.{◌≡◌, refl, sym, ap, ◌∙◌}
use mathlib.Core.Bool.{Bool, true, false}
use mathlib.Core.List.{List, [], ◌∷◌, ◌++◌, map, append-nil, append_assoc}
use Prim.Native.Nat.{ℕ, suc, ◌≤◌}
use native.Mathlib.Omega.{arith}
use lib.ListN.{length, length-append}
use Rattle.meaning.specs.declared.Edition.{Edition}
use Rattle.meaning.specs.Lists.{pick, joined, of_last, map_last}
use Rattle.meaning.specs.Shape.{least_count, InRow}
use Rattle.meaning.specs.Resize.{Grown, on_last}
use Rattle.laws.proofs.Positions.{row_append}

-- a claim of each front with a last is one of each list that is not empty
pub by_last : {A : Type 0} (P : List A → Type 0) → ((front : List A) (x : A) → P (front ++ (x ∷ []))) → (l : List A) → 1 ≤ length l → P l
by_last P f [] h = absurd (omega arith)
by_last P f (x ∷ []) h = f [] x
by_last P f (x ∷ (y ∷ ys)) h = by_last (λ l. P (x ∷ l)) (λ front z. f (x ∷ front) z) (y ∷ ys) (omega arith)

-- one more in a row
pub length_snoc : {A : Type 0} (l : List A) (x : A) → length (l ++ (x ∷ [])) ≡ suc (length l)
length_snoc l x = length-append l (x ∷ []) ∙ omega arith

-- what a row is joined to, by its last
pub joined_snoc : {A B : Type 0} (f : A → List B) (l : List A) (x : A) → joined (map f (l ++ (x ∷ []))) ≡ joined (map f l) ++ f x
unfolding joined
joined_snoc f [] x = append-nil (f x)
joined_snoc f (y ∷ l) x = rw (joined_snoc f l x) (sym (append_assoc (f y) (joined (map f l)) (f x)))

-- the last one changed
pub map_last_snoc : {A : Type 0} (f : A → A) (l : List A) (x : A) → map_last f (l ++ (x ∷ [])) ≡ l ++ (f x ∷ [])
unfolding map_last
map_last_snoc f [] x = refl
map_last_snoc f (y ∷ []) x = refl
map_last_snoc f (y ∷ (z ∷ l)) x = rw (map_last_snoc f (z ∷ l) x)

-- as many as before
pub map_last_length : {A : Type 0} (f : A → A) (l : List A) → length (map_last f l) ≡ length l
unfolding map_last
map_last_length f [] = refl
map_last_length f (x ∷ []) = refl
map_last_length f (x ∷ (y ∷ l)) = ap suc (map_last_length f (y ∷ l))

-- the last one changed, with the free slots left
pub on_last_snoc : {A : Type 0} (f : A → Grown A) (l : List A) (x : A) (free : List ℕ)
    → on_last f (l ++ (x ∷ [])) free ≡ record { made = l ++ ((f x).made ∷ []); free = (f x).free }
unfolding on_last
on_last_snoc f [] x free = refl
on_last_snoc f (y ∷ []) x free = refl
on_last_snoc f (y ∷ (z ∷ l)) x free = rw (on_last_snoc f (z ∷ l) x free)

-- a test of the last one
pub of_last_snoc : {A : Type 0} (p : A → Bool) (l : List A) (x : A) → of_last p (l ++ (x ∷ [])) ≡ p x
unfolding of_last
of_last_snoc p [] x = refl
of_last_snoc p (y ∷ []) x = refl
of_last_snoc p (y ∷ (z ∷ l)) x = of_last_snoc p (z ∷ l) x

module _ {A : Type 0} (on : Bool → A → Type 0) (edge : Bool) where
  -- one tree after a row off the edge
  pub row_snoc : (l : List A) (x : A) → InRow on false l → on edge x → InRow on edge (l ++ (x ∷ []))
  unfolding InRow
  row_snoc l x r a = row_append on edge l (x ∷ []) r a (omega arith)

  -- and apart again
  pub row_apart : (l : List A) (x : A) → InRow on edge (l ++ (x ∷ [])) → InRow on false l × on edge x
  unfolding InRow
  row_apart [] x r = (tt, r)
  row_apart (y ∷ []) x r = r
  row_apart (y ∷ (z ∷ l)) x r = let s = row_apart (z ∷ l) x r.1 in ((r.0, s.0), s.1)

  -- one tree off the edge before a row that is not empty
  pub row_cons : (x : A) (l : List A) → 1 ≤ length l → on false x → InRow on edge l → InRow on edge (x ∷ l)
  unfolding InRow
  row_cons x [] h a r = absurd (omega arith)
  row_cons x (y ∷ l) h a r = (a, r)

-- an inner block has a child
pub some_child : (e : Edition) → 2 ≤ e.fan → (h : ℕ) (edge root : Bool) (c : ℕ) → least_count e (suc h) edge root ≤ c → 1 ≤ c
unfolding least_count pick
some_child e two h true true c s = omega arith
some_child e two h true false c s = s
some_child e two h false root c s = omega arith
