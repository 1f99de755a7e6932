-- The row after leaf slots were put into it.
use mathlib.Core.Path.{◌≡◌, refl, ap, ◌∙◌, sym}
use mathlib.Core.List.{List, [], ◌∷◌, ◌++◌, append_assoc, append-nil}
use Prim.Native.Nat.{ℕ, suc, ◌+◌, ◌≤◌}
use native.Mathlib.Numerals.{add-one}
use native.Mathlib.Omega.{arith}
use lib.ListN.{length, take, set, length-set}
use lib.Seq.{take-suc-set}
use Rattle.check_blob.specs.notes.{put_all}

-- what is put from at on stands there
pub put_there : (l : List ℕ) (at : ℕ) (xs : List ℕ) → at + length xs ≤ length l → take (at + length xs) (put_all l at xs) ≡ take at l ++ xs
unfolding put_all
put_there l at [] h = let z : at + 0 ≡ at = omega arith in rw z (sym (append-nil (take at l)))
put_there l at (x ∷ xs) h =
    let z : at + suc (length xs) ≡ at + 1 + length xs = omega arith in
    let k : at + 1 + length xs ≤ length (set l at x) = rw length-set (omega arith) in
    let s : take (at + 1) (set l at x) ≡ take at l ++ (x ∷ []) = rw add-one (take-suc-set l at x (omega arith)) in
    rw z (put_there (set l at x) (at + 1) xs k ∙ ap (λ (a : List ℕ). a ++ xs) s ∙ append_assoc (take at l) (x ∷ []) xs)

-- and the row stays as long
pub put_length : (l : List ℕ) (at : ℕ) (xs : List ℕ) → length (put_all l at xs) ≡ length l
unfolding put_all
put_length l at [] = refl
put_length l at (x ∷ xs) = put_length (set l at x) (at + 1) xs ∙ length-set l at x
