-- Bytes are all zero just if the number in them is 0; so all of a list are if the numbers in its eights are, and what is left.
use mathlib.Core.Path.{◌≡◌, refl, ap, ◌∙◌, sym}
use mathlib.Core.Bool.{Bool, true, false, ◌&&◌}
use mathlib.Core.List.{List, [], ◌∷◌, ◌++◌}
use Prim.Native.Nat.{ℕ, zero, suc, ◌+◌, ◌*◌, ◌/◌, ◌≤◌}
use native.Mathlib.Omega.{arith}
use borrow.Author.Tests.{eq-eqb, ne_eqb, eqb-true, eqb-false}
use lib.Dec.{eqb}
use lib.ListN.{length, take, drop, length-drop, take-append-drop}
use lib.Seq.{take-add, drop-drop}
use Rattle.std.specs.Prelude.{◌==◌}
use Rattle.std.specs.List.{list_all}
use Rattle.std.specs.Int.{w64, from_le_bytes}
use Rattle.std.specs.Simd.{first_chunks}
use Rattle.meaning.specs.Lists.{both, all, part, number, zeros}
use Rattle.laws.proofs.Inversions.{by_test}
use Rattle.base_bytes.proofs.number.LittleEndian.{number_eight}

-- the bytes of 0
zero_number : (l : List ℕ) → number l ≡ 0 → zeros l ≡ true
unfolding number zeros all both
zero_number [] h = refl
zero_number (b ∷ l) h =
    let n : number l ≡ 0 = omega arith in
    let e : b ≡ 0 = omega arith in
    rw (eq-eqb b 0 e) (zero_number l n)

zeros_cons : (b : ℕ) (l : List ℕ) → b ≡ 0 → zeros l ≡ false → zeros (b ∷ l) ≡ false
unfolding zeros all both
zeros_cons b l e h = rw (eq-eqb b 0 e) h

zeros_first : (b : ℕ) (l : List ℕ) → (b ≡ 0 → ⊥) → zeros (b ∷ l) ≡ false
unfolding zeros all both
zeros_first b l n = simp (ne_eqb b 0 n)

-- the bytes of another number
some_number : (l : List ℕ) → (number l ≡ 0 → ⊥) → zeros l ≡ false
unfolding number
some_number [] h = absurd (h refl)
some_number (zero ∷ l) h = zeros_cons 0 l refl (some_number l (λ n. h (omega arith)))
some_number (suc b ∷ l) h = zeros_first (suc b) l (λ n. omega arith)

-- the number in a list of bytes is 0 just if all of them are
number_zeros : (l : List ℕ) → eqb (number l) 0 ≡ zeros l
number_zeros l =
    by_test (eqb (number l) 0)
    (λ t. t ∙ sym (zero_number l (eqb-true (number l) 0 t)))
    (λ t. t ∙ sym (some_number l (eqb-false (number l) 0 t)))

both_after : (s t u : Bool) → both s (both t u) ≡ both (both s t) u
unfolding both
both_after true t u = refl
both_after false t u = refl

-- bytes one list after the other
both_zeros : (l m : List ℕ) → zeros (l ++ m) ≡ both (zeros l) (zeros m)
unfolding zeros all both
both_zeros [] m = refl
both_zeros (b ∷ l) m = ap (both (eqb b 0)) (both_zeros l m) ∙ both_after (eqb b 0) (zeros l) (zeros m)

and_both : (s t : Bool) → s && t ≡ both s t
unfolding both
and_both true t = refl
and_both false t = refl

-- the library's test that all are zero
pub all_zeros : (l : List ℕ) → list_all (λ (b : ℕ). b == 0) l ≡ zeros l
unfolding zeros all both
all_zeros [] = refl
all_zeros (b ∷ l) = by_test (eqb b 0) (λ t. rw t (all_zeros l)) (λ t. rw t refl)

-- and its test that all eights of bytes are
all_eights : (k : ℕ) (l : List ℕ) → k * 8 ≤ length l → list_all zeros (first_chunks 8 k l) ≡ zeros (take (k * 8) l)
unfolding zeros all
all_eights zero l h = refl
all_eights (suc k) l h =
    let m : suc k * 8 ≡ 8 + k * 8 = omega arith in
    and_both (zeros (take 8 l)) (list_all zeros (first_chunks 8 k (drop 8 l)))
    ∙ ap (both (zeros (take 8 l))) (all_eights k (drop 8 l) (rw length-drop (omega arith)))
    ∙ sym (ap (λ (n : ℕ). zeros (take n l)) m ∙ ap zeros (take-add 8 (k * 8) l) ∙ both_zeros (take 8 l) (take (k * 8) (drop 8 l)))

-- eight bytes
pub eight_zeros : (l : List ℕ) → length l ≡ 8 → (n : ℕ) → n ≡ from_le_bytes w64 l → eqb n 0 ≡ zeros l
eight_zeros l h n e = ap (λ (m : ℕ). eqb m 0) (e ∙ number_eight l h) ∙ number_zeros l

-- so all bytes are zero just if the eights are, and the bytes after them
module _ (l : List ℕ) (r : Bool) (ran : r ≡ list_all zeros (first_chunks 8 (length l / 8) l)) where
  split : zeros l ≡ both r (zeros (drop (length l / 8 * 8) l))
  split =
      ap zeros (sym (take-append-drop (length l / 8 * 8) l))
      ∙ both_zeros (take (length l / 8 * 8) l) (drop (length l / 8 * 8) l)
      ∙ ap (λ (t : Bool). both t (zeros (drop (length l / 8 * 8) l))) (sym (ran ∙ all_eights (length l / 8) l (omega arith)))

  pub eights_stop : r ≡ false → r ≡ zeros l
  unfolding both
  eights_stop f = f ∙ sym (split ∙ rw f refl)

  pub eights_passed : r ≡ true → (t : Bool) → t ≡ list_all (λ (b : ℕ). b == 0) (drop (length l / 8 * 8) l) → t ≡ zeros l
  unfolding both
  eights_passed e t after = after ∙ all_zeros (drop (length l / 8 * 8) l) ∙ sym (split ∙ rw e refl)

-- whether all are zero, where those before i are, and x is the number in the eight from i on
module _ (l : List ℕ) (i : ℕ) (inv : zeros l ≡ zeros (drop i l)) (x : ℕ) (ex : x ≡ number (part i 8 l)) where
  from_there : zeros l ≡ both (zeros (part i 8 l)) (zeros (drop (i + 8) l))
  unfolding part
  from_there =
      inv ∙ ap zeros (sym (take-append-drop 8 (drop i l)))
      ∙ both_zeros (take 8 (drop i l)) (drop 8 (drop i l))
      ∙ ap (λ (r : List ℕ). both (zeros (take 8 (drop i l))) (zeros r)) (drop-drop 8 i l)

  pub eight_stop : (x ≡ 0 → ⊥) → false ≡ zeros l
  unfolding both
  eight_stop n = sym (from_there ∙ rw (some_number (part i 8 l) (λ z. n (ex ∙ z))))

  pub eight_more : x ≡ 0 → zeros l ≡ zeros (drop (i + 8) l)
  unfolding both
  eight_more z = from_there ∙ rw (zero_number (part i 8 l) (sym ex ∙ z))
