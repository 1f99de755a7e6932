-- The loop that puts slots into a payload: after i turns the first i of them are pasted, one behind the other.
use mathlib.Core.Path.{◌≡◌, refl, ap, ◌∙◌, sym}
use mathlib.Core.List.{List, [], ◌∷◌, ◌++◌, map, append-nil}
use Prim.Native.Nat.{ℕ, zero, suc, ◌+◌, ◌*◌, ◌^◌, ◌≤◌, ◌<◌}
use native.Mathlib.Numerals.{add-one}
use native.Mathlib.Omega.{arith}
use lib.ListN.{length, get_or}
use Rattle.meaning.specs.Lists.{joined, bytes, pasted}
use Rattle.laws.proofs.Numbers.{bytes_length}
use Rattle.laws.proofs.Parts.{pasted_none}
use Rattle.laws.proofs.Codec.{fours_length}
use Rattle.laws_resize.specs.growth.Forms.{past, every}
use Rattle.laws_resize.proofs.growth.FormsByCases.{every_length}
use Rattle.laws.proofs.Building.{pasted_more}
use Rattle.plan_slot.proofs.payload.Rows.{spelled_append}

-- slots taken at equal steps: one more, at the end
pub every_more : (free : List ℕ) (step c k : ℕ) → every free step (suc c) k ≡ every free step c k ++ (get_or free (k + c * step) past ∷ [])
unfolding every
every_more free step zero k = let z : k + 0 * step ≡ k = omega arith in rw z
every_more free step (suc c) k =
    let z : k + suc c * step ≡ k + step + c * step = omega arith in
    rw z (ap {B = List ℕ} (λ l. get_or free k past ∷ l) (every_more free step c (k + step)))

-- the loop's invariant: what is pasted after i turns, and which slot is next
unfoldable pub Put : (free : List ℕ) → (at from step i k : ℕ) → (l₀ l : List ℕ) → Type 0
Put free at from step i k l₀ l = (k ≡ from + i * step) × (l ≡ pasted (4 * at) (joined (map (bytes 4) (every free step i from))) l₀)

-- at the start
pub put_none : (free : List ℕ) (at from step count : ℕ) (l₀ : List ℕ) → 4 * (at + count) ≤ length l₀ → Put free at from step 0 from l₀ l₀
unfolding Put every joined
put_none free at from step count l₀ h = (omega arith, sym (pasted_none (4 * at) [] l₀ refl))

-- one turn
pub put_more : (free : List ℕ) (at from step count i k x : ℕ) (l₀ l l₁ : List ℕ) → 4 * (at + count) ≤ length l₀ → i < count
    → Put free at from step i k l₀ l → bytes 4 x ≡ bytes 4 (get_or free k (2 ^ 32)) → l₁ ≡ pasted (4 * (at + i)) (bytes 4 x) l
    → Put free at from step (i + 1) (k + step) l₀ l₁
unfolding Put joined
put_more free at from step count i k x l₀ l l₁ fits less inv ex e =
    let row = every free step i from in
    let n : length row ≡ i = every_length free step i from in
    let s : length (joined (map (bytes 4) row)) ≡ 4 * i = fours_length row ∙ ap (λ (j : ℕ). 4 * j) n in
    let b : length (bytes 4 x) ≡ 4 = bytes_length 4 x in
    let a : 4 * (at + i) ≡ 4 * at + length (joined (map (bytes 4) row)) = omega arith in
    let y : bytes 4 x ≡ joined (map (bytes 4) (get_or free (from + i * step) past ∷ [])) =
    ex ∙ ap (λ (j : ℕ). bytes 4 (get_or free j past)) inv.0 ∙ sym (append-nil (bytes 4 (get_or free (from + i * step) past))) in
    let more : every free step (i + 1) from ≡ row ++ (get_or free (from + i * step) past ∷ []) = rw add-one (every_more free step i from) in (
      omega (arith, inv.0),
      e ∙ ap (pasted (4 * (at + i)) (bytes 4 x)) inv.1
          ∙ ap (λ (j : ℕ). pasted j (bytes 4 x) (pasted (4 * at) (joined (map (bytes 4) row)) l₀)) a
          ∙ pasted_more (4 * at) (joined (map (bytes 4) row)) (bytes 4 x) l₀ (omega arith)
          ∙ ap (λ (z : List ℕ). pasted (4 * at) (joined (map (bytes 4) row) ++ z) l₀) y
          ∙ ap (λ (z : List ℕ). pasted (4 * at) z l₀) (sym (spelled_append row (get_or free (from + i * step) past ∷ [])))
          ∙ ap (λ (z : List ℕ). pasted (4 * at) (joined (map (bytes 4) z)) l₀) (sym more),
    )

-- at the end
pub put_all : (free : List ℕ) (at from step count i k : ℕ) (l₀ l : List ℕ) → i ≤ count → count ≤ i → Put free at from step i k l₀ l
    → l ≡ pasted (4 * at) (joined (map (bytes 4) (every free step count from))) l₀
unfolding Put
put_all free at from step count i k l₀ l low high inv =
    let z : i ≡ count = omega arith in
    inv.1 ∙ ap (λ (j : ℕ). pasted (4 * at) (joined (map (bytes 4) (every free step j from))) l₀) z
