-- What the root holds at a height, case by case: at its old height, above it, and its height in each case.
use mathlib.Core.Path.{◌≡◌, refl}
use mathlib.Core.List.{List}
use Prim.Native.Nat.{ℕ, suc, ◌-◌, ◌^◌, ◌≤◌}
use native.Mathlib.Omega.{arith}
use lib.Dec.{eqb}
use borrow.Author.Tests.{eq-eqb, ne_eqb, eqb-true, eqb-false}
use Rattle.meaning.specs.declared.Edition.{Edition}
use Rattle.meaning.specs.Lists.{pick}
use Rattle.laws.proofs.Inversions.{by_test}
use Rattle.laws_resize.specs.growth.Forms.{bulk, above, new_leaves, new_bytes, top_cell}
use Rattle.laws_resize.specs.rising.{top_at}

module _ (e : Edition) (len n t : ℕ) (free : List ℕ) (h : ℕ) (row : List ℕ) where
  -- at its old height it has its own row, filled
  pub top_own : top_at e len n t free h row h ≡ top_cell e len n free h row
  unfolding top_at pick
  top_own = rw (eq-eqb h h refl)

  -- one above g it has the child that took its row, and new ones
  pub top_next : (g : ℕ) → h ≤ g → top_at e len n t free h row (suc g)
      ≡ above e.fan (new_leaves e len n free) (new_bytes e len n free) free g (e.fan ^ g - n) (bulk e.fan g - t)
  unfolding top_at pick
  top_next g high = let z : suc g - 1 ≡ g = omega arith in rw (ne_eqb (suc g) h (λ q. omega arith), z)

  -- it is as high as it says
  pub top_height : (g : ℕ) → h ≤ g → (top_at e len n t free h row g).height ≡ g
  unfolding top_at pick top_cell above
  top_height g high =
      by_test (eqb g h) (λ u. rw u (let z : g ≡ h = eqb-true g h u in omega arith))
      (λ u. rw u (let z : (g ≡ h → ⊥) = eqb-false g h u in omega arith))
