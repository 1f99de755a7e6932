-- A sheet's rule, settled once for the whole sheet: that the sheet is the list of what the rule gives for 1, 2, .. is one equation, which the checker
-- computes; that the rule then holds at each row is one law, for any rule and any number of rows.
use mathlib.Core.Path.{◌≡◌, ap, ◌∙◌, sym}
use mathlib.Core.List.{List, map}
use Prim.Native.Nat.{ℕ, zero, suc, ◌+◌, ◌<◌}
use native.Mathlib.Nat.{add-zero}
use native.Mathlib.Omega.{arith}
use lib.ListN.{get_or}
use Rattle.meaning.specs.Lists.{range}

-- row k of what a rule gives for a range is what it gives for the k-th number from the first
row_of : (rule : ℕ → ℕ) (from rows k : ℕ) → k < rows → get_or (map rule (range from rows)) k 0 ≡ rule (from + k)
unfolding range
row_of rule from zero k h = absurd (omega arith)
row_of rule from (suc rows) zero h = ap rule (sym (add-zero from))
row_of rule from (suc rows) (suc k) h = row_of rule (suc from) rows k (omega arith) ∙ ap rule (omega arith)

-- row k of a sheet that is what a rule gives for 1, 2, .. is what it gives for k + 1
pub row_right : (rule : ℕ → ℕ) (rows : ℕ) {sheet : List ℕ} → sheet ≡ map rule (range 1 rows) → (k : ℕ) → k < rows → get_or sheet k 0 ≡ rule (k + 1)
row_right rule rows right k h = ap (λ (l : List ℕ). get_or l k 0) right ∙ (row_of rule 1 rows k h ∙ ap rule (omega arith))
