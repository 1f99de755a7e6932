-- Whether a resized block is the same, by numbers alone: what it holds afterwards begins with what it held, or is the beginning of it; so it is the
-- same exactly if its height and its count are, and no byte is compared.
use mathlib.Core.Path.{◌≡◌, refl, ◌∙◌}
use mathlib.Core.Bool.{false}
use mathlib.Core.List.{List, [], ◌∷◌, ◌++◌}
use Prim.Native.Nat.{ℕ, zero, suc, ◌-◌, ◌*◌, ◌^◌, ◌≤◌}
use lib.Dec.{eqb, eqb-zero-suc, eqb-suc-zero, eqb-suc-suc}
use lib.ListN.{length, take}
use borrow.Author.Tests.{eq-eqb, ne_eqb}
use Rattle.meaning.specs.declared.Edition.{Edition}
use Rattle.meaning.specs.Lists.{both, same_list}
use Rattle.meaning.specs.Bytes.{Cell, same_cell}
use Rattle.meaning.specs.Shape.{up, leaves_for}
use Rattle.meaning.specs.Resize.{share}
use Rattle.laws_resize.specs.growth.Forms.{grown_row}
use Rattle.laws_resize.specs.growth.Cuts.{cut_row}
use Rattle.laws_resize.proofs.growth.FormsByCases.{grown_leaf}

-- a list and one that begins with it
pub same_front : (a b : List ℕ) → same_list a (a ++ b) ≡ eqb (length (a ++ b)) (length a)
unfolding same_list both
same_front [] [] = refl
same_front [] (y ∷ ys) = rw (eqb-suc-zero (length ys))
same_front (x ∷ xs) b = rw (eq-eqb x x refl, eqb-suc-suc (length (xs ++ b)) (length xs)) (same_front xs b)

-- a list and its beginning
pub same_take : (k : ℕ) (a : List ℕ) → same_list a (take k a) ≡ eqb (length (take k a)) (length a)
unfolding same_list both
same_take zero [] = refl
same_take zero (x ∷ xs) = rw (eqb-zero-suc (length xs))
same_take (suc k) [] = refl
same_take (suc k) (x ∷ xs) = rw (eq-eqb x x refl, eqb-suc-suc (length (take k xs)) (length xs)) (same_take k xs)

-- another height is another block
pub same_heights : (a b : Cell) → (a.height ≡ b.height → ⊥) → same_cell a b ≡ false
unfolding same_cell both
same_heights a b other = rw (ne_eqb a.height b.height other)

-- with the same height the rows decide
same_rows : (h : ℕ) (a b : List ℕ) → same_cell (record { height = h; items = a }) (record { height = h; items = b }) ≡ same_list a b
unfolding same_cell both
same_rows h a b = rw (eq-eqb h h refl)

-- a block that gets longer
pub same_grown : (e : Edition) (len n : ℕ) (free : List ℕ) (h i : ℕ) (row : List ℕ) → (h ≡ 0 → length row ≤ share e len i)
    → same_cell (record { height = h; items = row }) (record { height = h; items = grown_row e len n free h i row })
    ≡ eqb (length (grown_row e len n free h i row)) (length row)
unfolding grown_row
same_grown e len n free zero i row fits = same_rows 0 row _ ∙ leaf
  where
    leaf : same_list row (grown_row e len n free zero i row) ≡ eqb (length (grown_row e len n free zero i row)) (length row)
    leaf = rw (grown_leaf e len n free i row (fits refl)) (same_front row _)
same_grown e len n free (suc h) i row fits = same_rows (suc h) row _ ∙ same_front row _

-- a block that is cut
pub same_cut : (e : Edition) (len h i : ℕ) (row : List ℕ)
    → same_cell (record { height = h; items = row }) (record { height = h; items = cut_row e len h i row })
    ≡ eqb (length (cut_row e len h i row)) (length row)
unfolding cut_row
same_cut e len zero i row = same_rows 0 row _ ∙ same_take (len - e.leaf * i) row
same_cut e len (suc h) i row = same_rows (suc h) row _ ∙ same_take (up (leaves_for e.leaf len - i) (e.fan ^ h)) row
