-- A new subtree by places: of lens, the first leaf; of free, the block made k-th.
use Rattle.std.specs.Prelude.{List, [], ◌∷◌, ℕ, zero, suc, ◌+◌, ◌^◌, length, get_or, replicate}
use Rattle.meaning.specs.Tree.{Tree}
use Rattle.laws_resize.specs.growth.Forms.{past, bulk, places}

-- how long the j-th of such leaves is
abbrev pub sizes : List ℕ → ℕ → ℕ
sizes lens j = get_or lens j 0

-- c elements, whose leaves lie step apart and whose blocks lie size apart
unfoldable pub row_at : {A : Type 0} → (ℕ → ℕ → A) → ℕ → ℕ → ℕ → ℕ → ℕ → List A
row_at f step size zero i k = []
row_at f step size (suc c) i k = f i k ∷ row_at f step size c (i + step) (k + size)

module _ (fan : ℕ) (lens free : List ℕ) where
  -- the subtree whose first leaf is lens' i-th and whose top is the block made k-th
  unfoldable pub at : (h : ℕ) → ℕ → ℕ → Tree h
  at zero i k = (get_or free k past, replicate (get_or lens i 0) 0)
  at (suc h) i k = (get_or free k past, row_at (at h) (fan ^ h) (bulk fan h) (places fan (length lens) fan h i) i (suc k))
