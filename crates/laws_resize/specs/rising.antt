-- The root of a blob of n leaves and t blocks that gets len bytes long, at each height that it comes to.
use Rattle.std.specs.Prelude.{List, ℕ, ◌-◌, ◌^◌, eqb}
use Rattle.meaning.specs.declared.Edition.{Edition}
use Rattle.meaning.specs.Lists.{pick}
use Rattle.meaning.specs.Bytes.{Cell}
use Rattle.laws_resize.specs.growth.Forms.{bulk, above, new_leaves, new_bytes, top_cell}

-- what the root holds when it is full at height g: at its old height h its own row, filled; above it the child that took its row and new children
unfoldable pub top_at : Edition → (len n t : ℕ) → (free : List ℕ) → (h : ℕ) → (row : List ℕ) → (g : ℕ) → Cell
top_at e len n t free h row g =
    let risen = above e.fan (new_leaves e len n free) (new_bytes e len n free) free (g - 1) (e.fan ^ (g - 1) - n) (bulk e.fan (g - 1) - t) in
    pick (eqb g h) (top_cell e len n free h row) risen
