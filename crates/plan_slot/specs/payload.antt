-- A cell as code holds it.
use Rattle.std.specs.Prelude.{◌≡◌, List, ℕ, ◌≤◌, length}
use Rattle.meaning.specs.declared.Edition.{Edition}
use Rattle.meaning.specs.Lists.{padded}
use Rattle.meaning.specs.Bytes.{Cell, item_bytes}
use Rattle.plan_slot.specs.declared.payload.Drawn.{Drawn}

-- d and the payload x are the cell c: its height, its count, and its row's bytes with zeros after
pub record Draws (e : Edition) (c : Cell) (d : Drawn) (x : List ℕ) : Type 0 where
  pub height : d.height ≡ c.height
  pub count : d.count ≡ length c.items
  pub payload : x ≡ padded e.leaf (item_bytes c.height c.items)
  pub fits : length (item_bytes c.height c.items) ≤ e.leaf
