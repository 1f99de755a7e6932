-- Where a slot's block and record are stored, and the scratch in which the block is built.
use Rattle.std.specs.Prelude.{◌≡◌, List, ℕ, ◌+◌, ◌*◌, ◌≤◌, length}
use Rattle.meaning.specs.declared.Edition.{Edition}

pub record Places (e : Edition) (P R x : List ℕ) (s : ℕ) : Type 0 where
  pub block : e.size * s + e.size ≤ length P
  pub line : 12 * s + 12 ≤ length R
  pub scratch : length x ≡ e.size
