-- A seat that code answers, and the definition's pair.
use Rattle.std.specs.Prelude.{◌≡◌, ℕ}
use Rattle.plan_tree.specs.declared.seats.Seat.{Seat}

pub record Sits (s : Seat) (l : ℕ × ℕ) : Type 0 where
  pub height : s.height ≡ l.0
  pub first : s.first ≡ l.1
