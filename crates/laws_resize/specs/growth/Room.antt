-- The shape that leaf by leaf growth keeps: full off the right edge, and on it room for r more leaves.
use Rattle.std.specs.Prelude.{◌≡◌, List, [], ◌∷◌, ◌++◌, ℕ, zero, suc, ◌+◌, ◌-◌, ◌*◌, ◌^◌, ◌<◌, length}
use Rattle.meaning.specs.Tree.{Tree, leaves}
use Rattle.laws.proofs.Every.{Every}

-- how many leaves a tree has
abbrev pub count : (h : ℕ) → Tree h → ℕ
count h t = length (leaves h t)

-- a row whose elements are full but for the last, in a block of fan places, each for each leaves
pub record RoomRow {A : Type 0} (P : A → ℕ → Type 0) (fan each : ℕ) (row : List A) (r : ℕ) : Type 0 where
  pub front : List A
  pub end : A
  pub left : ℕ
  pub split : row ≡ front ++ end ∷ []
  pub full : Every (λ x. P x 0) front
  pub last : P end left
  pub fits : length front < fan
  pub room : r ≡ left + (fan - suc (length front)) * each

-- a tree with room for r more leaves
abbrev pub Room : ℕ → (h : ℕ) → Tree h → ℕ → Type 0
Room fan zero t r = r ≡ 0
Room fan (suc h) t r = RoomRow (Room fan h) fan (fan ^ h) t.1 r
