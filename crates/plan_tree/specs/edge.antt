-- What adds up along the right edge of a tree: at each height the children that its block lacks, each of that height's size.
use Rattle.std.specs.Prelude.{◌≡◌, ℕ, zero, suc, ◌+◌, ◌-◌, ◌*◌, ◌^◌, ◌<◌}
use Rattle.laws_resize.specs.growth.Forms.{last_children}

-- below height h, in a tree of n leaves
unfoldable pub lacking : (fan : ℕ) (full : ℕ → ℕ) (h n : ℕ) → ℕ
lacking fan full zero n = 0
lacking fan full (suc h) n = lacking fan full h n + (fan - last_children fan h n) * full h

-- a function may be asked for the size of each height below h, and answers fewer than twice the leaves
pub record Sized (fan h : ℕ) (pre : ℕ → Type 0) (post : (i r : ℕ) → Type 0) : Type 0 where
  pub may : (i : ℕ) → i < h → pre i
  pub few : (i r : ℕ) → i < h → post i r → r < 2 * fan ^ i

-- r is what adds up below height i, by whatever sizes that function answers for each height below h; it is fewer than twice the leaves
pub record Lacking (fan h n i : ℕ) (post : (i r : ℕ) → Type 0) (r : ℕ) : Type 0 where
  pub sum : (full : ℕ → ℕ) → ((j s : ℕ) → j < h → post j s → s ≡ full j) → r ≡ lacking fan full i n
  pub few : r < 2 * fan ^ i
