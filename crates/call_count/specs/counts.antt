-- The changes of the slots, counted by a function that says of each how many it has.
use Rattle.std.specs.Prelude.{◌≡◌, List, ℕ, ◌+◌, ◌-◌, ◌≤◌, ◌<◌, length}
use Rattle.meaning.specs.Change.{Change}
use Rattle.plan_slot.specs.change.Turns.{over}

-- before slot i so many changes are counted
pub record Counting {X : Type 0} (plan : X → ℕ → List Change) (n i count : ℕ) : Type 0 where
  pub all : (x : X) → length (over (plan x) 0 n) ≡ count + length (over (plan x) i (n - i))
  pub few : count ≤ i
  pub within : i ≤ n

-- a function may be asked of each of n slots, and answers one or none
pub record Planned (n : ℕ) (pre : ℕ → Type 0) (post : (i k : ℕ) → Type 0) : Type 0 where
  pub may : (i : ℕ) → i < n → pre i
  pub few : (i k : ℕ) → i < n → post i k → k ≤ 1

-- changes of n slots, of each as many as that function answers
pub record Said (n : ℕ) (post : (i k : ℕ) → Type 0) : Type 0 where
  pub plan : ℕ → List Change
  pub many : (i k : ℕ) → i < n → post i k → k ≡ length (plan i)

-- before slot i so many are counted, whatever those changes are
abbrev pub Counts : (n i : ℕ) (post : (i k : ℕ) → Type 0) (count : ℕ) → Type 0
Counts n i post count = Counting (λ (s : Said n post). s.plan) n i count
