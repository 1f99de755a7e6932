-- A loop over the slots, rising, that makes the changes of each: plan says what changes in a slot, and nothing in any other.
use Rattle.std.specs.Prelude.{◌≡◌, List, map, ℕ, ◌-◌, ◌*◌, length, drop}
use Rattle.meaning.specs.Lists.{joined, range}
use Rattle.meaning.specs.Change.{Change, puts}
use Rattle.meaning.specs.declared.Edition.{Edition}

-- the changes of k slots from i on
unfoldable pub over : (ℕ → List Change) → (i k : ℕ) → List Change
over plan i k = joined (map plan (range i k))

-- before turn i: what is still to be done to P and R gives what all of it gives to P₀ and R₀, and from slot i on they are as they were
pub record Turning (e : Edition) (n : ℕ) (plan : ℕ → List Change) (P₀ R₀ : List ℕ) (i : ℕ) (P R : List ℕ) : Type 0 where
  pub pool : puts e.size (λ c. c.block) (over plan 0 n) P₀ ≡ puts e.size (λ c. c.block) (over plan i (n - i)) P
  pub records : puts 12 (λ c. c.line) (over plan 0 n) R₀ ≡ puts 12 (λ c. c.line) (over plan i (n - i)) R
  pub pool_long : length P ≡ length P₀
  pub records_long : length R ≡ length R₀
  pub pool_left : drop (e.size * i) P ≡ drop (e.size * i) P₀
  pub records_left : drop (12 * i) R ≡ drop (12 * i) R₀
