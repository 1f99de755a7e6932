-- What one visit in code says of the definition's visit.
use Rattle.std.specs.Prelude.{◌≡◌, Bool, List, ℕ, ◌*◌, ◌<◌, length, set, Err, Ok}
use Rattle.meaning.specs.Refusals.{Checked}
use Rattle.meaning.specs.Bytes.{block, recorded}
use Rattle.meaning.specs.Walk.{Found, fault, fine, passing, block_check}
use Rattle.meaning.specs.declared.Edition.{Edition}
use Rattle.meaning.specs.declared.Role.{Role}
use Rattle.meaning.specs.declared.Role.TheVariants.{Root, Child}

-- pool, records and flags of n slots
pub record Sized (e : Edition) (n : ℕ) (P R seen : List ℕ) : Type 0 where
  pub pool : length P ≡ e.size * n
  pub records : length R ≡ 12 * n
  pub flags : length seen ≡ n

-- a root's slot is known to lie in the pool; a child's is not, until check 1
unfoldable pub Within : ℕ → Role → ℕ → Type 0
Within n Root s = s < n
Within n (Child p) s = Unit {0}

-- the answer of a visit with its block and the flags that it leaves; at a fault those say nothing
unfoldable pub met : Checked → (b seen : List ℕ) → Found (List ℕ)
met (Ok v) b seen = fine b seen
met (Err r) b seen = fault r

-- checks 2 and 3 of a slot, and from there on it counts as visited
unfoldable pub marked : (e : Edition) → (P R : List ℕ) → (h : ℕ) → (root edge : Bool) → (seen : List ℕ) → ℕ → Found (List ℕ)
marked e P R h root edge seen s =
    passing (block_check e h root edge (recorded R s) s (block e P s)) (fine (block e P s) (set seen s 1))
