-- Whether a block goes, a law for each way out of the test.
use mathlib.Core.Path.{◌≡◌}
use mathlib.Core.Bool.{true, false}
use Prim.Native.Nat.{ℕ, ◌≤◌, ◌<◌}
use lib.Dec.{leb}
use borrow.Author.Tests.{eq-eqb, ne_eqb, le-leb, lt-leb}
use Rattle.meaning.specs.Lists.{pick, both}
use Rattle.plan_tree.specs.declared.cuts.Cut.{Cut}
use Rattle.plan_tree.specs.cuts.{gone_at}

-- whether a block goes
module _ (c : Cut) (h first : ℕ) where
  pub gone_past : c.leaves ≤ first → true ≡ gone_at c h first
  unfolding gone_at pick
  gone_past late = rw (le-leb c.leaves first late)

  pub gone_off : first < c.leaves → (first ≡ 0 → ⊥) → false ≡ gone_at c h first
  unfolding gone_at pick both
  gone_off early off = rw (lt-leb c.leaves first early, ne_eqb first 0 off)

  pub gone_left : first < c.leaves → first ≡ 0 → leb c.top h ≡ gone_at c h first
  unfolding gone_at pick both
  gone_left early left = rw (lt-leb c.leaves first early, eq-eqb first 0 left)
