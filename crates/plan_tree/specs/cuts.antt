-- What a blob is cut to, in numbers, and which of its blocks go.
use Rattle.std.specs.Prelude.{◌≡◌, Bool, true, ℕ, ◌^◌, ◌≤◌, ◌<◌, leb, eqb}
use Rattle.meaning.specs.declared.Edition.{Edition}
use Rattle.meaning.specs.Lists.{pick, both}
use Rattle.meaning.specs.Shape.{leaves_for}
use Rattle.laws_resize.specs.growth.Cuts.{height_of_length}
use Rattle.plan_tree.specs.declared.cuts.Cut.{Cut}

-- c is the numbers of its length
pub record Cuts (e : Edition) (c : Cut) : Type 0 where
  pub leaves : c.leaves ≡ leaves_for e.leaf c.length
  pub top : c.top ≡ height_of_length e c.length
  pub few : c.leaves ≤ 2 ^ 40
  pub low : c.top < 256
  pub power : e.fan ^ c.top ≤ 2 ^ 50

-- whether a block of that height and first leaf, which is not the root, goes
unfoldable pub gone_at : Cut → (h first : ℕ) → Bool
gone_at c h first = pick (leb c.leaves first) true (both (eqb first 0) (leb c.top h))
