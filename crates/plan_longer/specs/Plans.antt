-- What a blob that gets longer makes of each slot, by what code has of it: its noted height and first leaf, its block and its record, the root's
-- block as it was, and how many usable slots lie below.
use Rattle.std.specs.Prelude.{◌≡◌, List, ℕ, ◌+◌, ◌-◌, ◌*◌, ◌^◌, ◌≤◌, ◌<◌, eqb, length, get_or}
use Rattle.meaning.specs.declared.Edition.{Edition}
use Rattle.meaning.specs.Lists.{pick}
use Rattle.meaning.specs.Bytes.{block, recorded, last_version}
use Rattle.meaning.specs.Change.{Change}
use Rattle.meaning.specs.Tree.{Blob, leaves_of}
use Rattle.meaning.specs.Shape.{leaves_for, total}
use Rattle.laws_resize.specs.growth.Cuts.{height_of_length}
use Rattle.laws_resize.specs.growth.HeldAfter.{usable_below, taken}
use Rattle.plan_longer.specs.declared.fresh.Growth.{Growth}
use Rattle.plan_slot.specs.renewal.{renewal}
use Rattle.plan_longer.specs.declared.towers.Tower.{Tower}
use Rattle.plan_longer.specs.enlarged.{Spot, root_end, old_end}
use Rattle.plan_longer.specs.taken.{free_plan}

-- g and t are the numbers of the blob b and of the length that it gets
pub record Numbers (e : Edition) (b : Blob) (g : Growth) (t : Tower) : Type 0 where
  pub leaves : g.leaves ≡ length (leaves_of b)
  pub more : g.more ≡ leaves_for e.leaf g.length - g.leaves
  pub height : t.height ≡ b.height
  pub top : t.top ≡ height_of_length e g.length
  pub blocks : t.blocks ≡ total e.fan g.leaves
  pub taken : t.taken ≡ taken e b g.length

-- slot s can be planned: if it is one of the blob, its version can rise
pub record Here (e : Edition) (g : Growth) (P R hs fs : List ℕ) (root s : ℕ) : Type 0 where
  pub spot : Spot e g P hs fs s
  pub line : 12 * s + 12 ≤ length R
  pub small : s < 2 ^ 32
  pub version : 1 ≤ get_or hs s 0 → recorded R s < last_version
  pub root_version : s ≡ root → recorded R s < last_version

-- every slot can be
pub record AllHere (e : Edition) (g : Growth) (n : ℕ) (P R hs fs : List ℕ) (root : ℕ) : Type 0 where
  pub each : (s : ℕ) → s < n → Here e g P R hs fs root s

module _ (e : Edition) (g : Growth) (t : Tower) (P R free hs fs kept : List ℕ) (root : ℕ) where
  -- what slot s becomes
  unfoldable pub grow_plan : (below s : ℕ) → List Change
  grow_plan below s =
      pick (eqb s root) (renewal e R s kept (root_end e g t free kept))
      (pick (eqb (get_or hs s 0) 0) (free_plan e g t R free kept below s)
      (renewal e R s (block e P s) (old_end e g P free hs fs s)))

  -- with the count of those
  unfoldable pub grow_plans : ℕ → List Change
  grow_plans s = grow_plan (usable_below R s) s
