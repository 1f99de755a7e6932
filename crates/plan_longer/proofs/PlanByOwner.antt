-- What a slot is planned to become, by whose it is: the root's, none of the blob, or another block of it.
use mathlib.Core.Path.{◌≡◌, ◌∙◌}
use mathlib.Core.List.{List}
use Prim.Native.Nat.{ℕ}
use native.Mathlib.Omega.{arith}
use borrow.Author.Tests.{eq-eqb, ne_eqb}
use lib.ListN.{get_or}
use Rattle.meaning.specs.declared.Edition.{Edition}
use Rattle.meaning.specs.Lists.{pick}
use Rattle.meaning.specs.Bytes.{block, recorded}
use Rattle.plan_slot.specs.declared.turn.Turn.{Turn}
use Rattle.plan_slot.specs.turn.{turned, Rises}
use Rattle.plan_longer.specs.declared.fresh.Growth.{Growth}
use Rattle.plan_longer.specs.declared.towers.Tower.{Tower}
use Rattle.plan_longer.specs.enlarged.{Redraws, root_end, old_end}
use Rattle.plan_longer.specs.taken.{free_plan}
use Rattle.plan_longer.specs.Plans.{Here, grow_plan}

-- slot i
module _ (e : Edition) (g : Growth) (t : Tower) (P R free hs fs kept : List ℕ) (root below i : ℕ) (u : Turn) (x : List ℕ) where
  -- the root's
  pub root_planned : i ≡ root → Redraws e kept (root_end e g t free kept) u x → turned e R i u x ≡ grow_plan e g t P R free hs fs kept root below i
  unfolding grow_plan pick
  root_planned q d = d.changes R i ∙ rw (eq-eqb i root q)

  -- none of the blob
  pub free_planned : (i ≡ root → ⊥) → get_or hs i 0 ≡ 0 → turned e R i u x ≡ free_plan e g t R free kept below i
      → turned e R i u x ≡ grow_plan e g t P R free hs fs kept root below i
  unfolding grow_plan pick
  free_planned o none d = d ∙ rw (ne_eqb i root o, eq-eqb (get_or hs i 0) 0 none)

  -- another block of the blob
  pub old_planned : (i ≡ root → ⊥) → (get_or hs i 0 ≡ 0 → ⊥) → Redraws e (block e P i) (old_end e g P free hs fs i) u x
      → turned e R i u x ≡ grow_plan e g t P R free hs fs kept root below i
  unfolding grow_plan pick
  old_planned o noted d = d.changes R i ∙ rw (ne_eqb i root o, ne_eqb (get_or hs i 0) 0 noted)

-- the version of a block of the blob can rise: the root's, and another's
module _ (e : Edition) (g : Growth) (P R free hs fs : List ℕ) (root i : ℕ) (u : Turn) (x : List ℕ) where
  pub root_can_rise : (t : Tower) (kept : List ℕ) → i ≡ root → Redraws e kept (root_end e g t free kept) u x → Here e g P R hs fs root i
      → Rises u (recorded R i)
  root_can_rise t kept q d here = d.rises (recorded R i) (here.root_version q)

  pub old_can_rise : (get_or hs i 0 ≡ 0 → ⊥) → Redraws e (block e P i) (old_end e g P free hs fs i) u x → Here e g P R hs fs root i
      → Rises u (recorded R i)
  old_can_rise noted d here = d.rises (recorded R i) (here.version (omega arith))
