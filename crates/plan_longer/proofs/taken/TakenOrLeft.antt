-- What a slot becomes that is none of the blob, a law for each way out: it stays, or what was drawn is what the plan says of it.
use mathlib.Core.Path.{◌≡◌, ◌∙◌, sym}
use mathlib.Core.Bool.{Bool, true, false, not}
use mathlib.Core.List.{List}
use Prim.Native.Nat.{ℕ, ◌-◌, ◌≤◌, ◌<◌}
use borrow.Author.Tests.{lt-ltb, le-ltb, ltb-true, not-true, not-false}
use lib.Dec.{eqb, ltb}
use Rattle.meaning.specs.declared.Edition.{Edition}
use Rattle.meaning.specs.Edition.{Proper}
use Rattle.meaning.specs.Lists.{pick, both}
use Rattle.meaning.specs.Bytes.{state, recorded, last_version, usable_slot}
use Rattle.laws.proofs.Codec.{items_of}
use Rattle.laws.proofs.Inversions.{both_true, both_false}
use Rattle.laws_resize.specs.growth.Forms.{grown_new}
use Rattle.plan_slot.specs.declared.payload.Drawn.{Drawn}
use Rattle.plan_slot.specs.payload.{Draws}
use Rattle.plan_slot.specs.declared.turn.Turn.TheVariants.{Stays, Takes}
use Rattle.plan_slot.specs.turn.{turned, Rises}
use Rattle.plan_slot.proofs.renewal.DrawnIsChanged.{taken_turned}
use Rattle.plan_longer.specs.declared.fresh.Growth.{Growth}
use Rattle.plan_longer.specs.declared.towers.Tower.{Tower}
use Rattle.plan_longer.specs.taken.{new_end, free_plan}

-- slot i, which is none of the blob
module _ (e : Edition) (g : Growth) (t : Tower) (R free kept : List ℕ) (below i : ℕ) where
  -- it is not taken
  pub enough_planned : t.taken ≤ below → (x : List ℕ) → turned e R i Stays x ≡ free_plan e g t R free kept below i
  unfolding free_plan turned pick
  enough_planned l x = rw (le-ltb below t.taken l, both_false (usable_slot R i))

  module _ (a : Bool) (ea : a ≡ usable_slot R i) where
    pub unusable_planned : not a ≡ true → (x : List ℕ) → turned e R i Stays x ≡ free_plan e g t R free kept below i
    unfolding free_plan turned pick both
    unusable_planned q x = rw (← ea, not-true a q)

    -- taken
    pub new_planned : Proper e → below < t.taken → not a ≡ false → (d : Drawn) (x : List ℕ)
        → Draws e (grown_new e g.length g.leaves free (t.top - t.height) t.height (items_of t.height kept) below) d x
        → turned e R i (Takes d) x ≡ free_plan e g t R free kept below i
    unfolding free_plan new_end pick both
    new_planned p l q d x draws = taken_turned e p _ d x draws R i ∙ rw (← ea, not-false a q, lt-ltb below t.taken l)

-- a slot that stays needs no version, and a usable one has one left
pub stays_rises : (v : ℕ) → Rises Stays v
unfolding Rises
stays_rises v = tt

pub new_can_rise : (R : List ℕ) (i : ℕ) (a : Bool) → a ≡ usable_slot R i → not a ≡ false → (d : Drawn) → Rises (Takes d) (recorded R i)
unfolding Rises usable_slot
new_can_rise R i a ea q d =
    ltb-true (recorded R i) last_version (both_true (eqb (state R i) 0) (ltb (recorded R i) last_version) (sym ea ∙ not-false a q)).1
