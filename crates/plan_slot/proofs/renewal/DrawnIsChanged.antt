-- A turn whose payload was drawn changes what the definitions say of the drawn cell.
use mathlib.Core.Path.{◌≡◌, refl, ap, ◌∙◌}
use mathlib.Core.Bool.{Bool, true, false}
use mathlib.Core.List.{List, [], ◌∷◌}
use mathlib.Core.Logic.{inl}
use Prim.Native.Nat.{ℕ, ◌+◌, ◌<◌}
use lib.Dec.{eqb}
use lib.ListN.{length}
use Rattle.meaning.specs.declared.Edition.{Edition}
use Rattle.meaning.specs.Lists.{pick, both}
use Rattle.meaning.specs.Edition.{Proper}
use Rattle.meaning.specs.Bytes.{Cell, height_of, count_of, state, recorded, last_version, same_cell}
use Rattle.meaning.specs.Change.{renewed}
use Rattle.laws.proofs.Puts.{Single, pick_single, renewed_single}
use Rattle.plan_slot.specs.declared.payload.Drawn.{Drawn}
use Rattle.plan_slot.specs.payload.{Draws}
use Rattle.plan_slot.proofs.payload.Cells.{draws_block}
use Rattle.plan_slot.specs.declared.turn.Turn.{Turn}
use Rattle.plan_slot.specs.declared.turn.Turn.TheVariants.{Stays, Takes, Renews}
use Rattle.plan_slot.specs.turn.{stored, turned, Rises}
use Rattle.plan_slot.specs.renewal.{renewal}

-- what is stored of a drawn cell is the cell, one version up
stored_drawn : (e : Edition) → Proper e → (c : Cell) (d : Drawn) (x : List ℕ) → Draws e c d x → (R : List ℕ) (st s : ℕ)
    → stored e R st s d x ≡ renewed e R st s c
unfolding stored renewed
stored_drawn e p c d x draws R st s = rw (draws_block e p c d x draws s (recorded R s + 1))

module _ (e : Edition) (p : Proper e) (c : Cell) (d : Drawn) (x : List ℕ) (draws : Draws e c d x) where
  -- a slot newly taken
  pub taken_turned : (R : List ℕ) (s : ℕ) → turned e R s (Takes d) x ≡ renewed e R 1 s c ∷ []
  unfolding turned
  taken_turned R s = rw (stored_drawn e p c d x draws R 1 s)

  -- a slot that had the block b
  module _ (b : List ℕ) (t : Turn)
      (et : t ≡ pick (both (eqb d.height (height_of b)) (eqb d.count (count_of b))) Stays (Renews d)) where
    pub renewal_turned : (R : List ℕ) (s : ℕ) → turned e R s t x ≡ renewal e R s b c
    unfolding renewal turned pick
    renewal_turned R s =
        ap (λ (u : Turn). turned e R s u x) et
        ∙ by (both (eqb d.height (height_of b)) (eqb d.count (count_of b)))
        ∙ rw (draws.height, draws.count)
      where
        by : (q : Bool) → turned e R s (pick q Stays (Renews d)) x ≡ pick q [] (renewed e R (state R s) s c ∷ [])
        by true = refl
        by false = rw (stored_drawn e p c d x draws R (state R s) s)

    -- its version must be able to rise
    pub renewal_rises : (v : ℕ) → v < last_version → Rises t v
    unfolding Rises pick
    renewal_rises v less = rw et (by (both (eqb d.height (height_of b)) (eqb d.count (count_of b))))
      where
        by : (q : Bool) → Rises (pick q Stays (Renews d)) v
        by true = tt
        by false = less

-- if two cells are the same exactly if height and count are, that is the definitions' change
pub renewal_same : (e : Edition) (R : List ℕ) (s : ℕ) (b : List ℕ) (old new : Cell)
    → same_cell old new ≡ both (eqb new.height (height_of b)) (eqb (length new.items) (count_of b))
    → renewal e R s b new ≡ pick (same_cell old new) [] (renewed e R (state R s) s new ∷ [])
unfolding renewal
renewal_same e R s b old new same = rw same

-- a renewal is nothing, or one change
pub renewal_single : (e : Edition) (R : List ℕ) (s : ℕ) (b : List ℕ) (c : Cell) → Single e s (renewal e R s b c)
unfolding renewal
renewal_single e R s b c = pick_single e s _ _ _ (inl refl) (renewed_single e R (state R s) s c)
