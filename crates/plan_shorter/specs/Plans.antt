-- What a blob that gets shorter makes of each slot, by what code has of it: its noted height and first leaf, its block, and the block whose row the
-- root takes.
use Rattle.std.specs.Prelude.{◌≡◌, List, [], ◌∷◌, ℕ, ◌+◌, ◌-◌, ◌*◌, ◌^◌, ◌≤◌, ◌<◌, leb, eqb, length, get_or}
use Rattle.meaning.specs.declared.Edition.{Edition}
use Rattle.meaning.specs.Lists.{pick, both}
use Rattle.meaning.specs.Bytes.{Cell, block, count_of, last_version}
use Rattle.meaning.specs.Change.{Change, freed}
use Rattle.meaning.specs.Shape.{most_count}
use Rattle.laws.proofs.Codec.{items_of}
use Rattle.laws_resize.specs.growth.Cuts.{cut_row}
use Rattle.plan_slot.specs.declared.turn.Turn.{Turn}
use Rattle.plan_slot.specs.turn.{Rises}
use Rattle.plan_slot.specs.renewal.{renewal}
use Rattle.plan_tree.specs.declared.cuts.Cut.{Cut}

-- the block whose row the root takes is not too full
pub record KeptBlock (e : Edition) (c : Cut) (kept : List ℕ) : Type 0 where
  pub size : length kept ≡ e.size
  pub most : count_of kept ≤ most_count e c.top

-- a slot can be planned: its place is there, and if its height is noted its block is not too full
pub record Here (e : Edition) (P hs fs : List ℕ) (s : ℕ) : Type 0 where
  pub place : e.size * s + e.size ≤ length P
  pub heights : s < length hs
  pub firsts : s < length fs
  pub power : e.fan ^ (get_or hs s 0 - 1) ≤ 2 ^ 50
  pub most : (get_or hs s 0 ≡ 0 → ⊥) → count_of (block e P s) ≤ most_count e (get_or hs s 0 - 1)

-- a turn of slot s can be carried out if the versions of the blob's slots can rise
pub record Rising (hs : List ℕ) (s : ℕ) (t : Turn) : Type 0 where
  pub rises : (v : ℕ) → ((get_or hs s 0 ≡ 0 → ⊥) → v < last_version) → Rises t v

module _ (e : Edition) (c : Cut) (hs fs kept : List ℕ) (root : ℕ) (P R : List ℕ) where
  -- what the root holds in the end
  unfoldable pub root_end : Cell
  root_end = record { height = c.top; items = cut_row e c.length c.top 0 (items_of c.top kept) }

  -- what another block of the blob holds that stays
  unfoldable pub old_end : ℕ → Cell
  old_end s =
      let h = get_or hs s 0 - 1 in
      record { height = h; items = cut_row e c.length h (get_or fs s 0) (items_of h (block e P s)) }

  -- what slot s becomes: past the cut, or where the root comes down, its block goes
  unfoldable pub cut_plan : ℕ → List Change
  cut_plan s =
      pick (eqb (get_or hs s 0) 0) []
      (pick (eqb s root) (renewal e R s (block e P s) root_end)
      (pick (leb c.leaves (get_or fs s 0)) (freed e R s ∷ [])
      (pick (both (eqb (get_or fs s 0) 0) (leb c.top (get_or hs s 0 - 1))) (freed e R s ∷ [])
      (renewal e R s (block e P s) (old_end s)))))
