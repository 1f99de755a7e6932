-- A block kept whole, and the left edge found by first children: the loop's turns, and the block where it ends.
use mathlib.Core.Path.{◌≡◌, refl, ap, ◌∙◌}
use mathlib.Core.List.{List}
use Prim.Native.Nat.{ℕ, ◌+◌, ◌*◌, ◌≤◌, ◌<◌}
use native.Mathlib.Numerals.{add-one}
use native.Mathlib.Omega.{arith}
use lib.ListN.{length}
use lib.Seq.{take_all}
use Rattle.meaning.specs.declared.Edition.{Edition}
use Rattle.meaning.specs.Lists.{part, number}
use Rattle.meaning.specs.Edition.{Proper}
use Rattle.meaning.specs.Bytes.{block}
use Rattle.plan_slot.specs.keep.{first_below}

-- the loop
module _ (e : Edition) (P : List ℕ) (s : ℕ) where
  pub below_start : s ≡ first_below e P s 0
  unfolding first_below
  below_start = refl

  module _ (i at : ℕ) (ea : at ≡ first_below e P s i) where
    pub below_fits : (steps : ℕ) → ((k : ℕ) → k ≤ steps → e.size * first_below e P s k + e.size ≤ length P) → i < steps
        → e.size * at + e.size ≤ length P
    below_fits steps fits less = rw ea (fits i (omega arith))

    pub below_next : (x : ℕ) → x ≡ number (part (16 + 4 * 0) 4 (block e P at)) → x ≡ first_below e P s (i + 1)
    unfolding first_below
    below_next x ex = rw (add-one) (ex ∙ ap (λ (t : ℕ). number (part 16 4 (block e P t))) ea)

    pub below_done : (steps : ℕ) → i ≤ steps → steps ≤ i → at ≡ first_below e P s steps
    below_done steps low high = ea ∙ ap (first_below e P s) (let z : i ≡ steps = omega arith in z)

-- a whole block is kept
pub kept_block : (e : Edition) (P : List ℕ) (root : ℕ) (b kept kept' : List ℕ) → b ≡ block e P root → length b ≡ e.size → length kept ≡ e.size
    → kept' ≡ part 0 (length kept) b → kept' ≡ block e P root
unfolding part
kept_block e P root b kept kept' eb lb lk q = q ∙ take_all (length kept) b (omega arith) ∙ eb

-- the edge's block is kept
module _ (e : Edition) (P : List ℕ) (s steps from : ℕ) (ef : from ≡ first_below e P s steps) where
  pub keep_fits : ((k : ℕ) → k ≤ steps → e.size * first_below e P s k + e.size ≤ length P) → e.size * from + e.size ≤ length P
  keep_fits fits = rw ef (fits steps (omega arith))

  pub keep_done : (kept b kept' : List ℕ) → length kept ≡ e.size → b ≡ block e P from → length b ≡ e.size → kept' ≡ part 0 (length kept) b
      → kept' ≡ block e P (first_below e P s steps)
  keep_done kept b kept' size eb long ek = kept_block e P from b kept kept' eb long size ek ∙ ap (block e P) ef

-- a block has room for a child
pub some_fan : (e : Edition) → Proper e → 0 < e.fan
some_fan e p = omega (arith, p.two)
