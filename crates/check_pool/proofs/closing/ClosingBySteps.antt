-- The closing pass in code: an equation for each way out at one slot, and the pass over all slots as a step at each.
use Rattle.std.specs.Prelude.{Err, Ok}
use mathlib.Core.Path.{◌≡◌, ap, ◌∙◌, sym}
use mathlib.Core.Bool.{Bool, true, false}
use mathlib.Core.List.{List}
use Prim.Native.Nat.{ℕ, ◌+◌, ◌-◌, ◌*◌, ◌≤◌, ◌<◌}
use borrow.Author.Tests.{eq-eqb, ne_eqb}
use lib.ListN.{length, get_or}
use Rattle.meaning.specs.declared.Reason.TheVariants.{Reintroduced, WrongShape}
use Rattle.meaning.specs.Lists.{pick, range, zeros}
use Rattle.meaning.specs.Bytes.{block, record_at, state_of, state}
use Rattle.meaning.specs.Refusals.{at, must, first, Checked}
use Rattle.meaning.specs.Walk.{closing_check, closing}
use Rattle.meaning.specs.declared.Edition.{Edition}
use Rattle.meaning.specs.declared.Refusal.{Refusal}
use Rattle.laws.proofs.Ranges.{left_step, left_none}
use Rattle.laws.proofs.Codec.{state_is}
use Rattle.check_blob.specs.visit.{Sized}
use Rattle.check_blob.proofs.visit.VisitAsDefined.{slot_fits}

-- where a slot's block and record lie
pub in_pool : (e : Edition) (n : ℕ) (P R seen : List ℕ) (i : ℕ) → Sized e n P R seen → i < n → e.size * i + e.size ≤ length P
in_pool e n P R seen i z l = slot_fits e.size n i P z.pool l

-- the closing pass at one slot
module _ (e : Edition) (N : ℕ) (P R seen : List ℕ) (i : ℕ) (rb : List ℕ) (er : rb ≡ record_at R i) (st : ℕ) (es : st ≡ state_of rb) where
  of_state : state R i ≡ st
  of_state = sym (state_is R i rb er st es)

  module _ (z : st ≡ 0) (blk : List ℕ) (eb : blk ≡ block e P i) (t : Bool) (et : t ≡ zeros blk) where
    zeros_is : zeros (block e P i) ≡ t
    zeros_is = sym (et ∙ ap zeros eb)

    pub close_free : t ≡ true → Ok tt ≡ closing_check e N P R seen i
    unfolding closing_check must pick
    close_free y = simp (of_state, z, zeros_is, y)

    pub close_dirty : t ≡ false → (r : Refusal) → r ≡ at Reintroduced i → Err r ≡ closing_check e N P R seen i
    unfolding closing_check must pick
    close_dirty y r eq = rw eq (simp (of_state, z, zeros_is, y))

  module _ (n : st ≡ 0 → ⊥) where
    pub close_root : (st ≡ 1 → ⊥) → Ok tt ≡ closing_check e N P R seen i
    unfolding closing_check must pick
    close_root m = simp (of_state, ne_eqb st 0 n, ne_eqb st 1 m)

    module _ (m : st ≡ 1) where
      pub close_part : get_or seen i 0 ≡ 1 → Ok tt ≡ closing_check e N P R seen i
      unfolding closing_check must pick
      close_part s = simp (of_state, ne_eqb st 0 n, eq-eqb st 1 m, eq-eqb (get_or seen i 0) 1 s)

      pub close_lost : (get_or seen i 0 ≡ 1 → ⊥) → (r : Refusal) → r ≡ at WrongShape i → Err r ≡ closing_check e N P R seen i
      unfolding closing_check must pick
      close_lost s r eq = rw eq (simp (of_state, ne_eqb st 0 n, eq-eqb st 1 m, ne_eqb (get_or seen i 0) 1 s))

-- the closing pass: all slots from the start are all from i on

module _ (e : Edition) (N : ℕ) (P R seen : List ℕ) (i : ℕ) (inv : closing e N P R (range 0 N) seen ≡ closing e N P R (range i (N - i)) seen) where
  pub closing_end : N ≤ i → Ok tt ≡ closing e N P R (range 0 N) seen
  unfolding closing
  closing_end l = sym (rw (inv, left_none i N l))

  module _ (l : i < N) (c : Checked) (ec : c ≡ closing_check e N P R seen i) where
    further : closing e N P R (range 0 N) seen ≡ first c (closing e N P R (range (i + 1) (N - (i + 1))) seen)
    unfolding closing
    further = inv ∙ rw (left_step i N l) (rw (← ec))

    pub closing_stop : (r : Refusal) → c ≡ Err r → c ≡ closing e N P R (range 0 N) seen
    unfolding first
    closing_stop r er = rw (further, er)

    pub closing_on : c ≡ Ok tt → closing e N P R (range 0 N) seen ≡ closing e N P R (range (i + 1) (N - (i + 1))) seen
    unfolding first
    closing_on pc = rw (further, pc)
