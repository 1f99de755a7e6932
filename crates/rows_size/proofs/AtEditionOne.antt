-- A call for any edition, at edition one: the edition is proper, refusal 1 is the same, and what it is lent is long enough if it is so for edition one.
use mathlib.Core.Path.{◌≡◌, ap, ◌∙◌, sym, subst}
use mathlib.Core.Bool.{Bool}
use mathlib.Core.List.{List}
use Prim.Native.Nat.{ℕ, ◌≤◌}
use lib.ListN.{length}
use Rattle.meaning.specs.Edition.{one, Proper}
use Rattle.meaning.specs.Calls.{slots_in, sized}
use Rattle.meaning.specs.declared.Edition.{Edition}
use Rattle.laws.proofs.Editions.{one_proper}
use Rattle.check_gate.specs.Places.{Clear}

module _ (e : Edition) (ee : e ≡ one) where
  pub one_here : Proper e
  one_here = subst (λ (x : Edition). Proper x) (sym ee) one_proper

  -- refusal 1
  pub sized_one : (P R : List ℕ) (a : Bool) → a ≡ sized e P R → a ≡ sized one P R
  sized_one P R a h = subst (λ (y : Edition). a ≡ sized y P R) ee h

  -- rows, which have a place for each slot
  module _ (P : List ℕ) where
    pub clear_here : (seen : List ℕ) → Clear one P seen → Clear e P seen
    clear_here seen h = subst (λ (x : Edition). Clear x P seen) (sym ee) h

    pub long_here : (o : List ℕ) → slots_in one P ≤ length o → slots_in e P ≤ length o
    long_here o h = subst (λ (x : Edition). slots_in x P ≤ length o) (sym ee) h

  -- a scratch block
  pub scratch_here : (x : List ℕ) → length x ≡ 64 → length x ≡ e.size
  unfolding one
  scratch_here x l = l ∙ sym (ap (λ (y : Edition). y.size) ee)
