-- Refusal 1 of the calls that change one blob.
use Rattle.std.specs.Prelude.{◌≡◌, List, ℕ, false}
use Rattle.meaning.specs.Edition.{one}
use Rattle.meaning.specs.Refusals.{nowhere}
use Rattle.meaning.specs.Calls.{Outcome, refused, refuse_if, sized, opened, delete_call, write_call, resize_call}
use Rattle.meaning.specs.declared.Reason.TheVariants.{WrongLengths}

module _ (P R : List ℕ) where
  barred : {A : Type 0} (o : Outcome A) → sized one P R ≡ false → opened one P R o ≡ refused (nowhere WrongLengths)
  unfolding opened refuse_if
  barred o wrong = rw wrong

  pub no_delete : (r : ℕ) → sized one P R ≡ false → delete_call one P R r ≡ refused (nowhere WrongLengths)
  unfolding delete_call
  no_delete r wrong = barred _ wrong

  pub no_write : (r offset : ℕ) (d : List ℕ) → sized one P R ≡ false → write_call one P R r offset d ≡ refused (nowhere WrongLengths)
  unfolding write_call
  no_write r offset d wrong = barred _ wrong

  pub no_resize : (r len : ℕ) → sized one P R ≡ false → resize_call one P R r len ≡ refused (nowhere WrongLengths)
  unfolding resize_call
  no_resize r len wrong = barred _ wrong
