-- What a resize answers: what is reached decides.
use Rattle.std.specs.Prelude.{Err, Ok, Result}
use mathlib.Core.Path.{◌≡◌, refl}
use mathlib.Core.List.{List}
use Prim.Native.Nat.{ℕ}
use native.Mathlib.Omega.{arith}
use lib.ListN.{length}
use Rattle.meaning.specs.Calls.{slots_in, resize_on, resize_in, resize_call}
use Rattle.meaning.specs.Answers.{answer_of, Ends}
use Rattle.meaning.specs.declared.Edition.{Edition}
use Rattle.meaning.specs.declared.Refusal.{Refusal}
use Rattle.check_gate.specs.Gate.{Whole, gate}
use Rattle.check_blob.proofs.Lending.{row_lent}
use Rattle.call_resize.specs.fit.Found.{Found}
use Rattle.check_survey.specs.declared.Reached.{Reached}
use Rattle.check_survey.specs.Reached.{Rows, front, Behind, Reaches}
use Rattle.check_survey.proofs.BehindTheSurvey.{refused_so, reached_blob, reached_opened}

module _ (e : Edition) (P R : List ℕ) (r : ℕ) (y : Result Reached Refusal) (row hs fs : List ℕ) (h : Reaches e P R r y row hs fs) where
  pub resize_refused : (q : Refusal) → y ≡ Err q → (len : ℕ) → Ends e answer_of (resize_call e P R r len) P R (Err q) P R
  unfolding resize_call resize_in
  resize_refused q eq len = refused_so e P R r y row hs fs h q eq (resize_on e (slots_in e P) P R len)

  module _ (b : Reached) (ey : y ≡ Ok b) where
    here : Behind e P R r b.slots b.bytes b.leaves row hs fs
    here = reached_blob e P R r y row hs fs h b ey

    pub resize_whole : Whole e b.slots P R
    resize_whole = here.whole

    pub resize_found : Found e b.slots P R r b.bytes b.leaves (front b.slots hs) (front b.slots fs)
    resize_found = record { row = front b.slots row; known = here.known }

    -- the row of slots has its b.slots places
    pub resize_row : (seen row₀ hs₀ fs₀ : List ℕ) → Rows e P seen row₀ hs₀ fs₀ → length row ≡ length row₀ → length (front b.slots row) ≡ b.slots
    resize_row seen row₀ hs₀ fs₀ g l = row_lent e P R (gate e P R) refl b.slots here.gated row (omega (arith, l, g.rows))

    -- behind refusals 1 and 2 the call is this
    pub resize_ends : (len : ℕ) (a : Result (Unit {0}) Refusal) (P' R' : List ℕ) → Ends e answer_of (resize_in e b.slots P R r len) P R a P' R'
        → Ends e answer_of (resize_call e P R r len) P R a P' R'
    unfolding resize_call
    resize_ends len a P' R' g = rw (reached_opened e P R r y row hs fs h b ey (λ m. resize_in e m P R r len)) g
