-- Write: what is noted of a known blob is the call, and what is reached decides.
use Rattle.std.specs.Prelude.{Err, Ok, Result}
use mathlib.Core.Path.{◌≡◌, ap, ◌∙◌}
use mathlib.Core.Bool.{true, false}
use mathlib.Core.List.{List}
use Prim.Native.Nat.{ℕ, ◌+◌, ◌*◌}
use borrow.Author.Tests.{ltb-false}
use lib.Dec.{ltb}
use lib.ListN.{length}
use Rattle.meaning.specs.declared.Edition.{Edition}
use Rattle.meaning.specs.declared.Refusal.{Refusal}
use Rattle.meaning.specs.Lists.{pick}
use Rattle.meaning.specs.Edition.{Proper}
use Rattle.meaning.specs.Tree.{length_of}
use Rattle.meaning.specs.Change.{Change}
use Rattle.meaning.specs.Calls.{done, slots_in, refuse_if, refuse_past, write_on, write_in, write_call}
use Rattle.meaning.specs.Answers.{answer_of, Ends}
use Rattle.laws.proofs.Inversions.{by_test}
use Rattle.check_survey.specs.sites.Spelt.{blob_at}
use Rattle.check_survey.specs.sites.Known.{Known}
use Rattle.check_survey.proofs.sites.Knowing.{known_changing}
use Rattle.check_survey.specs.worn.{worn_among}
use Rattle.check_survey.proofs.worn.WornByHeights.{worn_refused, worn_passed}
use Rattle.plan_write.specs.rewriting.{Unworn}
use Rattle.check_survey.specs.declared.Reached.{Reached}
use Rattle.check_survey.specs.Reached.{front, Behind, Reaches}
use Rattle.check_survey.proofs.BehindTheSurvey.{refused_so, reached_blob, reached_opened}
use Rattle.check_gate.specs.Gate.{through}
use Rattle.check_survey.specs.refusal.{write_barred}
use Rattle.call_write.specs.put.{write_noted}
use Rattle.plan_write.proofs.rewriting.PlannedAsDefined.{leaves_known, all_same}

-- a known blob of so many bytes: the call is what is noted of it
module _ (e : Edition) (p : Proper e) (n : ℕ) (P R : List ℕ) (r len k : ℕ) (row hs fs : List ℕ) (g : Known e n P R r len k row hs fs)
    (whole : length P ≡ e.size * n) (offset : ℕ) (d : List ℕ) where
  on_blob : write_in e n P R r offset d ≡ write_on e n P R offset d (blob_at e P r)
  unfolding write_in
  on_blob = known_changing e n P R r len k row hs fs g (write_on e n P R offset d)

  noted : write_in e n P R r offset d ≡ write_noted e n P R hs fs len offset d
  unfolding write_on refuse_past refuse_if write_noted write_barred pick through
  noted =
      by_test (worn_among R hs n)
      (λ t. rw t (on_blob ∙ worn_refused e n P R r len k row hs fs g t _))
      (λ t.
      by_test (ltb len (offset + length d))
      (λ u.
      let past : ltb (length_of (blob_at e P r)) (offset + length d) ≡ true = rw (← g.bytes) u in
      rw (t, u) (on_blob ∙ worn_passed e n P R r len k row hs fs g t _ ∙ rw past))
      (λ u.
      let inside : ltb (length_of (blob_at e P r)) (offset + length d) ≡ false = rw (← g.bytes) u in
      rw (t, u) (on_blob ∙ worn_passed e n P R r len k row hs fs g t _ ∙ rw inside
      (ap (λ (cs : List Change). done tt cs)
      (all_same e p n P R r len k row hs fs g whole offset d (ltb-false (length_of (blob_at e P r)) (offset + length d) inside))))))

-- what is reached decides
module _ (e : Edition) (P R : List ℕ) (r : ℕ) (y : Result Reached Refusal) (row hs fs : List ℕ) (h : Reaches e P R r y row hs fs) where
  pub write_refused : (q : Refusal) → y ≡ Err q → (offset : ℕ) (d : List ℕ)
      → Ends e answer_of (write_call e P R r offset d) P R (Err q) P R
  unfolding write_call write_in
  write_refused q eq offset d = refused_so e P R r y row hs fs h q eq (write_on e (slots_in e P) P R offset d)

  module _ (b : Reached) (ey : y ≡ Ok b) where
    here : Behind e P R r b.slots b.bytes b.leaves row hs fs
    here = reached_blob e P R r y row hs fs h b ey

    -- the blob's leaves may be written
    pub write_unworn : Proper e → Unworn e b.slots P R (front b.slots hs) (front b.slots fs)
    write_unworn p = leaves_known e p b.slots P R r b.bytes b.leaves (front b.slots row) (front b.slots hs) (front b.slots fs) here.known here.whole.pool

    -- what is noted of the blob is the call
    pub write_done : Proper e → (offset : ℕ) (d : List ℕ) (a : Result (Unit {0}) Refusal) (P' R' : List ℕ)
        → Ends e answer_of (write_noted e b.slots P R (front b.slots hs) (front b.slots fs) b.bytes offset d) P R a P' R'
        → Ends e answer_of (write_call e P R r offset d) P R a P' R'
    unfolding write_call
    write_done p offset d a P' R' f =
        rw (
          reached_opened e P R r y row hs fs h b ey (λ m. write_in e m P R r offset d),
          noted e p b.slots P R r b.bytes b.leaves (front b.slots row) (front b.slots hs) (front b.slots fs) here.known here.whole.pool offset d,
        ) f
