-- Delete: the changes slot by slot are those of the definition, since a slot holds a block of the blob exactly if its height is noted.
use Rattle.std.specs.Prelude.{Err, Ok, Result}
use mathlib.Core.Path.{◌≡◌, ap, ◌∙◌, sym}
use mathlib.Core.List.{List, []}
use Prim.Native.Nat.{ℕ}
use borrow.Author.Tests.{eqb-true, eqb-false}
use lib.Dec.{eqb}
use lib.ListN.{length, get_or}
use Rattle.meaning.specs.Lists.{pick}
use Rattle.meaning.specs.Edition.{Proper}
use Rattle.meaning.specs.Tree.{held, cells_of}
use Rattle.meaning.specs.Change.{Change, puts, changed, changed_by}
use Rattle.meaning.specs.Calls.{done, slots_in, become, delete_on, delete_in, delete_call, after}
use Rattle.meaning.specs.Answers.{answer_of, Ends}
use Rattle.meaning.specs.declared.Edition.{Edition}
use Rattle.meaning.specs.declared.Refusal.{Refusal}
use Rattle.laws.proofs.Inversions.{by_test}
use Rattle.laws_resize.proofs.growth.Changes.{held_at, held_absent}
use Rattle.check_gate.specs.Gate.{Whole}
use Rattle.check_survey.specs.sites.Spelt.{blob_at}
use Rattle.check_survey.specs.sites.Known.{Known}
use Rattle.check_survey.proofs.sites.Knowing.{known_changing}
use Rattle.check_survey.specs.declared.Reached.{Reached}
use Rattle.check_survey.specs.Reached.{front, Behind, Reaches}
use Rattle.check_survey.proofs.BehindTheSurvey.{refused_so, reached_blob, reached_opened}
use Rattle.plan_slot.specs.change.Turns.{over}
use Rattle.plan_slot.proofs.change.SlotLoop.{changes_over, over_same}
use Rattle.call_delete.specs.free.{clear_plan}

-- the definition's changes
module _ (e : Edition) (p : Proper e) (n : ℕ) (P R : List ℕ) (r len k : ℕ) (row hs fs : List ℕ) (g : Known e n P R r len k row hs fs) where
  slot_same : (s : ℕ) → clear_plan e R hs s ≡ changed e R 1 s (held (cells_of (blob_at e P r)) s) (held [] s)
  unfolding clear_plan changed held pick
  slot_same s =
      by_test (eqb (get_or hs s 0) 0)
      (λ q. let h = held_absent e p R (blob_at e P r) g.standing s (g.sites.none s (eqb-true (get_or hs s 0) 0 q)) in rw (q, h))
      (λ q. let h = held_at e p R (blob_at e P r) g.standing s _ (g.sites.some s (eqb-false (get_or hs s 0) 0 q)) in rw (q, h))

  pub all_same : become e n P R 1 (cells_of (blob_at e P r)) [] ≡ over (clear_plan e R hs) 0 n
  unfolding become
  all_same =
      changes_over e R 1 (held (cells_of (blob_at e P r))) (held []) 0 n
      ∙ sym (over_same (clear_plan e R hs) (λ s. changed e R 1 s (held (cells_of (blob_at e P r)) s) (held [] s)) 0 n slot_same)

  outcome : delete_in e n P R r ≡ done tt (over (clear_plan e R hs) 0 n)
  unfolding delete_in delete_on
  outcome = known_changing e n P R r len k row hs fs g (delete_on e n P R) ∙ ap (λ (cs : List Change). done tt cs) all_same

  ends : (P' R' : List ℕ) → P' ≡ puts e.size (λ c. c.block) (over (clear_plan e R hs) 0 n) P → R' ≡ puts 12 (λ c. c.line) (over (clear_plan e R hs) 0 n) R
      → Ends e answer_of (delete_in e n P R r) P R (Ok tt) P' R'
  unfolding answer_of after changed_by
  ends P' R' ep er = record { answer = rw outcome; pool = ep ∙ rw outcome; records = er ∙ rw outcome }

-- what is reached decides
module _ (e : Edition) (P R : List ℕ) (r : ℕ) (y : Result Reached Refusal) (row hs fs : List ℕ) (h : Reaches e P R r y row hs fs) where
  pub delete_refused : (q : Refusal) → y ≡ Err q → Ends e answer_of (delete_call e P R r) P R (Err q) P R
  unfolding delete_call delete_in
  delete_refused q eq = refused_so e P R r y row hs fs h q eq (delete_on e (slots_in e P) P R)

  module _ (b : Reached) (ey : y ≡ Ok b) where
    here : Behind e P R r b.slots b.bytes b.leaves row hs fs
    here = reached_blob e P R r y row hs fs h b ey

    pub delete_whole : Whole e b.slots P R
    delete_whole = here.whole

    pub delete_heights : length (front b.slots hs) ≡ b.slots
    delete_heights = here.known.heights

    pub delete_done : Proper e → (P' R' : List ℕ) → P' ≡ puts e.size (λ c. c.block) (over (clear_plan e R (front b.slots hs)) 0 b.slots) P
        → R' ≡ puts 12 (λ c. c.line) (over (clear_plan e R (front b.slots hs)) 0 b.slots) R → Ends e answer_of (delete_call e P R r) P R (Ok tt) P' R'
    unfolding delete_call
    delete_done p P' R' ep er =
        rw (reached_opened e P R r y row hs fs h b ey (λ m. delete_in e m P R r))
        (ends e p b.slots P R r b.bytes b.leaves (front b.slots row) (front b.slots hs) (front b.slots fs) here.known P' R' ep er)
