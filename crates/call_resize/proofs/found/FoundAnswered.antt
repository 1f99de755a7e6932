-- What a resize of a blob that is found answers: refusals 12 and 11, and what is done.
use Rattle.std.specs.Prelude.{Err, Ok}
use mathlib.Core.Path.{◌≡◌, refl, ap, ◌∙◌, sym}
use mathlib.Core.Bool.{true, false}
use mathlib.Core.List.{List}
use Prim.Native.Nat.{ℕ, ◌-◌}
use native.Mathlib.Nat.{sub-zero}
use native.Mathlib.Omega.{arith}
use borrow.Author.Tests.{ltb-false}
use lib.Dec.{ltb}
use lib.ListN.{length, take, drop}
use Rattle.meaning.specs.declared.Reason.TheVariants.{NoRoom, WornOut}
use Rattle.meaning.specs.declared.Edition.{Edition}
use Rattle.meaning.specs.declared.Refusal.{Refusal}
use Rattle.meaning.specs.Shape.{leaves_for, total}
use Rattle.meaning.specs.Tree.{Blob}
use Rattle.meaning.specs.Refusals.{nowhere, Checked}
use Rattle.meaning.specs.Change.{Change, puts, changed_by}
use Rattle.meaning.specs.Calls.{refused, done, refuse_if, usable, refuse_full, new_blocks, resize_on, resize_in, after}
use Rattle.meaning.specs.Answers.{answer_of, Ends}
use Rattle.laws.proofs.Inversions.{by_test, passed_faultless}
use Rattle.check_gate.specs.Gate.{Whole}
use Rattle.check_survey.specs.sites.Spelt.{blob_at}
use Rattle.check_survey.proofs.sites.Knowing.{known_changing}
use Rattle.base_slot.specs.usable.{usable_from}
use Rattle.base_slot.proofs.usable.UsableInOrder.{usable_all}
use Rattle.check_survey.specs.worn.{worn_among}
use Rattle.check_survey.proofs.worn.WornByHeights.{worn_refused, worn_passed}
use Rattle.check_survey.specs.refusal.{resize_barred}
use Rattle.check_survey.proofs.refusal.BarredByTests.{lacking, resize_worn, resize_full, resize_none, resize_fresh, resize_room}
use Rattle.call_resize.specs.fit.Found.{Found, Roomy, resized_to}

-- the blob of root r, found
module _ (e : Edition) (n : ℕ) (P R : List ℕ) (r bytes leaves : ℕ) (hs fs : List ℕ) (g : Found e n P R r bytes leaves hs fs) (len : ℕ) where
  abbrev b : Blob
  b = blob_at e P r

  -- what a resize makes of it
  abbrev pub after_resize : List Change
  after_resize = resized_to e n P R r len

  on_blob : resize_in e n P R r len ≡ resize_on e n P R len b
  unfolding resize_in
  on_blob = known_changing e n P R r bytes leaves g.row hs fs g.known (resize_on e n P R len)

  -- refusal 12
  worn_ends : worn_among R hs n ≡ true → Ends e answer_of (resize_in e n P R r len) P R (Err (nowhere WornOut)) P R
  unfolding resize_on answer_of after
  worn_ends is =
      let u : resize_in e n P R r len ≡ refused (nowhere WornOut) = on_blob ∙ worn_refused e n P R r bytes leaves g.row hs fs g.known is _ in
      record { answer = rw u; pool = rw u; records = rw u }

  module _ (free : ℕ) (ef : free ≡ length (usable_from R 0 n)) where
    unworn : worn_among R hs n ≡ false → resize_in e n P R r len ≡ refuse_full e n P R (new_blocks e n P R len b) (done tt after_resize)
    unfolding resize_on resized_to
    unworn is = on_blob ∙ worn_passed e n P R r bytes leaves g.row hs fs g.known is _

    room : lacking e leaves len free ≡ ltb (length (usable e n P R)) (new_blocks e n P R len b)
    unfolding new_blocks
    room = rw (ef, usable_all e n P R, g.known.leaves)

    -- refusal 11
    full_ends : worn_among R hs n ≡ false → lacking e leaves len free ≡ true
        → Ends e answer_of (resize_in e n P R r len) P R (Err (nowhere NoRoom)) P R
    unfolding refuse_full refuse_if answer_of after
    full_ends sound is =
        let u : resize_in e n P R r len ≡ refused (nowhere NoRoom) = unworn sound ∙ rw (← room, is) in
        record { answer = rw u; pool = rw u; records = rw u }

    module _ (x : Checked) (ex : x ≡ resize_barred e R hs n leaves len free) where
      -- refused so
      pub resize_barred_lem : (q : Refusal) → x ≡ Err q → Ends e answer_of (resize_in e n P R r len) P R (Err q) P R
      resize_barred_lem q eq =
          by_test (worn_among R hs n)
          (λ t. rw (sym eq ∙ ex ∙ sym (resize_worn e R hs n leaves len free _ refl t _ refl)) (worn_ends t))
          (λ t.
          by_test (lacking e leaves len free)
          (λ l. rw (sym eq ∙ ex ∙ sym (resize_full e R hs n leaves len free _ refl t _ refl l _ refl)) (full_ends t l))
          (λ l. passed_faultless (resize_none e R hs n leaves len free _ refl t _ refl l ∙ sym ex ∙ eq)))

      module _ (z : x ≡ Ok tt) where
        -- past both
        pub resize_roomy : Whole e n P R → (row : List ℕ) → take free row ≡ usable_from R 0 n → (want : ℕ) → want ≡ leaves_for e.leaf len
            → Roomy e n P R r bytes leaves hs fs (take (free - 0) (drop 0 row)) len want
        resize_roomy w row el want ew = rw (sub-zero free) (record {
          whole = w;
          found = g;
          fresh = resize_fresh e R hs n leaves len free x ex z;
          list = el;
          wanted = ew;
          room = rw ew (omega (arith, ltb-false free (total e.fan (leaves_for e.leaf len) - total e.fan leaves) (resize_room e R hs n leaves len free x ex z), ap length el));
        })

        -- done
        pub resize_done : (P' R' : List ℕ) → P' ≡ puts e.size (λ c. c.block) after_resize P → R' ≡ puts 12 (λ c. c.line) after_resize R
            → Ends e answer_of (resize_in e n P R r len) P R (Ok tt) P' R'
        unfolding refuse_full refuse_if answer_of after changed_by
        resize_done P' R' ep er =
            let u : resize_in e n P R r len ≡ done tt after_resize =
            unworn (resize_fresh e R hs n leaves len free x ex z) ∙ rw (← room, resize_room e R hs n leaves len free x ex z) in
            record { answer = rw u; pool = ep ∙ rw u; records = er ∙ rw u }
