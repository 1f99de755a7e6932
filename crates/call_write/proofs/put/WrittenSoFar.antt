-- Write inside a blob, need by need: the loop's turns, refusals 12 and 10, and what is noted decides.
use Rattle.std.specs.Prelude.{Err, Ok}
use mathlib.Core.Path.{◌≡◌, refl, ◌∙◌}
use mathlib.Core.List.{List}
use mathlib.Core.Logic.{inl}
use Prim.Native.Nat.{ℕ, ◌+◌, ◌*◌, ◌≤◌, ◌<◌}
use native.Mathlib.Omega.{arith}
use lib.ListN.{length}
use Rattle.meaning.specs.declared.Edition.{Edition}
use Rattle.meaning.specs.declared.Refusal.{Refusal}
use Rattle.meaning.specs.Bytes.{block, recorded, record_at, state}
use Rattle.meaning.specs.Refusals.{Checked}
use Rattle.meaning.specs.Change.{Change, puts, renewed, changed_by}
use Rattle.meaning.specs.Calls.{after}
use Rattle.meaning.specs.Answers.{answer_of, Ends}
use Rattle.laws.proofs.Puts.{Single, renewed_single}
use Rattle.check_gate.specs.Gate.{Whole, through}
use Rattle.check_blob.proofs.visit.VisitAsDefined.{slot_fits}
use Rattle.plan_slot.specs.change.Turns.{over, Turning}
use Rattle.plan_slot.proofs.change.SlotLoop.{block_left, record_left, turning_on}
use Rattle.std.specs.Prelude.{Option, None, Some}
use Rattle.plan_write.specs.declared.stretch.Stretch.{Stretch}
use Rattle.plan_write.specs.stretch.{plan_of, put_by, write_plan, Place, Writable}
use Rattle.plan_write.specs.rewriting.{Unworn}
use Rattle.check_survey.specs.refusal.{write_barred}
use Rattle.check_survey.proofs.refusal.BarredByTests.{write_fresh}
use Rattle.call_write.specs.put.{Leaves, write_noted}

-- the loop: what a slot becomes is planned from pool and records as they were
module _ (e : Edition) (n : ℕ) (hs fs d : List ℕ) (offset : ℕ) (P₀ R₀ : List ℕ) (i : ℕ) (P R : List ℕ)
    (t : Turning e n (write_plan e P₀ R₀ hs fs d offset) P₀ R₀ i P R) where
  abbrev plan : ℕ → List Change
  plan = write_plan e P₀ R₀ hs fs d offset

  same_block : block e P i ≡ block e P₀ i
  same_block = block_left e n plan P₀ R₀ i P R t

  same_record : record_at R i ≡ record_at R₀ i
  same_record = record_left e n plan P₀ R₀ i P R t

  put_same : (o : Option Stretch) → put_by e P R d i o ≡ put_by e P₀ R₀ d i o
  unfolding put_by renewed recorded state
  put_same None = refl
  put_same (Some t) = rw (same_block, same_record)

  planned : write_plan e P R hs fs d offset i ≡ write_plan e P₀ R₀ hs fs d offset i
  unfolding write_plan plan_of
  planned = put_same _ ∙ rw same_block

  put_single : (s : ℕ) (o : Option Stretch) → Single e s (put_by e P₀ R₀ d s o)
  unfolding put_by
  put_single s None = inl refl
  put_single s (Some t) = renewed_single e R₀ (state R₀ s) s _

  plan_single : (s : ℕ) → Single e s (plan s)
  unfolding write_plan
  plan_single s = put_single s _

  module _ (w : Whole e n P₀ R₀) (l : i < n) where
    pub turn_record : 12 * i + 12 ≤ length R
    turn_record = slot_fits 12 n i R (t.records_long ∙ w.records) l

    pub turn_place : Leaves e n P₀ R₀ hs fs → Place e P hs fs i
    turn_place v = record {
      block = slot_fits e.size n i P (t.pool_long ∙ w.pool) l;
      heights = omega (arith, v.heights);
      firsts = omega (arith, v.firsts);
    }

    pub turn_writable : Leaves e n P₀ R₀ hs fs → Writable e P R hs i
    unfolding recorded
    turn_writable v = record {
      so = λ q.
          let f = (v.each i l).so q in
          record { sound = rw (same_block, same_record) f.sound; young = rw same_record f.young };
    }

    pub write_turn : (P' R' : List ℕ) → P' ≡ puts e.size (λ c. c.block) (write_plan e P R hs fs d offset i) P
        → R' ≡ puts 12 (λ c. c.line) (write_plan e P R hs fs d offset i) R → Turning e n (write_plan e P₀ R₀ hs fs d offset) P₀ R₀ (i + 1) P' R'
    write_turn P' R' ep er =
        turning_on e n plan P₀ R₀ i P R t l w.pool w.records (plan_single i) P' R' (rw planned at ep) (rw planned at er)

-- what is noted of the blob decides
module _ (e : Edition) (n : ℕ) (P R hs fs : List ℕ) (bytes offset : ℕ) (d : List ℕ) (x : Checked) (ex : x ≡ write_barred R hs n bytes offset (length d)) where
  -- refused so
  pub noted_refused : (q : Refusal) → x ≡ Err q → Ends e answer_of (write_noted e n P R hs fs bytes offset d) P R (Err q) P R
  unfolding write_noted answer_of after through
  noted_refused q eq = record { answer = rw (← ex, eq); pool = rw (← ex, eq); records = rw (← ex, eq) }

  module _ (z : x ≡ Ok tt) where
    pub noted_leaves : Unworn e n P R hs fs → Leaves e n P R hs fs
    noted_leaves u = record { heights = u.heights; firsts = u.firsts; each = u.each (write_fresh R hs n bytes offset (length d) x ex z) }

    pub noted_done : (P' R' : List ℕ) → P' ≡ puts e.size (λ c. c.block) (over (write_plan e P R hs fs d offset) 0 n) P
        → R' ≡ puts 12 (λ c. c.line) (over (write_plan e P R hs fs d offset) 0 n) R
        → Ends e answer_of (write_noted e n P R hs fs bytes offset d) P R (Ok tt) P' R'
    unfolding write_noted answer_of after changed_by through
    noted_done P' R' ep er = record { answer = rw (← ex, z); pool = ep ∙ rw (← ex, z); records = er ∙ rw (← ex, z) }
