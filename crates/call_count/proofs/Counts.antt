-- The changes counted, slot by slot: those counted and those of the slots ahead are all, for any plan. A plan may go by things that the code does not
-- read (the records, say): x stands for them, and the count is that of the plan for every x.
use mathlib.Core.Path.{◌≡◌, ap, ◌∙◌, sym}
use mathlib.Core.Bool.{not}
use mathlib.Core.List.{List}
use Prim.Native.Nat.{ℕ, ◌+◌, ◌-◌, ◌*◌, ◌≤◌, ◌<◌}
use native.Mathlib.Omega.{arith}
use mir.Syntax.{w64}
use mir.Val.{Fits}
use lib.Dec.{eqb}
use lib.ListN.{length, get_or, length-append}
use Rattle.meaning.specs.declared.Edition.{Edition}
use Rattle.meaning.specs.Edition.{Proper}
use Rattle.meaning.specs.Lists.{pick}
use Rattle.meaning.specs.Change.{Change}
use Rattle.laws.proofs.Inversions.{by_test}
use Rattle.laws_resize.specs.growth.HeldAfter.{usable_below}
use Rattle.check_blob.proofs.visit.VisitAsDefined.{slot_fits}
use Rattle.check_gate.specs.Gate.{Whole}
use Rattle.check_survey.specs.sites.Known.{Known}
use Rattle.plan_slot.specs.change.Turns.{over}
use Rattle.plan_slot.proofs.change.SlotLoop.{over_none, over_step}
use Rattle.plan_slot.specs.declared.turn.Turn.{Turn}
use Rattle.plan_slot.specs.turn.{turned, turns}
use Rattle.plan_slot.proofs.turn.TurnByCases.{turns_length}
use Rattle.plan_longer.specs.declared.fresh.Growth.{Growth}
use Rattle.plan_longer.specs.declared.towers.Tower.{Tower}
use Rattle.plan_longer.specs.Plans.{Here, AllHere, grow_plan, grow_plans}
use Rattle.plan_tree.specs.declared.cuts.Cut.{Cut}
use Rattle.plan_shorter.specs.Plans as cut
use Rattle.std.specs.Prelude.{None, Some}
use Rattle.plan_write.specs.declared.stretch.Stretch.{Stretch}
use Rattle.plan_write.specs.stretch.{plan_of, put_by, write_plan, Place, Counted}
use Rattle.plan_write.proofs.rewriting.PlannedAsDefined.{counted_known}
use Rattle.call_delete.specs.free.{clear_plan}
use Rattle.call_count.specs.Plannable.{Plannable}
use Rattle.call_count.specs.counts.{Counting}

ahead_step : (plan : ℕ → List Change) (i n : ℕ) → i < n → length (over plan i (n - i)) ≡ length (plan i) + length (over plan (i + 1) (n - (i + 1)))
ahead_step plan i n l = ap length (over_step plan i n l) ∙ length-append (plan i) _

module _ {X : Type 0} (plan : X → ℕ → List Change) (n : ℕ) where
  pub counting_none : Counting plan n 0 0
  counting_none =
      let z : n - 0 ≡ n = omega arith in
      record { all = λ x. omega (arith, ap (λ (k : ℕ). length (over (plan x) 0 k)) z); few = omega arith; within = omega arith }

  pub counting_start : Counting plan n 0 0
  counting_start = counting_none

  -- where none is ahead, those counted are all, wherever that is
  pub counting_past : (i count : ℕ) → ((x : X) → length (over (plan x) 0 n) ≡ count + length (over (plan x) i (n - i)))
      → n ≤ i → (x : X) → count ≡ length (over (plan x) 0 n)
  counting_past i count all l x = omega (arith, all x, ap length (over_none (plan x) i n l))

  module _ (i count : ℕ) (q : Counting plan n i count) where
    pub counting_end : n ≤ i → (x : X) → count ≡ length (over (plan x) 0 n)
    counting_end = counting_past i count q.all

    pub counting_most : count ≤ n
    counting_most = omega (arith, q.few, q.within)

    module _ (less : i < n) (k : ℕ) (small : k ≤ 1) where
      pub counting_fits : Fits w64 n → Fits w64 (count + k)
      counting_fits fits = record { fits = omega (arith, fits.fits, q.few) }

      -- one slot more
      pub counting_on : ((x : X) → k ≡ length (plan x i)) → Counting plan n (i + 1) (count + k)
      counting_on one = record {
        all = λ x. omega (arith, q.all x, ahead_step (plan x) i n less, one x);
        few = omega (arith, q.few);
        within = omega arith;
      }

-- longer: a slot's turn says how many changes it has
pub grow_one : (e : Edition) (g : Growth) (t : Tower) (P R free hs fs kept : List ℕ) (root i below : ℕ) → below ≡ usable_below R i
    → (u : Turn) (x : List ℕ) → turned e R i u x ≡ grow_plan e g t P R free hs fs kept root below i → (k : ℕ) → k ≡ turns u
    → k ≡ length (grow_plans e g t P R free hs fs kept root i)
unfolding grow_plans
grow_one e g t P R free hs fs kept root i below eb u x planned k ek =
    ek ∙ sym (turns_length e R i u x) ∙ ap length (planned ∙ ap (λ (m : ℕ). grow_plan e g t P R free hs fs kept root m i) eb)

pub grow_here : (e : Edition) (g : Growth) (n : ℕ) (P R hs fs : List ℕ) (root i : ℕ) → AllHere e g n P R hs fs root → i < n
    → Here e g P R hs fs root i
grow_here e g n P R hs fs root i all l = all.each i l

pub grow_line : (e : Edition) (n : ℕ) (P R : List ℕ) (i : ℕ) → Whole e n P R → i < n → 12 * i + 12 ≤ length R
grow_line e n P R i w l = slot_fits 12 n i R w.records l

-- shorter: the same
pub cut_one : (e : Edition) (c : Cut) (hs fs kept : List ℕ) (root : ℕ) (P : List ℕ) (i : ℕ) (turn : Turn) (x : List ℕ)
    → ((R : List ℕ) → turned e R i turn x ≡ cut.cut_plan e c hs fs kept root P R i) → (k : ℕ) → k ≡ turns turn
    → (R : List ℕ) → k ≡ length (cut.cut_plan e c hs fs kept root P R i)
cut_one e c hs fs kept root P i turn x planned k ek R = ek ∙ sym (turns_length e R i turn x) ∙ ap length (planned R)

pub cut_here : (e : Edition) (n : ℕ) (P hs fs : List ℕ) (i : ℕ) → i < n → ((s : ℕ) → s < n → cut.Here e P hs fs s) → cut.Here e P hs fs i
cut_here e n P hs fs i less all = all i less

-- write: a slot changes if there is a stretch of it that does
module _ (e : Edition) (P hs fs d : List ℕ) (offset i : ℕ) where
  pub write_none : None ≡ plan_of e P hs fs d offset i → (R : List ℕ) → 0 ≡ length (write_plan e P R hs fs d offset i)
  unfolding write_plan put_by
  write_none et R = rw (← et)

  pub write_one : (t : Stretch) → Some t ≡ plan_of e P hs fs d offset i → (R : List ℕ) → 1 ≡ length (write_plan e P R hs fs d offset i)
  unfolding write_plan put_by
  write_one t et R = rw (← et)

module _ (e : Edition) (n : ℕ) (P hs fs : List ℕ) (i : ℕ) (v : Plannable e n P hs fs) (l : i < n) where
  pub write_counted : Counted e P hs i
  write_counted = v.each i l

  pub write_place : Place e P hs fs i
  write_place = record {
    block = slot_fits e.size n i P v.pool l;
    heights = omega (arith, v.heights);
    firsts = omega (arith, v.firsts);
  }

-- each slot of a pool can be planned, if the blob is known
pub plannable_known : (e : Edition) → Proper e → (n : ℕ) (P R : List ℕ) (r len k : ℕ) (row hs fs : List ℕ) → Known e n P R r len k row hs fs
    → length P ≡ e.size * n → Plannable e n P hs fs
plannable_known e p n P R r len k row hs fs g whole = record {
  pool = whole;
  heights = g.heights;
  firsts = g.firsts;
  each = λ s l. counted_known e p n P R r len k row hs fs g whole s;
}

-- delete: a slot changes if its height is noted, whatever the edition and the records are
abbrev pub cleared : List ℕ → Edition × List ℕ → ℕ → List Change
cleared hs x s = clear_plan x.0 x.1 hs s

pub clear_one : (hs : List ℕ) (i k : ℕ) → k ≡ pick (not (eqb (get_or hs i 0) 0)) 1 0 → (x : Edition × List ℕ) → k ≡ length (cleared hs x i)
unfolding clear_plan pick
clear_one hs i k ek x = ek ∙ by_test (eqb (get_or hs i 0) 0) (λ q. rw q) (λ q. rw q)
