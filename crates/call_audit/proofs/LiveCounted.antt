-- The audit's answer: an equation for each way out, and the count of live slots, one after the other.
use Rattle.std.specs.Prelude.{Err, Ok, Option, Result}
use mathlib.Core.Path.{◌≡◌, ap, ◌∙◌, sym}
use mathlib.Core.Bool.{Bool, not}
use mathlib.Core.List.{List, [], ◌∷◌}
use Prim.Native.Nat.{ℕ, ◌+◌, ◌-◌, ◌≤◌, ◌<◌}
use native.Mathlib.Omega.{arith}
use borrow.Author.Tests.{eq-eqb, ne_eqb}
use lib.Dec.{eqb}
use lib.ListN.{length, length-append}
use Rattle.meaning.specs.Lists.{pick, range, filter}
use Rattle.meaning.specs.Bytes.{record_at, state_of, state}
use Rattle.meaning.specs.Walk.{pool_check}
use Rattle.meaning.specs.Calls.{after_check, live, slots_in, audit_on, audit_in, audit_call}
use Rattle.meaning.specs.Answers.{answer_of}
use Rattle.meaning.specs.declared.Edition.{Edition}
use Rattle.meaning.specs.declared.Refusal.{Refusal}
use Rattle.laws.proofs.Ranges.{filter_append, left_step, left_none}
use Rattle.laws.proofs.Codec.{state_is}
use Rattle.check_gate.specs.Gate.{gate, Opened}
use Rattle.check_gate.proofs.BehindTheGate.{gate_barred, gate_behind}
use Rattle.check_blob.specs.notes.{met, Walked}
use Rattle.check_pool.specs.roots.{note_named, kept, pool_noted}
use Rattle.check_blob.proofs.notes.Answering.{noted_fault, noted_fine}
use Rattle.call_audit.specs.Counting.{live_from}

-- refusals 1 and 2, or what is answered behind them
module _ (e : Edition) (P R : List ℕ) (x : Opened) (ex : x ≡ gate e P R) where
  pub audit_barred : (q : Refusal) → x ≡ Err q → Err q ≡ answer_of (audit_call e P R)
  unfolding answer_of audit_call
  audit_barred q eq = sym (ap answer_of (gate_barred e P R x ex q eq (audit_in e (slots_in e P) P R)))

  pub audit_behind : (n : ℕ) → x ≡ Ok n → (a : Result ℕ Refusal) → a ≡ answer_of (audit_in e n P R) → a ≡ answer_of (audit_call e P R)
  unfolding audit_call
  audit_behind n en a ea = ea ∙ sym (ap answer_of (gate_behind e P R x ex n en (λ m. audit_in e m P R)))

-- the pool check: its fault, or the count
module _ (e : Edition) (n : ℕ) (P R : List ℕ) (named : Option ℕ) (o : List ℕ) (w : Walked) (sx ox : List ℕ) (ew : met w sx ox ≡ pool_noted e n P R named o) where
  pub audit_fault : (f : Refusal) → w ≡ Err f → Err f ≡ answer_of (audit_in e n P R)
  unfolding met pool_noted answer_of audit_in after_check
  audit_fault f ef = rw (noted_fault (note_named named (kept 0 0 o)) f (pool_check e n P R) (rw ef at ew))

  pub audit_live : (f : ℕ × ℕ) → w ≡ Ok f → (m : ℕ) → m ≡ live_from R 0 n → Ok m ≡ answer_of (audit_in e n P R)
  unfolding met pool_noted answer_of audit_in after_check audit_on live live_from
  audit_live f eb m em =
      let q = noted_fine (note_named named (kept 0 0 o)) (record { bytes = f.0; leaves = f.1; row = ox }) sx (pool_check e n P R) (rw eb at ew) in
      rw (q.1, em)

-- live slots, one after the other
module _ (R : List ℕ) (i : ℕ) (rb : List ℕ) (er : rb ≡ record_at R i) (st : ℕ) (es : st ≡ state_of rb) where
  pub live_none : st ≡ 0 → 0 ≡ live_from R i 1
  unfolding live_from range filter pick
  live_none z = simp (← state_is R i rb er st es, eq-eqb st 0 z)

  pub live_one : (st ≡ 0 → ⊥) → 1 ≡ live_from R i 1
  unfolding live_from range filter pick
  live_one n = simp (← state_is R i rb er st es, ne_eqb st 0 n)

-- the count so far and that of the slots left are the whole
pub live_start : (R : List ℕ) (n : ℕ) → 0 + live_from R 0 (n - 0) ≡ live_from R 0 n
live_start R n = let z : n - 0 ≡ n = omega arith in rw z (omega arith)

module _ (R : List ℕ) (n i live : ℕ) (inv : live + live_from R i (n - i) ≡ live_from R 0 n) where
  pub live_more : i < n → (m : ℕ) → m ≡ live_from R i 1 → live + m + live_from R (i + 1) (n - (i + 1)) ≡ live_from R 0 n
  live_more l m em = omega (arith, first_and_rest)
    where
      first_and_rest : live_from R i (n - i) ≡ live_from R i 1 + live_from R (i + 1) (n - (i + 1))
      first_and_rest =
          let is_live : ℕ → Bool = λ s. not (eqb (state R s) 0) in
          let rest = range (i + 1) (n - (i + 1)) in
          unfold live_from range in
          ap (λ (l : List ℕ). length (filter is_live l)) (left_step i n l) ∙ ap length (filter_append is_live (i ∷ []) rest)
          ∙ length-append (filter is_live (i ∷ [])) (filter is_live rest)

  pub live_end : n ≤ i → live ≡ live_from R 0 n
  unfolding live_from filter
  live_end l = let a = rw (left_none i n l) at inv in omega (arith, a)
