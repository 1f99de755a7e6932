-- Wipe: the records before slot i are free at version 0, those from i on are as they were; at the end all are.
use Rattle.std.specs.Prelude.{Err, Ok}
use mathlib.Core.Path.{◌≡◌, refl, ap, ◌∙◌, sym}
use mathlib.Core.Bool.{Bool, true, false, not}
use mathlib.Core.List.{List, ◌++◌, append_assoc, append-nil}
use Prim.Native.Nat.{ℕ, zero, suc, ◌+◌, ◌*◌, ◌/◌, ◌≤◌, ◌<◌}
use native.Mathlib.Numerals.{add-one}
use native.Mathlib.Omega.{arith}
use borrow.Author.Tests.{not-true, not-false}
use lib.ListN.{length, take, replicate}
use lib.Seq.{take_all}
use Rattle.meaning.specs.declared.Reason.TheVariants.{WrongLengths}
use Rattle.meaning.specs.Lists.{pick, pasted}
use Rattle.meaning.specs.Bytes.{record_with, record_of}
use Rattle.meaning.specs.Refusals.{nowhere}
use Rattle.meaning.specs.Change.{put}
use Rattle.meaning.specs.Calls.{slots_in, sized, free_records, wiped, after_wipe}
use Rattle.meaning.specs.Answers.{wipe_answer, Wipes}
use Rattle.meaning.specs.declared.Edition.{Edition}
use Rattle.meaning.specs.declared.Refusal.{Refusal}
use Rattle.laws.proofs.Codec.{record_length}
use Rattle.laws.proofs.Building.{take_pasted_to}
use Rattle.check_gate.proofs.BehindTheGate.{sized_whole}

free_more : (i : ℕ) → free_records (i + 1) ≡ free_records i ++ record_of 0 0
unfolding free_records
free_more zero = append-nil (record_of 0 0)
free_more (suc i) = rw (add-one) (ap (λ (l : List ℕ). record_of 0 0 ++ l) (sym (ap free_records (add-one i)) ∙ free_more i) ∙ sym (append_assoc (record_of 0 0) (free_records i) (record_of 0 0)))

free_line : (line : List ℕ) → line ≡ record_with 0 0 0 → line ≡ record_of 0 0
unfolding record_of
free_line line e = e

-- one record more
module _ (n i : ℕ) (R₀ R : List ℕ) (l : length R₀ ≡ 12 * n) (kept : length R ≡ length R₀) (inv : take (12 * i) R ≡ free_records i) where
  pub free_on : i < n → (line R' : List ℕ) → line ≡ record_with 0 0 0 → R' ≡ put 12 i line R → take (12 * (i + 1)) R' ≡ free_records (i + 1)
  unfolding put
  free_on h line R' el er =
      let k : 12 * i + 12 ≡ 12 * (i + 1) = omega arith in
      let f : R' ≡ pasted (12 * i) (record_of 0 0) R = er ∙ ap (λ (x : List ℕ). pasted (12 * i) x R) (free_line line el) in
      let t : take (12 * i + length (record_of 0 0)) (pasted (12 * i) (record_of 0 0) R) ≡ take (12 * i) R ++ record_of 0 0 =
      take_pasted_to (12 * i) (record_of 0 0) R (omega arith) in
      let u : take (12 * i + 12) (pasted (12 * i) (record_of 0 0) R) ≡ take (12 * i) R ++ record_of 0 0 =
      ap (λ (j : ℕ). take (12 * i + j) (pasted (12 * i) (record_of 0 0) R)) (sym (record_length 0 0)) ∙ t in
      ap (λ (j : ℕ). take j R') (sym k) ∙ ap (take (12 * i + 12)) f ∙ u ∙ ap (λ (x : List ℕ). x ++ record_of 0 0) inv ∙ sym (free_more i)

  pub free_end : n ≤ i → i ≤ n → R ≡ free_records n
  free_end a b =
      let z : i ≡ n = omega arith in
      let t : take (12 * i) R ≡ R = take_all (12 * i) R (omega arith) in
      sym t ∙ inv ∙ rw z

pub free_start : (R : List ℕ) → take (12 * 0) R ≡ free_records 0
unfolding free_records
free_start R = refl

-- the lengths decide
module _ (e : Edition) (P R : List ℕ) (s : Bool) (es : s ≡ sized e P R) where
  pub wipe_lengths : not s ≡ true → (q : Refusal) → q ≡ nowhere WrongLengths → Wipes e P R (Err q) P R
  unfolding wipe_answer after_wipe pick
  wipe_lengths t q eq =
      record { answer = rw eq (simp (← es, not-true s t)); pool = simp (← es, not-true s t); records = simp (← es, not-true s t) }

  pub wipe_done : not s ≡ false → (P' R' : List ℕ) → P' ≡ replicate (length P) 0 → R' ≡ free_records (length P / e.size) → Wipes e P R (Ok tt) P' R'
  unfolding wipe_answer after_wipe wiped pick slots_in
  wipe_done t P' R' ep er =
      let w : length P ≡ e.size * (length P / e.size) = (sized_whole e P R (sym es ∙ not-false s t)).pool in
      record {
        answer = simp (← es, not-false s t);
        pool = ep ∙ ap (λ (j : ℕ). replicate {A = ℕ} j 0) w ∙ simp (← es, not-false s t);
        records = er ∙ simp (← es, not-false s t);
      }
