-- The length's answer: an equation for each way out.
use Rattle.std.specs.Prelude.{Err, Ok, Result}
use mathlib.Core.Path.{◌≡◌, ap, ◌∙◌, sym}
use mathlib.Core.List.{List}
use Prim.Native.Nat.{ℕ}
use Rattle.meaning.specs.Calls.{slots_in, length_on, length_in, length_call}
use Rattle.meaning.specs.Answers.{answer_of}
use Rattle.meaning.specs.declared.Edition.{Edition}
use Rattle.meaning.specs.declared.Refusal.{Refusal}
use Rattle.check_gate.specs.Gate.{gate, Opened}
use Rattle.check_gate.proofs.BehindTheGate.{gate_barred, gate_behind}
use Rattle.check_blob.specs.notes.{met, Walked}
use Rattle.check_blob.specs.Rooted.{open_noted}
use Rattle.check_blob.proofs.Opening.{open_fault, open_found, open_reads}

-- refusals 1 and 2, or what is answered behind them
module _ (e : Edition) (P R : List ℕ) (x : Opened) (ex : x ≡ gate e P R) (r : ℕ) where
  pub length_barred : (q : Refusal) → x ≡ Err q → Err q ≡ answer_of (length_call e P R r)
  unfolding answer_of length_call
  length_barred q eq = sym (ap answer_of (gate_barred e P R x ex q eq (length_in e (slots_in e P) P R r)))

  pub length_behind : (n : ℕ) → x ≡ Ok n → (a : Result ℕ Refusal) → a ≡ answer_of (length_in e n P R r) → a ≡ answer_of (length_call e P R r)
  unfolding length_call
  length_behind n en a ea = ea ∙ sym (ap answer_of (gate_behind e P R x ex n en (λ m. length_in e m P R r)))

-- refusal 3 and the blob check: the refusal, or the blob's bytes
module _ (e : Edition) (n : ℕ) (P R : List ℕ) (r : ℕ) (o : List ℕ) (w : Walked) (sx ox : List ℕ) (ew : met w sx ox ≡ open_noted e n P R r o) where
  pub length_refused : (f : Refusal) → w ≡ Err f → Err f ≡ answer_of (length_in e n P R r)
  unfolding answer_of length_in
  length_refused f ef = rw (open_fault e n P R r o w sx ox ew f ef (length_on e n P R))

  pub length_found : (b k : ℕ) → w ≡ Ok (b, k) → Ok b ≡ answer_of (length_in e n P R r)
  unfolding answer_of length_in length_on
  length_found b k eb =
      ap Ok (open_found e n P R r o w sx ox ew b k eb).bytes
      ∙ sym (ap answer_of (open_reads e n P R r o w sx ox ew b k eb (length_on e n P R)))
