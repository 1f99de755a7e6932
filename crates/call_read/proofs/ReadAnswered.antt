-- A read's answer: an equation for each way out.
use Rattle.std.specs.Prelude.{Err, Ok, Result}
use mathlib.Core.Path.{◌≡◌, refl, ◌∙◌, sym, subst}
use mathlib.Core.Bool.{Bool, true, false, not}
use mathlib.Core.List.{List}
use Prim.Native.Nat.{ℕ, ◌+◌, ◌*◌, ◌^◌, ◌≤◌, ◌<◌}
use native.Mathlib.Omega.{arith}
use borrow.Author.Tests.{lt-ltb, ltb-false, not-true, not-false}
use lib.Dec.{ltb}
use lib.ListN.{length, take}
use Rattle.meaning.specs.declared.Reason.TheVariants.{OutOfRange}
use Rattle.meaning.specs.Lists.{part}
use Rattle.meaning.specs.Edition.{Proper}
use Rattle.meaning.specs.Refusals.{nowhere}
use Rattle.meaning.specs.Calls.{Outcome, refuse_if, slots_in, read_on, read_in, read_call}
use Rattle.meaning.specs.Answers.{finish_answer, read_out, Reads}
use Rattle.meaning.specs.declared.Edition.{Edition}
use Rattle.meaning.specs.declared.Refusal.{Refusal}
use Rattle.check_gate.specs.Gate.{gate, Whole, Opened}
use Rattle.check_gate.proofs.BehindTheGate.{gate_barred, gate_behind}
use Rattle.check_blob.specs.notes.{met, Walked}
use Rattle.check_blob.specs.Rooted.{open_noted}
use Rattle.check_blob.proofs.Opening.{Blobbed, open_fault, open_below, open_found, open_reads}
use Rattle.call_read.specs.copy.{spelt, Readable, Reading, read_spelt}
use Rattle.call_read.proofs.Spelt.{row_bytes, row_readable, read_spelt_lem}

-- refusals 1 and 2, or what is answered behind them
module _ (e : Edition) (P R : List ℕ) (x : Opened) (ex : x ≡ gate e P R) (r offset size : ℕ) where
  pub read_barred : (q : Refusal) → x ≡ Err q → (out : List ℕ) → Reads (read_call e P R r offset size) (Err q) out out
  unfolding finish_answer read_out read_call
  read_barred q eq out =
      let u = gate_barred e P R x ex q eq (read_in e (slots_in e P) P R r offset size) in
      record { answer = rw u; output = rw u }

  pub read_behind : (n : ℕ) → x ≡ Ok n → (a : Result (Unit {0}) Refusal) (out out' : List ℕ) → Reads (read_in e n P R r offset size) a out out'
      → Reads (read_call e P R r offset size) a out out'
  unfolding read_call
  read_behind n en a out out' h =
      subst (λ (y : Outcome (List ℕ)). Reads y a out out') (sym (gate_behind e P R x ex n en (λ m. read_in e m P R r offset size))) h

-- refusal 3 and the blob check: the refusal, or the read of what the row spells
module _ (e : Edition) (n : ℕ) (P R : List ℕ) (r : ℕ) (o : List ℕ) (w : Walked) (sx ox : List ℕ) (ew : met w sx ox ≡ open_noted e n P R r o) where
  module _ (f : Refusal) (ef : w ≡ Err f) where
    pub read_refused : (offset size : ℕ) (out : List ℕ) → Reads (read_in e n P R r offset size) (Err f) out out
    unfolding finish_answer read_out read_in
    read_refused offset size out =
        let u = open_fault e n P R r o w sx ox ew f ef (read_on e n P R offset size) in
        record { answer = rw u; output = rw u }

  module _ (b k : ℕ) (eb : w ≡ Ok (b, k)) (q : Proper e) (z : Whole e n P R) (lo : length o ≡ n) where
    abbrev blob : Blobbed e n P R r b k o sx ox
    blob = open_found e n P R r o w sx ox ew b k eb

    below : r < n
    below = open_below e n P R r o w sx ox ew b k eb

    pub found_bytes : b ≡ length (spelt e P (take k ox))
    found_bytes = row_bytes e q n P R z r b k o sx ox blob below lo

    pub found_readable : Readable e n P (take k ox)
    found_readable = row_readable e q n P R z r b k o sx ox blob below lo

    pub read_found : (offset size : ℕ) (x : Result (Unit {0}) Refusal) (out out' : List ℕ)
        → Reads (read_spelt offset size (spelt e P (take k ox))) x out out' → Reads (read_in e n P R r offset size) x out out'
    unfolding read_in
    read_found offset size x out out' h =
        let a = open_reads e n P R r o w sx ox ew b k eb (read_on e n P R offset size) in
        subst (λ (y : Outcome (List ℕ)). Reads y x out out') (sym (a ∙ read_spelt_lem e q n P R z r b k o sx ox blob below lo offset size)) h

-- refusal 10 of a read: t is whether the blob holds the range
module _ (offset size : ℕ) (c out : List ℕ) (b : ℕ) (eb : b ≡ length c) (t : Bool) (et : t ≡ not (ltb b (offset + size))) where
  pub read_past : not t ≡ true → (q : Refusal) → q ≡ nowhere OutOfRange → Reads (read_spelt offset size c) (Err q) out out
  unfolding read_spelt refuse_if finish_answer read_out
  read_past m q eq =
      let u : ltb (length c) (offset + size) ≡ true = rw (← eb) (not-false _ (sym et ∙ not-true t m)) in
      record { answer = rw (eq, u); output = rw u }

  pub read_within : not t ≡ false → (out' : List ℕ) → out' ≡ part offset size c → Reads (read_spelt offset size c) (Ok tt) out out'
  unfolding read_spelt refuse_if finish_answer read_out
  read_within m out' eo =
      let u : ltb (length c) (offset + size) ≡ false = rw (← eb) (not-true _ (sym et ∙ not-false t m)) in
      record { answer = rw u; output = rw u eo }

-- so it is where the range begins behind the blob's last byte
pub read_before : (offset size : ℕ) (c out : List ℕ) (b : ℕ) → b ≡ length c → b < offset → (q : Refusal) → q ≡ nowhere OutOfRange
    → Reads (read_spelt offset size c) (Err q) out out
unfolding not
read_before offset size c out b eb l q eq =
    let u : ltb b (offset + size) ≡ true = lt-ltb b (offset + size) (omega arith) in
    read_past offset size c out b eb (not (ltb b (offset + size))) refl (rw u refl) q eq

-- behind refusal 10 the read may start
pub reading_starts : (e : Edition) (n : ℕ) (P row : List ℕ) (k offset size b : ℕ) → k ≤ length row → length P ≡ e.size * n
    → Readable e n P (take k row) → b ≡ length (spelt e P (take k row)) → (t : Bool) → t ≡ not (ltb b (offset + size)) → not t ≡ false → b < 2 ^ 64
    → Reading e n P row k offset size
reading_starts e n P row k offset size b lk z g eb t et m w =
    let u : offset + size ≤ b = ltb-false b (offset + size) (not-true _ (sym et ∙ not-false t m)) in
    record { leaves = lk; pool = z; readable = g; fits = omega (arith, u, eb); word = omega (arith, u) }
