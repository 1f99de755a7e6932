-- A leaf's place behind the refusals: an equation for each way out.
use Rattle.std.specs.Prelude.{Err, Ok, Result}
use mathlib.Core.Path.{◌≡◌, ap, ◌∙◌, sym}
use mathlib.Core.List.{List}
use Prim.Native.Nat.{ℕ, ◌<◌}
use lib.ListN.{length, take}
use Rattle.meaning.specs.Edition.{Proper}
use Rattle.meaning.specs.Calls.{slots_in, show_on, show_in, show_call}
use Rattle.meaning.specs.Answers.{leaf_answer}
use Rattle.meaning.specs.declared.Edition.{Edition}
use Rattle.meaning.specs.declared.Refusal.{Refusal}
use Rattle.check_gate.specs.Gate.{gate, Whole, Opened}
use Rattle.check_gate.proofs.BehindTheGate.{gate_barred, gate_behind}
use Rattle.check_blob.specs.notes.{met, Walked}
use Rattle.check_blob.specs.Rooted.{open_noted}
use Rattle.check_blob.proofs.Opening.{Blobbed, open_fault, open_below, open_found, open_reads}
use Rattle.call_show.specs.place.{Below, show_spelt}
use Rattle.call_show.proofs.find.Shown.{row_below, show_spelt_lem}

-- refusals 1 and 2, or what is answered behind them
module _ (e : Edition) (P R : List ℕ) (x : Opened) (ex : x ≡ gate e P R) (r i : ℕ) where
  pub leaf_barred : (q : Refusal) → x ≡ Err q → Err q ≡ leaf_answer e (show_call e P R r i)
  unfolding leaf_answer show_call
  leaf_barred q eq = sym (ap (leaf_answer e) (gate_barred e P R x ex q eq (show_in e (slots_in e P) P R r i)))

  pub leaf_behind : (n : ℕ) → x ≡ Ok n → (a : Result (ℕ × ℕ) Refusal) → a ≡ leaf_answer e (show_in e n P R r i) → a ≡ leaf_answer e (show_call e P R r i)
  unfolding show_call
  leaf_behind n en a ea = ea ∙ sym (ap (leaf_answer e) (gate_behind e P R x ex n en (λ m. show_in e m P R r i)))

-- refusal 3 and the blob check: the refusal, or the leaf in the row
module _ (e : Edition) (n : ℕ) (P R : List ℕ) (r : ℕ) (o : List ℕ) (w : Walked) (sx ox : List ℕ) (ew : met w sx ox ≡ open_noted e n P R r o) where
  module _ (f : Refusal) (ef : w ≡ Err f) where
    pub leaf_refused : (i : ℕ) → Err f ≡ leaf_answer e (show_in e n P R r i)
    unfolding leaf_answer show_in
    leaf_refused i = rw (open_fault e n P R r o w sx ox ew f ef (show_on e n P R i))

  module _ (b k : ℕ) (eb : w ≡ Ok (b, k)) (q : Proper e) (z : Whole e n P R) (lo : length o ≡ n) where
    abbrev blob : Blobbed e n P R r b k o sx ox
    blob = open_found e n P R r o w sx ox ew b k eb

    below : r < n
    below = open_below e n P R r o w sx ox ew b k eb

    pub found_below : Below e n P (take k ox)
    found_below = row_below e q n P R z r b k o sx ox blob below lo

    pub leaf_found : (i : ℕ) (x : Result (ℕ × ℕ) Refusal) → x ≡ leaf_answer e (show_spelt e P i (take k ox)) → x ≡ leaf_answer e (show_in e n P R r i)
    unfolding show_in
    leaf_found i x h =
        let a = open_reads e n P R r o w sx ox ew b k eb (show_on e n P R i) in
        h ∙ sym (ap (leaf_answer e) (a ∙ show_spelt_lem e q n P R z r b k o sx ox blob below lo i))
