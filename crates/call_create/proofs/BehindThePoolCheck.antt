-- Create: refusals 1 and 2 and the pool check's fault with nothing changed, or what is behind them.
use Rattle.std.specs.Prelude.{Err, Ok, Option, Result}
use mathlib.Core.Path.{◌≡◌}
use mathlib.Core.List.{List, []}
use Prim.Native.Nat.{ℕ}
use Rattle.meaning.specs.Walk.{pool_check}
use Rattle.meaning.specs.Calls.{after_check, create_on, create_in, create_call, slots_in, after}
use Rattle.meaning.specs.Answers.{answer_of, Ends}
use Rattle.meaning.specs.declared.Edition.{Edition}
use Rattle.meaning.specs.declared.Refusal.{Refusal}
use Rattle.check_gate.specs.Gate.{Whole, gate, Opened}
use Rattle.check_gate.proofs.BehindTheGate.{gate_whole, gate_behind, gate_barred}
use Rattle.check_blob.specs.notes.{met, Walked}
use Rattle.check_blob.proofs.notes.Answering.{noted_fault, noted_fine}
use Rattle.check_pool.specs.roots.{note_named, kept, pool_noted}

module _ (e : Edition) (P R : List ℕ) (x : Opened) (ex : x ≡ gate e P R) where
  pub create_barred : (q : Refusal) → x ≡ Err q → Ends e answer_of (create_call e P R) P R (Err q) P R
  unfolding create_call answer_of after
  create_barred q eq =
      let u = gate_barred e P R x ex q eq (create_in e (slots_in e P) P R) in
      record { answer = rw u; pool = rw u; records = rw u }

  module _ (n : ℕ) (en : x ≡ Ok n) where
    pub create_whole : Whole e n P R
    create_whole = gate_whole e P R x ex n en

    pub create_opened : (a : Result ℕ Refusal) (P' R' : List ℕ) → Ends e answer_of (create_in e n P R) P R a P' R'
        → Ends e answer_of (create_call e P R) P R a P' R'
    unfolding create_call
    create_opened a P' R' h = rw (gate_behind e P R x ex n en (λ m. create_in e m P R)) h

-- the pool check
module _ (e : Edition) (n : ℕ) (P R : List ℕ) (named : Option ℕ) (o : List ℕ) (w : Walked) (sx ox : List ℕ) (ew : met w sx ox ≡ pool_noted e n P R named o) where
  pub create_fault : (f : Refusal) → w ≡ Err f → Ends e answer_of (create_in e n P R) P R (Err f) P R
  unfolding met pool_noted create_in after_check answer_of after
  create_fault f ef =
      let u = noted_fault (note_named named (kept 0 0 o)) f (pool_check e n P R) (rw ef at ew) in
      record { answer = rw u; pool = rw u; records = rw u }

  pub create_behind : (b k : ℕ) → w ≡ Ok (b, k) → (x : Result ℕ Refusal) (P' R' : List ℕ) → Ends e answer_of (create_on e n P R []) P R x P' R'
      → Ends e answer_of (create_in e n P R) P R x P' R'
  unfolding met pool_noted create_in after_check create_on
  create_behind b k eb x P' R' h =
      let u = noted_fine (note_named named (kept 0 0 o)) (record { bytes = b; leaves = k; row = ox }) sx (pool_check e n P R) (rw eb at ew) in
      rw u.1 h
