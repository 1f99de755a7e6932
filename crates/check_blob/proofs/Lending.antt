-- What a call lends behind refusals 1 and 2: the first n places of flags and rows that have a place for each slot of the pool.
use Rattle.std.specs.Prelude.{Ok}
use mathlib.Core.Path.{◌≡◌, ap, ◌∙◌, sym}
use mathlib.Core.List.{List, ◌++◌}
use Prim.Native.Nat.{ℕ, ◌+◌, ◌-◌, ◌≤◌}
use native.Mathlib.Omega.{arith}
use lib.ListN.{length, take, drop, replicate, length-replicate, replicate-append-replicate}
use lib.Seq.{take_at, length-take-le}
use Rattle.meaning.specs.Calls.{slots_in}
use Rattle.meaning.specs.declared.Edition.{Edition}
use Rattle.check_gate.specs.Gate.{gate, Opened}
use Rattle.check_gate.specs.Places.{Clear}
use Rattle.check_gate.proofs.BehindTheGate.{gate_slots}

-- the front of a row of zeros
zeros_front : (m n : ℕ) → n ≤ m → take n (replicate {A = ℕ} m 0) ≡ replicate n 0
zeros_front m n h =
    let k : n + (m - n) ≡ m = omega arith in
    let z : replicate {A = ℕ} m 0 ≡ replicate n 0 ++ replicate (m - n) 0 =
    ap (λ (j : ℕ). replicate {A = ℕ} j 0) (sym k) ∙ sym (replicate-append-replicate n (m - n) 0) in
    ap (take n) z ∙ take_at (replicate n 0) (replicate (m - n) 0) n (length-replicate n 0)

module _ (e : Edition) (P R : List ℕ) (x : Opened) (ex : x ≡ gate e P R) (n : ℕ) (en : x ≡ Ok n) where
  -- a row
  module _ (o : List ℕ) (lo : slots_in e P ≤ length o) where
    pub row_reaches : n ≤ length o
    row_reaches = omega (arith, gate_slots e P R x ex n en)

    pub row_lent : length (take (n - 0) (drop 0 o)) ≡ n
    row_lent = let z : n - 0 ≡ n = omega arith in ap (λ (j : ℕ). length (take j o)) z ∙ length-take-le n o row_reaches

  -- flags, all zero
  module _ (seen : List ℕ) (clear : Clear e P seen) where
    pub flags_reach : n ≤ length seen
    flags_reach = row_reaches seen clear.reaches

    pub flags_lent : take (n - 0) (drop 0 seen) ≡ replicate n 0
    flags_lent =
        let z : n - 0 ≡ n = omega arith in
        ap (λ (j : ℕ). take j seen) z ∙ ap (take n) clear.zero ∙ zeros_front (length seen) n flags_reach
