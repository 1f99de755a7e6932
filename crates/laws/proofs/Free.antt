-- The records of a wiped store: each is free at version 0, and together they are as long as n records are.
use mathlib.Core.Path.{◌≡◌, refl, ap, ◌∙◌}
use mathlib.Core.List.{◌++◌}
use Prim.Native.Nat.{ℕ, zero, suc, ◌+◌, ◌*◌, ◌<◌}
use native.Mathlib.Omega.{arith}
use lib.ListN.{length, take, drop, length-append}
use lib.Seq.{take_at, drop-append-add}
use Rattle.meaning.specs.Lists.{part}
use Rattle.meaning.specs.Bytes.{record_at, record_of}
use Rattle.meaning.specs.Calls.{free_records}
use Rattle.laws.proofs.Codec.{record_length}

pub free_record : (n s : ℕ) → s < n → record_at (free_records n) s ≡ record_of 0 0
unfolding record_at free_records part
free_record zero s low = absurd (omega arith)
free_record (suc n) zero low = take_at (record_of 0 0) (free_records n) 12 (record_length 0 0)
free_record (suc n) (suc s) low =
    let q : 12 * suc s ≡ length (record_of 0 0) + 12 * s = omega (arith, record_length 0 0) in
    ap (λ (k : ℕ). take 12 (drop k (record_of 0 0 ++ free_records n))) q
    ∙ ap (take 12) (drop-append-add (record_of 0 0) (free_records n) (12 * s)) ∙ free_record n s (omega arith)

pub free_length : (n : ℕ) → length (free_records n) ≡ 12 * n
unfolding free_records
free_length zero = refl
free_length (suc n) = length-append (record_of 0 0) (free_records n) ∙ omega (arith, free_length n, record_length 0 0)
