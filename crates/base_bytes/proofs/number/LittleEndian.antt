-- The library's little-endian bytes and numbers are those of the definitions.
use mathlib.Core.Path.{◌≡◌, refl, ap, ◌∙◌, sym}
use mathlib.Core.List.{List, [], ◌∷◌, ◌++◌}
use Prim.Native.Nat.{ℕ, zero, suc, ◌+◌, ◌-◌, ◌*◌, ◌/◌, ◌%◌, ◌^◌, ◌<◌, ◌≤◌}
use native.Mathlib.Nat.{mul_comm, div-one}
use native.Mathlib.Omega.{arith}
use lib.ListN.{length, get_or, take, drop, replicate, length-replicate, length-append}
use lib.Seq.{take-suc, take_all, take_at, length-take-le}
use Rattle.std.proofs.lemmas.List.{drop-replicate}
use Rattle.std.specs.Int.{w64, to_le_bytes, from_le_bytes, bytes_low_first, sum_through, byte_worth, byte_at}
use Rattle.std.specs.List.{slice_index}
use Rattle.meaning.specs.Lists.{number, bytes}
use Rattle.laws.proofs.Numbers.{number_append, bytes_length, bytes_split, rest_more}

byte_is : (i n : ℕ) → byte_at i n ≡ n / 256 ^ i % 256
byte_is zero n = ap (λ (k : ℕ). k % 256) (sym (div-one n))
byte_is (suc i) n = refl

bytes_from : (i k n : ℕ) → bytes_low_first i k n ≡ bytes k (n / 256 ^ i)
unfolding bytes
bytes_from i zero n = refl
bytes_from i (suc k) n =
    let e : n / 256 ^ i / 256 ≡ n / 256 ^ suc i = rest_more i n (n / 256 ^ i) refl ∙ ap (λ (j : ℕ). n / 256 ^ j) (omega arith) in
    rw (byte_is i n, bytes_from (suc i) k n, e) refl

-- the eight bytes of a number
pub bytes_eight : (n : ℕ) → to_le_bytes w64 n ≡ bytes 8 n
bytes_eight n = bytes_from 0 8 n ∙ ap (bytes 8) (div-one n)

-- the W lowest of them
pub bytes_lowest : (w n : ℕ) → w ≤ 8 → take w (to_le_bytes w64 n) ≡ bytes w n
bytes_lowest w n h =
    let e : w + (8 - w) ≡ 8 = omega arith in
    ap (take w) (bytes_eight n ∙ ap (λ (k : ℕ). bytes k n) (sym e) ∙ bytes_split w (8 - w) n)
    ∙ take_at (bytes w n) (bytes (8 - w) (n / 256 ^ w)) w (bytes_length w n)

number_sum : (k : ℕ) (l : List ℕ) → k < length l → sum_through (λ (i : ℕ). byte_worth i (slice_index l i)) k ≡ number (take (suc k) l)
unfolding number
number_sum zero [] h = absurd (omega arith)
number_sum zero (x ∷ l) h = omega arith
number_sum (suc k) l h =
    let g = get_or l (suc k) 0 in
    let m : g * 256 ^ suc k ≡ 256 ^ suc k * (g + 256 * 0) = mul_comm g (256 ^ suc k) ∙ ap (λ (z : ℕ). 256 ^ suc k * z) (omega arith) in
    rw (take-suc l (suc k) 0 h, number_append, length-take-le (suc k) l (omega arith)) (omega (arith, number_sum k l (omega arith), m))

-- the number in eight bytes
pub number_eight : (l : List ℕ) → length l ≡ 8 → from_le_bytes w64 l ≡ number l
number_eight l h = number_sum 7 l (omega arith) ∙ ap number (take_all 8 l (omega arith))

-- zeros after the bytes of a number change nothing
pub number_padded : (l : List ℕ) (k : ℕ) → number (l ++ replicate k 0) ≡ number l
unfolding number
number_padded [] zero = refl
number_padded [] (suc k) = omega (arith, number_padded [] k)
number_padded (x ∷ l) k = omega (arith, number_padded l k)

-- so the number in eight bytes, of which the first are these and the others are zero, is the one in these
pub number_read : (w : ℕ) (l : List ℕ) → length l ≡ w → w ≤ 8 → from_le_bytes w64 (l ++ drop w (replicate 8 0)) ≡ number l
number_read w l e h =
    ap (λ (r : List ℕ). from_le_bytes w64 (l ++ r)) (drop-replicate w 8 0)
    ∙ number_eight (l ++ replicate (8 - w) 0) (simp (length-append, length-replicate) (omega arith)) ∙ number_padded l (8 - w)
