-- Parts of lists, and little-endian numbers: a number over a list is one over its front plus, shifted, one over the rest,
-- and a number's lowest bytes are those of its front, then those of what is left: one byte more at the end, for a loop that
-- stores byte after byte. Where the bytes are below 256 and the number fits, each undoes the other.
use mathlib.Core.Path.{◌≡◌, refl, ap, ◌∙◌, sym, subst}
use mathlib.Core.List.{List, [], ◌∷◌, ◌++◌}
use Prim.Native.Nat.{ℕ, zero, suc, ◌+◌, ◌-◌, ◌*◌, ◌/◌, ◌%◌, ◌^◌, ◌<◌, ◌≤◌}
use native.Mathlib.Nat.{mul_comm, mul_assoc, pow-suc, pow-succ', zero-add, one-mul, div-one, div-div-eq-div-mul, div-lt_iff_lt-mul}
use native.Mathlib.Numerals.{add-one}
use native.Mathlib.Omega.{arith}
use lib.ListN.{length, get_or, take, drop, length-drop}
use lib.Seq.{take-add, take-suc, take-take, drop_at, drop-drop, drop-cons, get_or-drop, length-take-le}
use Rattle.meaning.specs.Lists.{part, number, bytes}

-- a part of j + k elements is one of j, then one of k
pub part_split : {A : Type 0} (j k at : ℕ) (l : List A) → part at (j + k) l ≡ part at j l ++ part (at + j) k l
unfolding part
part_split j k at l = take-add j k (drop at l) ∙ rw drop-drop

-- a part that lies within a list is as long as was asked
pub part_length : {A : Type 0} (at k : ℕ) (l : List A) → at + k ≤ length l → length (part at k l) ≡ k
unfolding part
part_length at k l h = length-take-le k (drop at l) (rw length-drop (omega arith))

-- a part is the end of a front
pub part_front : {A : Type 0} (at k : ℕ) (l : List A) → at ≤ length l → drop at (take (at + k) l) ≡ part at k l
unfolding part
part_front at k l h = rw (take-add at k l) (drop_at (take at l) (take k (drop at l)) at (length-take-le at l h))

-- a part of a part is a part
pub part_part : {A : Type 0} (at n b k : ℕ) (l : List A) → b + k ≤ n → at + n ≤ length l → part b k (part at n l) ≡ part (at + b) k l
unfolding part
part_part at n b k l h f =
    let m : b + (n - b) ≡ n = omega arith in
    let s : b ≤ length (drop at l) = rw length-drop (omega arith) in
    let e : drop b (take n (drop at l)) ≡ take (n - b) (drop b (drop at l)) = ap (λ (z : ℕ). drop b (take z (drop at l))) (sym m) ∙ part_front b (n - b) (drop at l) s in
    ap (take k) e ∙ take-take k (n - b) (drop b (drop at l)) (omega arith) ∙ rw drop-drop

-- a part of one more is the part, then the next element
pub part_more : (at k : ℕ) (l : List ℕ) → at + k < length l → part at (k + 1) l ≡ part at k l ++ (get_or l (at + k) 0 ∷ [])
unfolding part
part_more at k l h =
    let n : k < length (drop at l) = rw length-drop (omega arith) in
    rw (add-one, take-suc (drop at l) k 0 n, get_or-drop)

-- the number over two lists in a row
pub number_append : (a b : List ℕ) → number (a ++ b) ≡ number a + 256 ^ length a * number b
unfolding number
number_append [] b = simp (zero-add, one-mul)
number_append (x ∷ xs) b =
    let ih = number_append xs b in
    let m : 256 ^ suc (length xs) * number b ≡ 256 * (256 ^ length xs * number b) = rw (pow-suc, mul_comm (256 ^ length xs) 256, mul_assoc) in
    omega (arith, ih, m)

-- the number in a part of j + k bytes is the one in j of them plus, shifted, the one in the k after
pub number_split : (j k at : ℕ) (l : List ℕ) → at + j ≤ length l → number (part at (j + k) l) ≡ number (part at j l) + 256 ^ j * number (part (at + j) k l)
number_split j k at l h =
    ap number (part_split j k at l) ∙ number_append (part at j l) (part (at + j) k l)
    ∙ ap (λ (n : ℕ). number (part at j l) + 256 ^ n * number (part (at + j) k l)) (part_length at j l h)

-- the number in one byte is the byte
pub number_one : (at : ℕ) (l : List ℕ) → at < length l → number (part at 1 l) ≡ get_or l at 0
unfolding number part
number_one at l h = rw (drop-cons l at 0 h) (omega arith)

-- the number in two bytes
pub number_two : (at : ℕ) (l : List ℕ) (x y : ℕ) → at + 2 ≤ length l → x ≡ get_or l at 0 → y ≡ get_or l (at + 1) 0 → x + 256 * y ≡ number (part at 2 l)
number_two at l x y h ex ey =
    omega (arith, number_split 1 1 at l (omega arith), number_one at l (omega arith), number_one (at + 1) l (omega arith))

-- k lowest bytes are k long
pub bytes_length : (k n : ℕ) → length (bytes k n) ≡ k
unfolding bytes
bytes_length zero n = refl
bytes_length (suc k) n = ap suc (bytes_length k (n / 256))

-- the j + k lowest bytes are the j lowest, then the k lowest of what is left
pub bytes_split : (j k n : ℕ) → bytes (j + k) n ≡ bytes j n ++ bytes k (n / 256 ^ j)
unfolding bytes
bytes_split zero k n = simp (zero-add, div-one)
bytes_split (suc j) k n =
    let m : suc j + k ≡ suc (j + k) = omega arith in
    let d : n / 256 ^ suc j ≡ n / 256 / 256 ^ j = rw (pow-succ', div-div-eq-div-mul) in
    rw (m, d, bytes_split j k (n / 256))

-- one byte more
pub bytes_more : (k n : ℕ) → bytes (k + 1) n ≡ bytes k n ++ (n / 256 ^ k % 256 ∷ [])
unfolding bytes
bytes_more k n = bytes_split k 1 n

-- what is left of a number, one byte further
pub rest_more : (k n rest : ℕ) → rest ≡ n / 256 ^ k → rest / 256 ≡ n / 256 ^ (k + 1)
rest_more k n rest e = rw (e, add-one, pow-suc, div-div-eq-div-mul)

-- a number that fits k bytes is read back from them
pub number_bytes : (k n : ℕ) → n < 256 ^ k → number (bytes k n) ≡ n
unfolding number bytes
number_bytes zero n h = omega arith
number_bytes (suc k) n h =
    let pw : 256 ^ suc k ≡ 256 ^ k * 256 = pow-suc 256 k in
    let small : n / 256 < 256 ^ k = (div-lt_iff_lt-mul {k = 256} {x = n} {y = 256 ^ k} (omega arith)).1 (omega arith) in
    omega (arith, number_bytes k (n / 256) small)

-- a number of k bytes is below 256 ^ k
below : (l : List ℕ) → ((i : ℕ) → get_or l i 0 < 256) → number l < 256 ^ length l
unfolding number
below [] h = omega arith
below (x ∷ xs) h =
    let pw : 256 ^ suc (length xs) ≡ 256 ^ length xs * 256 = pow-suc 256 (length xs) in
    omega (arith, below xs (λ i. h (suc i)), pw, h 0)

part_small : (at k : ℕ) (l : List ℕ) → ((i : ℕ) → get_or l i 0 < 256) → (i : ℕ) → get_or (part at k l) i 0 < 256
unfolding part
part_small at k l h i = take_small k (drop at l) (λ j. rw (get_or-drop) (h (at + j))) i
  where
    take_small : (k : ℕ) (l : List ℕ) → ((i : ℕ) → get_or l i 0 < 256) → (i : ℕ) → get_or (take k l) i 0 < 256
    take_small zero l h i = omega arith
    take_small (suc k) [] h i = omega arith
    take_small (suc k) (x ∷ l) h zero = h 0
    take_small (suc k) (x ∷ l) h (suc i) = take_small k l (λ j. h (suc j)) i

pub number_below : (at k : ℕ) (l : List ℕ) → at + k ≤ length l → ((i : ℕ) → get_or l i 0 < 256) → number (part at k l) < 256 ^ k
number_below at k l h small =
    subst (λ (n : ℕ). number (part at k l) < 256 ^ n) (part_length at k l h) (below (part at k l) (part_small at k l small))

-- a list of bytes
pub record OfBytes (l : List ℕ) : Type 0 where
  pub small : (i : ℕ) → get_or l i 0 < 256

-- bytes below 256 are the lowest bytes of their number
pub bytes_number : (l : List ℕ) → ((i : ℕ) → get_or l i 0 < 256) → bytes (length l) (number l) ≡ l
unfolding number bytes
bytes_number [] h = refl
bytes_number (x ∷ xs) h =
    let low : (x + 256 * number xs) % 256 ≡ x = omega (arith, h 0) in
    let high : (x + 256 * number xs) / 256 ≡ number xs = omega (arith, h 0) in
    rw (low, high, bytes_number xs (λ i. h (suc i)))
