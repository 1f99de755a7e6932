-- Parts lent and pasted, and slices filled from the front.
-- A part that is lent from a up to a + n and comes back as n other elements is pasted over the list at a. What is pasted is
-- found where it was put, and nothing else changes. A loop that fills a slice has, at each turn, the first i elements right;
-- one law says what a store at i does to them, and a law for each kind of filling follows from it.
use mathlib.Core.Path.{◌≡◌, refl, ap, ◌∙◌, sym}
use mathlib.Core.List.{List, [], ◌∷◌, ◌++◌, append_assoc}
use mathlib.Core.Bool.{Bool, true, false}
use Prim.Native.Nat.{ℕ, ◌+◌, ◌-◌, ◌/◌, ◌%◌, ◌^◌, ◌<◌, ◌≤◌}
use native.Mathlib.Numerals.{add-one}
use native.Mathlib.Omega.{arith}
use borrow.Author.Tests.{eq-eqb, ne_eqb}
use borrow.Rule.Slice.PartMut.{put_mid}
use lib.ListN.{length, get_or, take, drop, set, replicate, length-append, length-drop, length-replicate, take-append-drop, drop_of_length-le, replicate-append-replicate}
use lib.Seq.{take-suc-set, take_all, take-append-le, take-take, take_at, drop_at, drop-drop, drop-cons, length-take-le}
use lib.Dec.{eqb}
use Rattle.meaning.specs.Lists.{both, all, part, pasted, same_list, bytes, zeros}
use Rattle.laws.proofs.Numbers.{part_length, part_front, bytes_length, bytes_more}

-- a lent part from a up to a + n is that part
pub lent_part : {A : Type 0} (a n : ℕ) (l : List A) → take (a + n - a) (drop a l) ≡ part a n l
unfolding part
lent_part a n l = let e : a + n - a ≡ n = omega arith in rw e

-- a lent part from a up to a + n that came back as new, n long, is pasted
pub lent_back : (a n : ℕ) (l ys new : List ℕ) → ys ≡ new → length new ≡ n → put_mid a (a + n - a) l ys ≡ pasted a new l
unfolding pasted
lent_back a n l ys new e h =
    let k : a + n - a ≡ length new = omega arith in
    rw (e, k, drop-drop)

-- nothing pasted changes nothing
pub pasted_none : (a : ℕ) (new l : List ℕ) → length new ≡ 0 → pasted a new l ≡ l
unfolding pasted
pasted_none a [] l h = let z : a + 0 ≡ a = omega arith in rw z (take-append-drop a l)
pasted_none a (x ∷ new) l h = absurd (omega arith)

-- a lent part from a up to a + n is n long
pub lent_length : {A : Type 0} (a n : ℕ) (l : List A) → a + n ≤ length l → length (take (a + n - a) (drop a l)) ≡ n
lent_length a n l h = ap length (lent_part a n l) ∙ part_length a n l h

-- a lent part that came back as the list that belongs to its length, by any rule `right`, is pasted
pub lent_filled : (right : ℕ → List ℕ) (a n : ℕ) (l ys : List ℕ) → a + n ≤ length l → length (right n) ≡ n → ys ≡ right (length (take (a + n - a) (drop a l)))
    → put_mid a (a + n - a) l ys ≡ pasted a (right n) l
lent_filled right a n l ys h k e = lent_back a n l ys (right n) (e ∙ ap right (lent_length a n l h)) k

-- a lent part that came back as a number
pub number_back : (a n x : ℕ) (l ys : List ℕ) → a + n ≤ length l → ys ≡ bytes (length (take (a + n - a) (drop a l))) x → put_mid a (a + n - a) l ys ≡ pasted a (bytes n x) l
number_back a n x l ys h e = lent_filled (λ (m : ℕ). bytes m x) a n l ys h (bytes_length n x) e

-- a lent part that came back as a part of another list
pub copy_back : (a n at : ℕ) (l s ys : List ℕ) → a + n ≤ length l → at + n ≤ length s → ys ≡ part at (length (take (a + n - a) (drop a l))) s
    → put_mid a (a + n - a) l ys ≡ pasted a (part at n s) l
copy_back a n at l s ys h k e = lent_filled (λ (m : ℕ). part at m s) a n l ys h (part_length at n s k) e

-- a lent part that came back as zeros
pub zeros_back : (a n : ℕ) (l ys : List ℕ) → a + n ≤ length l → ys ≡ replicate (length (take (a + n - a) (drop a l))) 0 → put_mid a (a + n - a) l ys ≡ pasted a (replicate n 0) l
zeros_back a n l ys h e = lent_filled (λ (m : ℕ). replicate m 0) a n l ys h (length-replicate n 0) e

-- a lent part that came back as a whole list
pub paste_back : (a : ℕ) (l new ys : List ℕ) → a + length new ≤ length l
    → ys ≡ part 0 (length (take (a + length new - a) (drop a l))) new → put_mid a (a + length new - a) l ys ≡ pasted a new l
unfolding part
paste_back a l new ys h e =
    copy_back a (length new) 0 l new ys h (omega arith) e
    ∙ ap (λ (x : List ℕ). pasted a x l) (take_all (length new) new (omega arith))

-- a lent rest of a list that came back as zeros
pub cleared_back : (a : ℕ) (l ys : List ℕ) → a ≤ length l
    → ys ≡ replicate (length (take (length l - a) (drop a l))) 0 → put_mid a (length l - a) l ys ≡ pasted a (replicate (length l - a) 0) l
cleared_back a l ys h e =
    let w : a + (length l - a) - a ≡ length l - a = omega arith in
    let b = zeros_back a (length l - a) l ys (omega arith) in
    (rw w at b) e

-- what is pasted within a list
module _ {A : Type 0} (at : ℕ) (new l : List A) (fits : at + length new ≤ length l) where
  -- leaves its length
  pub pasted_length : length (pasted at new l) ≡ length l
  unfolding pasted
  pasted_length =
      let t : length (take at l) ≡ at = length-take-le at l (omega arith) in
      simp (length-append, length-drop, t) (omega arith)

  -- leaves the front before it
  pub take_pasted : (n : ℕ) → n ≤ at → take n (pasted at new l) ≡ take n l
  unfolding pasted
  take_pasted n h =
      let t : n ≤ length (take at l) = rw (length-take-le at l (omega arith)) h in
      take-append-le n (take at l) (new ++ drop (at + length new) l) t ∙ take-take n at l h

  -- leaves the rest after it
  pub drop_pasted : (n : ℕ) → at + length new ≤ n → drop n (pasted at new l) ≡ drop n l
  unfolding pasted
  drop_pasted n h =
      let t : length (take at l ++ new) ≡ at + length new = simp (length-append, length-take-le at l (omega arith)) in
      let seam : drop (at + length new) (take at l ++ (new ++ drop (at + length new) l)) ≡ drop (at + length new) l = rw (← append_assoc) (drop_at (take at l ++ new) (drop (at + length new) l) (at + length new) t) in
      let k : at + length new + (n - (at + length new)) ≡ n = omega arith in
      ap (λ (m : ℕ). drop m (pasted at new l)) (sym k) ∙ sym (drop-drop (n - (at + length new)) (at + length new) (pasted at new l))
      ∙ ap (drop (n - (at + length new))) seam ∙ drop-drop (n - (at + length new)) (at + length new) l ∙ ap (λ (m : ℕ). drop m l) k

  -- is found where it was put
  pub part_pasted : part at (length new) (pasted at new l) ≡ new
  unfolding part pasted
  part_pasted =
      let t : length (take at l) ≡ at = length-take-le at l (omega arith) in
      rw (drop_at (take at l) (new ++ drop (at + length new) l) at t, take_at new (drop (at + length new) l) (length new) refl)

  -- leaves a part before it
  pub part_pasted_before : (a n : ℕ) → a + n ≤ at → part a n (pasted at new l) ≡ part a n l
  part_pasted_before a n h =
      let k : a ≤ length (pasted at new l) = rw pasted_length (omega arith) in
      sym (part_front a n (pasted at new l) k) ∙ ap (drop a) (take_pasted (a + n) h) ∙ part_front a n l (omega arith)

  -- leaves a part after it
  pub part_pasted_after : (a n : ℕ) → at + length new ≤ a → part a n (pasted at new l) ≡ part a n l
  unfolding part
  part_pasted_after a n h = rw (drop_pasted a h)

-- a store behind the first i elements
pub filled_more : (d front : List ℕ) (i v : ℕ) → take i d ≡ front → i < length d → take (i + 1) (set d i v) ≡ front ++ (v ∷ [])
filled_more d front i v e h = rw (add-one, take-suc-set d i v h, e)

-- a slice whose first i elements are right is right where i is its length
pub filled_whole : (right : ℕ → List ℕ) (d₀ d : List ℕ) (i : ℕ) → i ≤ length d₀ → length d ≡ length d₀ → take i d ≡ right i → length d ≤ i → d ≡ right (length d₀)
filled_whole right d₀ d i k n e h =
    let m : i ≡ length d₀ = omega arith in
    sym (take_all i d h) ∙ e ∙ ap right m

-- clearing: one zero more
pub cleared_more : (d : List ℕ) (i : ℕ) → take i d ≡ replicate i 0 → i < length d → take (i + 1) (set d i 0) ≡ replicate (i + 1) 0
cleared_more d i e h = filled_more d (replicate i 0) i 0 e h ∙ replicate-append-replicate i 1 0

-- clearing: all of it
pub cleared_whole : (d₀ d : List ℕ) (i : ℕ) → i ≤ length d₀ → length d ≡ length d₀ → take i d ≡ replicate i 0 → length d ≤ i → d ≡ replicate (length d₀) 0
cleared_whole d₀ d i = filled_whole (λ (n : ℕ). replicate n 0) d₀ d i

-- writing a number: one byte more of x
pub written_more : (d : List ℕ) (x rest i : ℕ) → take i d ≡ bytes i x → rest ≡ x / 256 ^ i → i < length d → take (i + 1) (set d i (rest % 256)) ≡ bytes (i + 1) x
written_more d x rest i e r h =
    filled_more d (bytes i x) i (rest % 256) e h ∙ rw (r, bytes_more)

-- writing a number: all of it
pub written_whole : (d₀ d : List ℕ) (x i : ℕ) → i ≤ length d₀ → length d ≡ length d₀ → take i d ≡ bytes i x → length d ≤ i → d ≡ bytes (length d₀) x
written_whole d₀ d x i = filled_whole (λ (n : ℕ). bytes n x) d₀ d i

-- whether all are zero, where those before i are
module _ (l : List ℕ) (i : ℕ) (inv : zeros l ≡ zeros (drop i l)) where
  -- at the end
  pub zeros_end : length l ≤ i → true ≡ zeros l
  unfolding zeros all
  zeros_end h = rw (inv, drop_of_length-le l {i = i} h)

  -- at an element that is not zero
  pub zeros_stop : i < length l → (get_or l i 0 ≡ 0 → ⊥) → false ≡ zeros l
  unfolding zeros all both
  zeros_stop h n = rw (inv, drop-cons l i 0 h) (simp (ne_eqb (get_or l i 0) 0 n))

  -- past a zero
  pub zeros_more : i < length l → get_or l i 0 ≡ 0 → zeros l ≡ zeros (drop (i + 1) l)
  unfolding zeros all both
  zeros_more h n = rw (inv, drop-cons l i 0 h, add-one) (simp (eq-eqb (get_or l i 0) 0 n))

-- the first two bytes are x and y, or the first is another
pub starts_not : (b : List ℕ) (x y : ℕ) → 2 ≤ length b → (get_or b 0 0 ≡ x → ⊥) → false ≡ same_list (take 2 b) (x ∷ y ∷ [])
unfolding same_list both
starts_not [] x y h n = absurd (omega arith)
starts_not (a ∷ []) x y h n = absurd (omega arith)
starts_not (a ∷ b ∷ l) x y h n = simp (ne_eqb a x n)

both_last : (t : Bool) → t ≡ both t true
unfolding both
both_last true = refl
both_last false = refl

pub starts_so : (b : List ℕ) (x y : ℕ) → 2 ≤ length b → get_or b 0 0 ≡ x → eqb (get_or b 1 0) y ≡ same_list (take 2 b) (x ∷ y ∷ [])
unfolding same_list both
starts_so [] x y h n = absurd (omega arith)
starts_so (a ∷ []) x y h n = absurd (omega arith)
starts_so (a ∷ b ∷ l) x y h n = simp (eq-eqb a x n) (both_last (eqb b y))
