-- Slots in lists, and flags for them. How many times a slot stands in a list says whether it is there (once or more) and whether it is there
-- once only, and over lists in a row the counts add up: so claims of slots in lists are claims of numbers. A walk sets a flag for each slot
-- that it comes to; where none is set before, each flag then grows by how many times its slot was come to.
use mathlib.Core.Path.{◌≡◌, refl, ap, ◌∙◌, sym}
use mathlib.Core.Bool.{Bool}
use mathlib.Core.List.{List, [], ◌∷◌, ◌++◌}
use Prim.Native.Nat.{ℕ, zero, suc, ◌+◌, ◌≤◌, ◌<◌}
use native.Mathlib.Omega.{arith}
use borrow.Author.Tests.{eqb-true, eqb-false, eq-eqb, ne_eqb}
use lib.Dec.{eqb}
use lib.ListN.{length, get_or, set, take, drop, take-append-drop, replicate, length-set}
use lib.Seq.{get_or-set_same, get_or-set_other}
use Rattle.meaning.specs.Lists.{pick, range, filter}
use Rattle.laws.proofs.Inversions.{by_test}
use Rattle.laws_resize.proofs.resizing.SlotCounts.{times, times_append, times_cons}

-- in no list, never
pub times_none : (s : ℕ) → times s [] ≡ 0
unfolding times
times_none s = refl

-- a slot alone stands there once
pub times_same : (s x : ℕ) → x ≡ s → times s (x ∷ []) ≡ 1
unfolding times pick
times_same s x q = rw (eq-eqb x s q)

-- and no other does
pub times_other : (s x : ℕ) → (x ≡ s → ⊥) → times s (x ∷ []) ≡ 0
unfolding times pick
times_other s x n = rw (ne_eqb x s n)

-- a slot stands alone or it does not
pub by_slot : {A : Type 0} (s x : ℕ) → (x ≡ s → times s (x ∷ []) ≡ 1 → A) → ((x ≡ s → ⊥) → times s (x ∷ []) ≡ 0 → A) → A
by_slot s x f g =
    by_test (eqb x s)
    (λ t. let q = eqb-true x s t in f q (times_same s x q))
    (λ t. let n = eqb-false x s t in g n (times_other s x n))

-- a slot stands in a list or it does not
pub by_times : {A : Type 0} (s : ℕ) (l : List ℕ) → (1 ≤ times s l → A) → (times s l ≡ 0 → A) → A
by_times s l f g =
    by_test (eqb (times s l) 0)
    (λ t. g (eqb-true (times s l) 0 t))
    (λ t. let some = eqb-false (times s l) 0 t in f (omega arith))

-- a claim of each slot of a list
abbrev pub Each : (ℕ → Type 0) → List ℕ → Type 0
Each Q l = (s : ℕ) → 1 ≤ times s l → Q s

-- of none
pub each_none : (Q : ℕ → Type 0) → Each Q []
each_none Q s h = absurd (omega (arith, times_none s))

-- of a first one and of the rest, so of all
pub each_more : (Q : ℕ → Type 0) (x : ℕ) (l : List ℕ) → Q x → Each Q l → Each Q (x ∷ l)
each_more Q x l q f s h =
    by_slot s x (λ e k. rw (← e) q) (λ n k. f s (omega (arith, times_cons s x l)))

-- of all, so of the first one
pub each_first : (Q : ℕ → Type 0) (x : ℕ) (l : List ℕ) → Each Q (x ∷ l) → Q x
each_first Q x l f = f x (omega (arith, times_cons x x l, times_same x x refl))

-- and of the rest
pub each_rest : (Q : ℕ → Type 0) (x : ℕ) (l : List ℕ) → Each Q (x ∷ l) → Each Q l
each_rest Q x l f s h = f s (omega (arith, times_cons s x l))

-- of two lists in a row
pub each_append : (Q : ℕ → Type 0) (a b : List ℕ) → Each Q a → Each Q b → Each Q (a ++ b)
each_append Q a b f g s h = by_times s a (f s) (λ z. g s (omega (arith, times_append s a b)))

-- so of the first
pub each_left : (Q : ℕ → Type 0) (a b : List ℕ) → Each Q (a ++ b) → Each Q a
each_left Q a b f s h = f s (omega (arith, times_append s a b))

-- and of the second
pub each_right : (Q : ℕ → Type 0) (a b : List ℕ) → Each Q (a ++ b) → Each Q b
each_right Q a b f s h = f s (omega (arith, times_append s a b))

-- what is claimed of each slot of a list is claimed of each that passes a test
pub each_filter : (Q : ℕ → Type 0) (p : ℕ → Bool) (l : List ℕ) → Each Q l → Each Q (filter p l)
unfolding filter pick
each_filter Q p [] f = f
each_filter Q p (x ∷ l) f =
    by_test (p x)
    (λ t. rw t (each_more Q x (filter p l) (each_first Q x l f) (each_filter Q p l (each_rest Q x l f))))
    (λ t. rw t (each_filter Q p l (each_rest Q x l f)))

-- a range has each of its numbers
pub range_has : (from n s : ℕ) → from ≤ s → s < from + n → 1 ≤ times s (range from n)
unfolding range
range_has from zero s lo hi = absurd (omega arith)
range_has from (suc n) s lo hi =
    by_slot s from
    (λ q k. omega (arith, times_cons s from (range (suc from) n)))
    (λ d k. omega (arith, times_cons s from (range (suc from) n), range_has (suc from) n s (omega arith) (omega arith)))

-- and no other
pub range_within : (from n : ℕ) → Each (λ s. (from ≤ s) × (s < from + n)) (range from n)
unfolding range
range_within from zero = each_none (λ s. (from ≤ s) × (s < from + 0))
range_within from (suc n) =
    each_more (λ s. (from ≤ s) × (s < from + suc n)) from (range (suc from) n) (omega arith, omega arith)
    (λ s h. let w = range_within (suc from) n s h in (omega (arith, w.0), omega (arith, w.1)))

-- each once at most
pub range_once : (from n s : ℕ) → times s (range from n) ≤ 1
unfolding range
range_once from zero s = omega (arith, times_none s)
range_once from (suc n) s =
    by_slot s from
    (λ q k. by_times s (range (suc from) n)
    (λ h. absurd (omega (arith, (range_within (suc from) n s h).0)))
    (λ z. omega (arith, times_cons s from (range (suc from) n))))
    (λ d k. omega (arith, times_cons s from (range (suc from) n), range_once (suc from) n s))

-- a test leaves no slot more often
pub times_filter : (p : ℕ → Bool) (s : ℕ) (l : List ℕ) → times s (filter p l) ≤ times s l
unfolding filter pick
times_filter p s [] = omega arith
times_filter p s (x ∷ l) =
    by_test (p x)
    (λ t. rw t (omega (arith, times_cons s x l, times_cons s x (filter p l), times_filter p s l)))
    (λ t. rw t (omega (arith, times_cons s x l, times_filter p s l)))

-- nor does a front
pub times_take : (s n : ℕ) (l : List ℕ) → times s (take n l) ≤ times s l
times_take s n l = omega (arith, ap (times s) (take-append-drop n l), times_append s (take n l) (drop n l))

-- a list that has each of some slots once at most, and none whose flag is set
abbrev pub Clear : List ℕ → List ℕ → Type 0
Clear seen l = (x : ℕ) → get_or seen x 0 + times x l ≤ 1

-- the flags after these slots
unfoldable pub marked : List ℕ → List ℕ → List ℕ
marked seen [] = seen
marked seen (s ∷ ss) = marked (set seen s 1) ss

-- after two lists in a row
pub marked_append : (seen a b : List ℕ) → marked seen (a ++ b) ≡ marked (marked seen a) b
unfolding marked
marked_append seen [] b = refl
marked_append seen (s ∷ a) b = marked_append (set seen s 1) a b

-- after none
pub marked_none : (seen : List ℕ) → marked seen [] ≡ seen
unfolding marked
marked_none seen = refl

-- after one slot and the rest
pub marked_cons : (seen : List ℕ) (s : ℕ) (l : List ℕ) → marked seen (s ∷ l) ≡ marked (set seen s 1) l
unfolding marked
marked_cons seen s l = refl

-- they are as many as before
pub marked_length : (seen l : List ℕ) → length (marked seen l) ≡ length seen
unfolding marked
marked_length seen [] = refl
marked_length seen (s ∷ l) = marked_length (set seen s 1) l ∙ length-set seen s 1

-- a flag set grows by one or less
flag_grows : (seen : List ℕ) (s x : ℕ) → get_or (set seen s 1) x 0 ≤ get_or seen x 0 + times x (s ∷ [])
flag_grows seen s x =
    by_slot x s
    (λ q k. omega (arith, few seen s, ap (λ (y : ℕ). get_or (set seen s 1) y 0) q))
    (λ n k. omega (arith, get_or-set_other seen s x 1 0 (λ q. n (sym q))))
  where
    few : (l : List ℕ) (i : ℕ) → get_or (set l i 1) i 0 ≤ 1
    few [] i = omega arith
    few (y ∷ l) zero = omega arith
    few (y ∷ l) (suc i) = few l i

-- past the first slot, the rest is clear of the flags set so far
pub clear_rest : (seen : List ℕ) (s : ℕ) (l : List ℕ) → Clear seen (s ∷ l) → Clear (set seen s 1) l
clear_rest seen s l c x = omega (arith, c x, times_cons x s l, flag_grows seen s x)

-- the first slot had no flag
pub clear_first : (seen : List ℕ) (s : ℕ) (l : List ℕ) → Clear seen (s ∷ l) → get_or seen s 0 ≡ 0
clear_first seen s l c = omega (arith, c s, times_cons s s l, times_same s s refl)

-- a flag not set, set: it grows by one, and no other does
pub flag_set : (seen : List ℕ) (s x : ℕ) → s < length seen → get_or seen s 0 ≡ 0 → get_or (set seen s 1) x 0 ≡ get_or seen x 0 + times x (s ∷ [])
flag_set seen s x low new =
    by_slot x s
    (λ q k. omega (arith, ap (λ (y : ℕ). get_or (set seen s 1) y 0) q, ap (λ (y : ℕ). get_or seen y 0) q, get_or-set_same seen s 1 0 low))
    (λ n k. omega (arith, get_or-set_other seen s x 1 0 (λ q. n (sym q))))

-- after slots that are clear, each flag has grown by how many times its slot is there
pub marked_flag : (seen l : List ℕ) → Each (λ s. s < length seen) l → Clear seen l → (x : ℕ) → get_or (marked seen l) x 0 ≡ get_or seen x 0 + times x l
unfolding marked
marked_flag seen [] low c x = omega (arith, times_none x)
marked_flag seen (s ∷ l) low c x =
    let first = each_first (λ z. z < length seen) s l low in
    let rest : Each (λ z. z < length (set seen s 1)) l = λ y h. rw (length-set seen s 1) (each_rest (λ z. z < length seen) s l low y h) in
    omega (arith, marked_flag (set seen s 1) l rest (clear_rest seen s l c) x, flag_set seen s x first (clear_first seen s l c), times_cons x s l)

-- slots clear of the flags, then others clear of those set so far
pub clear_append : (seen a b : List ℕ) → Each (λ s. s < length seen) a → Clear seen a → Clear (marked seen a) b → Clear seen (a ++ b)
clear_append seen a b low c d x = omega (arith, d x, marked_flag seen a low c x, times_append x a b)

-- of two lists in a row, the first
pub clear_left : (seen a b : List ℕ) → Clear seen (a ++ b) → Clear seen a
clear_left seen a b c x = omega (arith, c x, times_append x a b)

-- and the second, once the first is marked
pub clear_right : (seen a b : List ℕ) → Clear seen (a ++ b) → Clear (marked seen a) b
unfolding marked
clear_right seen [] b c = c
clear_right seen (s ∷ a) b c = clear_right (set seen s 1) a b (clear_rest seen s (a ++ b) c)

-- no flag is set at first
pub no_flag : (N x : ℕ) → get_or {A = ℕ} (replicate N 0) x 0 ≡ 0
no_flag zero x = refl
no_flag (suc N) zero = refl
no_flag (suc N) (suc x) = no_flag N x
