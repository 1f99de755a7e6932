-- A row's bytes over zeros: what is put behind a list that is padded with zeros makes that list longer, and a list that is padded twice is
-- padded once.
use mathlib.Core.Path.{◌≡◌, refl, ap, ap₂, ◌∙◌, sym}
use mathlib.Core.List.{List, [], ◌∷◌, ◌++◌, map, append_assoc}
use Prim.Native.Nat.{ℕ, zero, suc, ◌+◌, ◌-◌, ◌*◌, ◌≤◌}
use native.Mathlib.Omega.{arith}
use lib.ListN.{length, take, drop, replicate, length-append, replicate-append-replicate}
use lib.Seq.{take-append_seam, drop-append-add}
use Rattle.meaning.specs.Lists.{joined, bytes, padded, pasted}
use Rattle.laws.proofs.Codec.{fours_length, padded_length, padded_fits}

-- the bytes of two rows, one after the other
pub spelled_append : (a b : List ℕ) → joined (map (bytes 4) (a ++ b)) ≡ joined (map (bytes 4) a) ++ joined (map (bytes 4) b)
unfolding joined
spelled_append [] b = refl
spelled_append (x ∷ a) b =
    ap (λ (l : List ℕ). bytes 4 x ++ l) (spelled_append a b)
    ∙ sym (append_assoc (bytes 4 x) (joined (map (bytes 4) a)) (joined (map (bytes 4) b)))

-- the rest of a list of zeros
drop_zeros : (j k : ℕ) → drop {A = ℕ} j (replicate k 0) ≡ replicate (k - j) 0
drop_zeros zero k = let z : k - 0 ≡ k = omega arith in rw z
drop_zeros (suc j) zero = let z : 0 - suc j ≡ 0 = omega arith in rw z
drop_zeros (suc j) (suc k) = let z : suc k - suc j ≡ k - j = omega arith in rw z (drop_zeros j k)

-- what is put behind a padded list makes it longer
pub padded_more : (m : ℕ) (front new : List ℕ) → length front + length new ≤ m
    → pasted (length front) new (padded m front) ≡ padded m (front ++ new)
unfolding pasted
padded_more m front new h =
    let zs = replicate {A = ℕ} (m - length front) 0 in
    let p : padded m front ≡ front ++ zs = padded_fits m front (omega arith) in
    let l : length (front ++ new) ≡ length front + length new = length-append front new in
    let n : m - length front - length new ≡ m - length (front ++ new) = omega arith in
    ap (λ (x : List ℕ). take (length front) x ++ (new ++ drop (length front + length new) x)) p
    ∙ ap₂ (λ (f : List ℕ) (r : List ℕ). f ++ (new ++ r)) (take-append_seam front zs)
    (drop-append-add front zs (length new) ∙ drop_zeros (length new) (m - length front) ∙ ap (λ (k : ℕ). replicate {A = ℕ} k 0) n)
    ∙ sym (append_assoc front new (replicate (m - length (front ++ new)) 0))
    ∙ sym (padded_fits m (front ++ new) (omega arith))

-- a list of zeros is nothing, padded
pub padded_none : (m : ℕ) → padded m [] ≡ replicate m 0
padded_none m = let z : m - 0 ≡ m = omega arith in padded_fits m [] (omega arith) ∙ ap (λ (k : ℕ). replicate {A = ℕ} k 0) z

-- a list over zeros
pub over_zeros : (m : ℕ) (new : List ℕ) → length new ≤ m → pasted 0 new (replicate m 0) ≡ padded m new
over_zeros m new h = ap (λ (l : List ℕ). pasted 0 new l) (sym (padded_none m)) ∙ padded_more m [] new (omega arith)

-- child slots put behind those that stand there
pub slots_more : (m : ℕ) (row new : List ℕ) → 4 * (length row + length new) ≤ m
    → pasted (4 * length row) (joined (map (bytes 4) new)) (padded m (joined (map (bytes 4) row))) ≡ padded m (joined (map (bytes 4) (row ++ new)))
slots_more m row new h =
    let n = fours_length row in
    let k = fours_length new in
    ap (λ (a : ℕ). pasted a (joined (map (bytes 4) new)) (padded m (joined (map (bytes 4) row)))) (sym n)
    ∙ padded_more m (joined (map (bytes 4) row)) (joined (map (bytes 4) new)) (omega arith)
    ∙ ap (padded m) (sym (spelled_append row new))

-- padded behind a front, and then as a whole: once is enough
pub padded_twice : (n m : ℕ) (front l : List ℕ) → length l ≤ m → length front + m ≤ n → padded n (front ++ padded m l) ≡ padded n (front ++ l)
padded_twice n m front l h k =
    let a : padded m l ≡ l ++ replicate (m - length l) 0 = padded_fits m l h in
    let p : length (front ++ padded m l) ≡ length front + m = length-append front (padded m l) ∙ ap (◌+◌ (length front)) (padded_length m l) in
    let q : length (front ++ l) ≡ length front + length l = length-append front l in
    let w : m - length l + (n - length (front ++ padded m l)) ≡ n - length (front ++ l) = omega arith in
    padded_fits n (front ++ padded m l) (omega arith)
    ∙ ap (λ (x : List ℕ). (front ++ x) ++ replicate (n - length (front ++ padded m l)) 0) a
    ∙ ap (λ (x : List ℕ). x ++ replicate (n - length (front ++ padded m l)) 0) (sym (append_assoc front l (replicate (m - length l) 0)))
    ∙ append_assoc (front ++ l) (replicate (m - length l) 0) (replicate (n - length (front ++ padded m l)) 0)
    ∙ ap (λ (x : List ℕ). (front ++ l) ++ x) (replicate-append-replicate (m - length l) (n - length (front ++ padded m l)) 0
    ∙ ap (λ (i : ℕ). replicate {A = ℕ} i 0) w)
    ∙ sym (padded_fits n (front ++ l) (omega arith))
