-- Slots counted. Distinct slots of a pool are as many as the slots of the pool that are among them, so no more than N; the live slots of a
-- pool that passes are its blobs' slots, which are as many as the block totals of the blobs' lengths.
use mathlib.Core.Path.{◌≡◌, refl, ap, ap₂, ◌∙◌, sym}
use mathlib.Core.Bool.{Bool, true, false, not}
use mathlib.Core.List.{List, [], ◌∷◌, map}
use Prim.Native.Nat.{ℕ, zero, suc, ◌+◌, ◌≤◌, ◌<◌}
use native.Mathlib.Omega.{arith}
use borrow.Author.Tests.{eqb-true, eqb-false, eq-eqb, ne_eqb, lt-ltb, le-ltb}
use lib.Dec.{eqb, ltb}
use lib.ListN.{length, drop, length-append}
use Rattle.meaning.specs.declared.Edition.{Edition}
use Rattle.meaning.specs.Lists.{pick, range, filter}
use Rattle.meaning.specs.Edition.{Proper}
use Rattle.meaning.specs.Bytes.{record_at, state, sound_record}
use Rattle.meaning.specs.Tree.{Blob, root_of, slots_of, length_of}
use Rattle.meaning.specs.Calls.{live}
use Rattle.meaning.specs.Run.{blocks_of}
use Rattle.laws.proofs.Inversions.{never, by_test}
use Rattle.laws.proofs.Codec.{state_known}
use Rattle.laws_resize.proofs.resizing.SlotCounts.{times, times_append, times_cons, slots_for}
use Rattle.laws_sound.proofs.sound.TimesListed.{times_none, times_same, times_other, by_times, Each, each_first, each_rest, range_has}
use Rattle.laws.proofs.Every.{Every}
use Rattle.laws_sound.proofs.sound.Blobs.{Lies}
use Rattle.laws.proofs.TreeSlots.{slots_root}
use Rattle.laws.proofs.Ranges.{filter_few}
use Rattle.laws_sound.proofs.sound.Pools.{is_head, all_slots, all_none, all_cons, Pool, all_within, all_live}
use Rattle.laws_sound.proofs.sound.Replaced.{filter_same}

-- a test that passes one number more than another does
filter_more : (p q : ℕ → Bool) (c from n : ℕ) → from ≤ c → c < from + n → p c ≡ false → q c ≡ true → ((s : ℕ) → (s ≡ c → ⊥) → q s ≡ p s)
    → length (filter q (range from n)) ≡ suc (length (filter p (range from n)))
unfolding filter range pick
filter_more p q c from zero lo hi off on same = absurd (omega arith)
filter_more p q c from (suc n) lo hi off on same =
    by_test (eqb from c)
    (λ t.
    let at = eqb-true from c t in
    let rest : filter q (range (suc from) n) ≡ filter p (range (suc from) n) =
    filter_same q p (suc from) n (λ s a b. same s (λ k. absurd (omega arith))) in
    rw (ap q at ∙ on, ap p at ∙ off, rest))
    (λ t.
    let other = eqb-false from c t in
    let r = filter_more p q c (suc from) n (omega arith) (omega arith) off on same in
    rw (same from other) (by_test (p from) (λ u. rw u (ap suc r)) (λ u. rw u r)))

-- a test that passes none
pub filter_none : (p : ℕ → Bool) (from n : ℕ) → ((s : ℕ) → p s ≡ false) → filter p (range from n) ≡ []
unfolding filter range pick
filter_none p from zero h = refl
filter_none p from (suc n) h = rw (h from) (filter_none p (suc from) n h)

-- whether a slot is in a list
unfoldable pub is_in : List ℕ → ℕ → Bool
is_in l s = ltb 0 (times s l)

-- it is
pub is_in_lem : (l : List ℕ) (s : ℕ) → 1 ≤ times s l → is_in l s ≡ true
unfolding is_in
is_in_lem l s h = lt-ltb 0 (times s l) h

-- or is not
pub not_in : (l : List ℕ) (s : ℕ) → times s l ≡ 0 → is_in l s ≡ false
unfolding is_in
not_in l s h = le-ltb 0 (times s l) (omega arith)

-- as often in two lists, it is in both or in none
in_same : (a b : List ℕ) (s : ℕ) → times s a ≡ times s b → is_in a s ≡ is_in b s
unfolding is_in
in_same a b s q = ap (ltb 0) q

-- distinct slots below N are as many as the slots below N among them
pub count_slots : (N : ℕ) (l : List ℕ) → Each (λ s. s < N) l → ((s : ℕ) → times s l ≤ 1) → length (filter (is_in l) (range 0 N)) ≡ length l
count_slots N [] low once = ap length (filter_none (is_in []) 0 N (λ s. not_in [] s (times_none s)))
count_slots N (c ∷ l) low once =
    filter_more (is_in l) (is_in (c ∷ l)) c 0 N (omega arith) (omega (arith, each_first (λ s. s < N) c l low))
    (not_in l c (omega (arith, once c, times_cons c c l, times_same c c refl)))
    (is_in_lem (c ∷ l) c (omega (arith, times_cons c c l, times_same c c refl)))
    (λ s n. in_same (c ∷ l) l s (omega (arith, times_cons s c l, times_other s c (λ q. n (sym q)))))
    ∙ ap suc (count_slots N l (each_rest (λ s. s < N) c l low) (λ s. omega (arith, once s, times_cons s c l)))

-- so they are no more than N
pub slots_few : (N : ℕ) (l : List ℕ) → Each (λ s. s < N) l → ((s : ℕ) → times s l ≤ 1) → length l ≤ N
slots_few N l low once = omega (arith, count_slots N l low once, filter_few (is_in l) 0 N)

-- a blob's root is one of its slots
root_in : (s : ℕ) (bs : List Blob) → times s (map root_of bs) ≤ times s (all_slots bs)
root_in s [] = rw all_none (omega arith)
root_in s (b ∷ bs) =
    omega (
      arith,
      root_in s bs,
      times_cons s (root_of b) (map root_of bs),
      ap (times s) (all_cons b bs),
      times_append s (slots_of b) (all_slots bs),
      ap (times s) (slots_root b),
      times_cons s (root_of b) (drop 1 (slots_of b)),
    )

-- a number that passes a test is among those that do
filter_has : (p : ℕ → Bool) (s : ℕ) (l : List ℕ) → p s ≡ true → times s (filter p l) ≡ times s l
unfolding filter pick
filter_has p s [] t = refl
filter_has p s (x ∷ l) t =
    by_test (p x)
    (λ u. rw u (omega (arith, times_cons s x l, times_cons s x (filter p l), filter_has p s l t)))
    (λ u. rw u (omega (arith, times_cons s x l, filter_has p s l t, times_other s x (λ q. never (sym t ∙ ap p (sym q) ∙ u)))))

-- a slot of a pool that passes is live if and only if it is one of the blobs'
live_in : (e : Edition) (N : ℕ) (P R : List ℕ) (bs : List Blob) → Pool e N P R bs → (s : ℕ) → s < N → state R s ≤ 2
    → not (eqb (state R s) 0) ≡ is_in (all_slots bs) s
unfolding is_head
live_in e N P R bs q s low few =
    by_times s (all_slots bs)
    (λ h. rw (ne_eqb (state R s) 0 (all_live e N P R bs q.lie s h)) (sym (is_in_lem (all_slots bs) s h)))
    (λ z. rw (eq-eqb (state R s) 0 (dead z)) (sym (not_in (all_slots bs) s z)))
  where
    dead : times s (all_slots bs) ≡ 0 → state R s ≡ 0
    dead z =
        by_test (eqb (state R s) 2)
        (λ t. absurd (omega (
          arith,
          root_in s bs,
          ap (times s) q.heads,
          filter_has (is_head R) s (range 0 N) t,
          range_has 0 N s (omega arith) (omega arith),
        )))
        (λ t. let two = eqb-false (state R s) 2 t in by_test (eqb (state R s) 1)
        (λ u. absurd (omega (arith, q.reached s low (eqb-true (state R s) 1 u))))
        (λ u. let one = eqb-false (state R s) 1 u in omega arith))

-- the live slots of a pool that passes are as many as the blobs' slots
pub live_count : (e : Edition) (N : ℕ) (P R : List ℕ) (bs : List Blob) → Pool e N P R bs → ((s : ℕ) → s < N → sound_record (record_at R s) ≡ true)
    → length (live e N P R) ≡ length (all_slots bs)
unfolding live
live_count e N P R bs q sound =
    ap length (filter_same (λ s. not (eqb (state R s) 0)) (is_in (all_slots bs)) 0 N
    (λ s lo hi. live_in e N P R bs q s (omega arith) (state_known R s (sound s (omega arith)))))
    ∙ count_slots N (all_slots bs) (all_within e N P R bs q.lie) q.once

-- blobs as a book has them: each one's root and length
unfoldable pub entries : List Blob → List (ℕ × ℕ)
entries bs = map (λ b. (root_of b, length_of b)) bs

-- blobs that lie in a pool have as many slots as the block totals of their lengths add up to
pub all_blocks : (e : Edition) → Proper e → (N : ℕ) (P R : List ℕ) (bs : List Blob) → Every (Lies e N P R) bs
    → length (all_slots bs) ≡ blocks_of e (entries bs)
unfolding blocks_of entries
all_blocks e p N P R [] l = ap length all_none
all_blocks e p N P R (b ∷ bs) l =
    ap length (all_cons b bs) ∙ length-append (slots_of b) (all_slots bs)
    ∙ ap₂ ◌+◌ (slots_for e p.some p.two b l.0.shape) (all_blocks e p N P R bs l.1)
