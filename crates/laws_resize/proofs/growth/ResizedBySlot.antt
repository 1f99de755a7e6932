-- Write and resize of a blob that a walk found, slot by slot, down to the list of changes: what a slot holds after the call is one function of the
-- slot.
use mathlib.Core.Path.{◌≡◌, refl, sym, ap, ap₂, ◌∙◌}
use mathlib.Core.Bool.{true, false}
use mathlib.Core.List.{List, ◌++◌}
use Prim.Native.Nat.{ℕ, zero, suc, ◌+◌, ◌-◌, ◌*◌, ◌^◌, ◌≤◌, ◌<◌}
use native.Mathlib.Nat.{pow-le-pow_right}
use native.Mathlib.Omega.{arith}
use lib.Dec.{leb, ltb, eqb}
use lib.ListN.{length, get_or}
use borrow.Author.Tests.{eqb-true, eqb-false, ltb-true, ltb-false, leb-true, leb-false}
use Rattle.meaning.specs.declared.Edition.{Edition}
use Rattle.meaning.specs.Lists.{pick, both, range}
use Rattle.meaning.specs.Edition.{Proper}
use Rattle.meaning.specs.Bytes.{state, usable_slot}
use Rattle.meaning.specs.Tree.{Blob, root_of, leaves_of, cells_of, slots_of, length_of, Held, nothing, just, held}
use Rattle.meaning.specs.Shape.{leaves_for, height_for, Shaped}
use Rattle.meaning.specs.Walk.{fine, from_root}
use Rattle.meaning.specs.Change.{changed, changes}
use Rattle.meaning.specs.Resize.{refilled, resized}
use Rattle.meaning.specs.Calls.{usable, become, new_blocks}
use Rattle.laws.proofs.Inversions.{by_test, both_true}
use Rattle.laws.proofs.Heights.{height_enough}
use Rattle.laws.proofs.Walked.{walk_shaped}
use Rattle.laws_resize.proofs.resizing.Resized.{resized_longer, resized_shorter}
use Rattle.laws_resize.specs.growth.Sites.{sites_of, sited, held_by, root_row, Once}
use Rattle.laws_resize.specs.growth.Cuts.{height_of_length}
use Rattle.laws_resize.specs.growth.Forms.{past, grown, grown_new}
use Rattle.laws_resize.specs.growth.HeldAfter.{usable_below, written_held, shorter_root, shorter_held, taken, rise, longer_held, resized_held}
use Rattle.laws_resize.proofs.growth.NoSlotTwice.{walk_once, free_apart}
use Rattle.laws_resize.proofs.growth.WrittenBySlot.{written_held_lem}
use Rattle.laws_resize.proofs.growth.ShorterBySlot.{shorter_root_lem, shorter_held_lem}
use Rattle.laws_resize.proofs.growth.HeldInTheEnd.{Apart}
use Rattle.laws_resize.proofs.growth.LongerBySlot.{longer_new, longer_root, longer_old}
use Rattle.laws_resize.proofs.growth.Usable.{usable_free, counter, counter_less, rising, passed}

-- what is the same in each slot changes the same
changes_same : (e : Edition) (R : List ℕ) (state : ℕ) (old new new' : ℕ → Held) (from n : ℕ)
    → ((s : ℕ) → from ≤ s → s < from + n → new s ≡ new' s) → changes e R state old new (range from n) ≡ changes e R state old new' (range from n)
unfolding changes range
changes_same e R state old new new' from zero same = refl
changes_same e R state old new new' from (suc n) same =
    ap₂ ◌++◌ (ap (changed e R state from (old from)) (same from (omega arith) (omega arith)))
    (changes_same e R state old new new' (suc from) n (λ s lo hi. same s (omega arith) (omega arith)))

-- a blob stands in a pool: it has its shape, no slot twice, and no free slot
pub record Standing (e : Edition) (R : List ℕ) (b : Blob) : Type 0 where
  pub shaped : Shaped e b
  pub once : Once (slots_of b)
  pub apart : (s : ℕ) → state R s ≡ 0 → held (cells_of b) s ≡ nothing

-- a blob that stands in a pool of N slots
module _ (e : Edition) (p : Proper e) (N : ℕ) (P R : List ℕ) (b : Blob) (standing : Standing e R b) where
  -- written
  pub write_slot : (d : List ℕ) (s : ℕ) → held (cells_of (refilled d b)) s ≡ written_held e b d s
  unfolding written_held
  write_slot d s = written_held_lem e p b standing.shaped standing.once d s

  -- shorter
  pub shorter_slot : (len : ℕ) → len < length_of b → (free : List ℕ) (s : ℕ) → held (cells_of (resized e len free b)) s ≡ shorter_held e b len s
  unfolding shorter_held shorter_root pick
  shorter_slot len short free s =
      rw (resized_shorter e len free b short)
      (by_test (eqb s (root_of b))
      (λ t. rw t (ap (held _) (eqb-true s (root_of b) t) ∙ shorter_root_lem e p b standing.shaped len (omega arith)))
      (λ t. rw t (shorter_held_lem e p b standing.shaped len (omega arith) standing.once s (λ q. eqb-false s (root_of b) t (sym q)))))

  -- longer, with usable slots enough
  module _ (len : ℕ) (long : length_of b ≤ len) (enough : taken e b len ≤ length (usable e N P R)) where
    -- the usable slots
    abbrev free : List ℕ
    free = usable e N P R

    -- the root rises to the new height, and no further
    rises : leaves_for e.leaf len ≤ e.fan ^ (b.height + rise e b len)
    unfolding rise height_of_length
    rises =
        let h = height_for e.fan (leaves_for e.leaf len) in
        let high : h ≤ b.height + (h - b.height) = omega arith in
        omega (arith, height_enough e.fan (leaves_for e.leaf len) p.two, pow-le-pow_right {n = e.fan} (omega (arith, p.two)) high)

    -- no usable slot stands twice in the list
    usable_apart : Apart (taken e b len) free
    unfolding usable
    usable_apart i j less most q = rising (usable_slot R) 0 N i j less (omega arith) q

    -- a usable slot with few enough below it takes the next new block
    taken_slot : (s : ℕ) → s < N → usable_slot R s ≡ true → usable_below R s < taken e b len
        → held (cells_of (resized e len free b)) s
        ≡ just (grown_new e len (length (leaves_of b)) free (rise e b len) b.height (root_row b) (usable_below R s))
    unfolding usable usable_below taken
    taken_slot s within good few =
        let q : get_or free (usable_below R s) past ≡ s = counter (usable_slot R) s N within good in
        let out : held (cells_of b) s ≡ nothing = standing.apart s (usable_free R s good) in
        let new = longer_new e p b standing.shaped len long free (rise e b len) rises usable_apart (usable_below R s) few (rw q out) in
        rw (resized_longer e len free b long) (rw q at new)

    -- a slot that is not usable, or has as many below it, is not taken
    not_taken : (s : ℕ) → s < N → both (usable_slot R s) (ltb (usable_below R s) (taken e b len)) ≡ false
        → (q : ℕ) → q < taken e b len → get_or free q past ≡ s → ⊥
    unfolding usable usable_below both
    not_taken s within not q less is =
        let good : usable_slot R s ≡ true = ap (usable_slot R) (sym is) ∙ passed (usable_slot R) (range 0 N) q (omega arith) in
        let late : taken e b len ≤ usable_below R s = ltb-false (usable_below R s) (taken e b len) (rw good at not) in
        rising (usable_slot R) 0 N q (usable_below R s) (omega arith) (counter_less (usable_slot R) s N within good)
        (counter (usable_slot R) s N within good ∙ sym is)

    -- a slot that is not taken, nor the root's, follows the rule
    old_slot : (s : ℕ) → (root_of b ≡ s → ⊥) → ((q : ℕ) → q < taken e b len → get_or free q past ≡ s → ⊥)
        → held (cells_of (resized e len free b)) s ≡ held_by (grown e len (length (leaves_of b)) free) (sited (sites_of b) s)
    unfolding taken
    old_slot s other out =
        rw (resized_longer e len free b long) (longer_old e p b standing.shaped len long free (rise e b len) rises standing.once s out other)

    -- any slot
    pub longer_slot : (s : ℕ) → s < N → held (cells_of (resized e len free b)) s ≡ longer_held e R free b len s
    unfolding longer_held pick
    longer_slot s within =
        let n = length (leaves_of b) in
        let now = resized_longer e len free b long in
        let test = both (usable_slot R s) (ltb (usable_below R s) (taken e b len)) in
        by_test (eqb s (root_of b))
        (λ t. rw (t, now) (ap (held _) (eqb-true s (root_of b) t) ∙ longer_root e p b standing.shaped len long free (rise e b len) rises))
        (λ t.
        by_test test
        (λ u.
        let both = both_true (usable_slot R s) (ltb (usable_below R s) (taken e b len)) u in
        rw (t, u) (taken_slot s within both.0 (ltb-true (usable_below R s) (taken e b len) both.1)))
        (λ u. rw (t, u) (old_slot s (λ q. eqb-false s (root_of b) t (sym q)) (not_taken s within u))))

  -- resize, any slot
  pub resize_slot : (len : ℕ) → new_blocks e N P R len b ≤ length (usable e N P R) → (s : ℕ) → s < N
      → held (cells_of (resized e len (usable e N P R) b)) s ≡ resized_held e R (usable e N P R) b len s
  unfolding resized_held new_blocks taken pick
  resize_slot len enough s within =
      by_test (leb (length_of b) len)
      (λ t. rw t (longer_slot len (leb-true (length_of b) len t) enough s within))
      (λ t. rw t (shorter_slot len (leb-false (length_of b) len t) (usable e N P R) s))

  -- resize, its changes
  pub resize_changes : (len : ℕ) → new_blocks e N P R len b ≤ length (usable e N P R)
      → become e N P R 1 (cells_of b) (cells_of (resized e len (usable e N P R) b))
      ≡ changes e R 1 (held (cells_of b)) (resized_held e R (usable e N P R) b len) (range 0 N)
  unfolding become
  resize_changes len enough = changes_same e R 1 (held (cells_of b)) _ _ 0 N (λ s lo hi. resize_slot len enough s (omega arith))

  -- write, its changes
  pub write_changes : (d : List ℕ) → become e N P R 1 (cells_of b) (cells_of (refilled d b))
      ≡ changes e R 1 (held (cells_of b)) (written_held e b d) (range 0 N)
  unfolding become
  write_changes d = changes_same e R 1 (held (cells_of b)) _ _ 0 N (λ s lo hi. write_slot d s)

-- so every blob does that a walk found
pub walk_standing : (e : Edition) → Proper e → (N : ℕ) (P R : List ℕ) → length P ≡ e.size * N → (seen : List ℕ) (r : ℕ) {b : Blob} {seen' : List ℕ}
    → from_root e N P R seen r ≡ fine b seen' → length seen ≡ N → r < N → state R r ≡ 2 → Standing e R b
walk_standing e p N P R whole seen r found flags within root = record {
  shaped = walk_shaped e p N P R whole seen r found within;
  once = walk_once e N P R seen r found flags within;
  apart = free_apart e N P R seen r found flags within root;
}
