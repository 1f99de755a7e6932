-- The pool check both ways. It passes exactly for a list of blobs that lie in the pool, one for each root record in rising order, no two of
-- which share a slot, that reach every part, beside free slots of zeros.
use Rattle.std.specs.Prelude.{Err, Ok}
use mathlib.Core.Path.{◌≡◌, refl, ap, ◌∙◌, sym}
use mathlib.Core.Bool.{Bool, true}
use mathlib.Core.List.{List, [], ◌∷◌, ◌++◌, map, map-append}
use Prim.Native.Nat.{ℕ, zero, suc, ◌+◌, ◌*◌, ◌≤◌, ◌<◌}
use native.Mathlib.Omega.{arith}
use borrow.Author.Tests.{eqb-true, eqb-false, eq-eqb}
use lib.Dec.{eqb}
use lib.ListN.{length, get_or, drop, replicate, length-replicate}
use Rattle.meaning.specs.declared.Reason.TheVariants.{Reintroduced, WrongShape}
use Rattle.meaning.specs.declared.Edition.{Edition}
use Rattle.meaning.specs.Lists.{pick, joined, range, filter, zeros}
use Rattle.meaning.specs.Edition.{Proper}
use Rattle.meaning.specs.Bytes.{block, state}
use Rattle.meaning.specs.Tree.{Blob, root_of, slots_of}
use Rattle.meaning.specs.Refusals.{at}
use Rattle.meaning.specs.Walk.{fine, from_root, roots, closing_check, closing, pool_check}
use Rattle.laws.proofs.Inversions.{by_test, must_passed, passed_must, first_passed, passed_first, passing_fine, passed_passing, and_then_fine}
use Rattle.laws.proofs.Inversions.{fine_and_then, fine_same}
use Rattle.laws.proofs.Positions.{joined_append}
use Rattle.laws.proofs.Roots.{walk_root, roots_root, roots_other, roots_named}
use Rattle.laws.proofs.TreeSlots.{slots_root}
use Rattle.laws_resize.proofs.resizing.SlotCounts.{times, times_cons}
use Rattle.laws_sound.proofs.sound.TimesListed.{times_none, times_other, by_times}
use Rattle.laws_sound.proofs.sound.TimesListed.{range_has, range_within, Each, each_none, each_more, each_first, each_rest, each_append}
use Rattle.laws_sound.proofs.sound.TimesListed.{Clear, marked, marked_none, marked_append, marked_length, marked_flag, clear_append, clear_left}
use Rattle.laws_sound.proofs.sound.TimesListed.{clear_right, no_flag}
use Rattle.laws.proofs.Every.{Every}
use Rattle.laws_sound.proofs.sound.Walks.{Flags}
use Rattle.laws_sound.proofs.sound.Blobs.{Lies, lies_walk, lies_within, WalkFound, walk_found}

-- whether a slot's record is a root's
unfoldable pub is_head : List ℕ → ℕ → Bool
is_head R s = eqb (state R s) 2

-- the slots of all blobs
unfoldable pub all_slots : List Blob → List ℕ
all_slots bs = joined (map slots_of bs)

-- of none
pub all_none : all_slots [] ≡ []
unfolding all_slots joined
all_none = refl

-- of a first one and of others
pub all_cons : (b : Blob) (bs : List Blob) → all_slots (b ∷ bs) ≡ slots_of b ++ all_slots bs
unfolding all_slots joined
all_cons b bs = refl

-- of two lists of blobs in a row
pub all_append : (xs ys : List Blob) → all_slots (xs ++ ys) ≡ all_slots xs ++ all_slots ys
unfolding all_slots
all_append xs ys = ap joined (map-append slots_of xs ys) ∙ joined_append (map slots_of xs) (map slots_of ys)

module _ (e : Edition) (N : ℕ) (P R : List ℕ) where
  -- a slot of a blob other than its root is a part
  pub lies_part : (b : Blob) → Lies e N P R b → (s : ℕ) → 1 ≤ times s (slots_of b) → (s ≡ root_of b → ⊥) → state R s ≡ 1
  lies_part b l s h other =
      l.parts s (omega (
        arith,
        ap (times s) (slots_root b),
        times_cons s (root_of b) (drop 1 (slots_of b)),
        times_other s (root_of b) (λ q. other (sym q)),
      ))

  -- each is live
  pub lies_live : (b : Blob) → Lies e N P R b → Each (λ s. state R s ≡ 0 → ⊥) (slots_of b)
  lies_live b l s h z =
      by_test (eqb s (root_of b))
      (λ t. absurd (omega (arith, l.root, ap (state R) (eqb-true s (root_of b) t))))
      (λ t. absurd (omega (arith, lies_part b l s h (eqb-false s (root_of b) t))))

  -- what walks from the roots of a range found
  record RootsFound (seen : List ℕ) (bs : List Blob) (seen' : List ℕ) : Type 0 where
    lie : Every (Lies e N P R) bs
    clear : Clear seen (all_slots bs)
    flags : seen' ≡ marked seen (all_slots bs)

  -- roots from here on have no flag
  abbrev Unseen : ℕ → List ℕ → Type 0
  Unseen from seen = (s : ℕ) → from ≤ s → s < N → state R s ≡ 2 → get_or seen s 0 ≡ 0

  -- after the walk from one root, the flags are as many, each yes or no, and none is set for a later root
  after_walk : (from : ℕ) (seen mid : List ℕ) (b : Blob) → WalkFound e N P R seen b mid → root_of b ≡ from → length seen ≡ N → Unseen from seen
      → (length mid ≡ N) × Flags mid × Unseen (suc from) mid
  after_walk from seen mid b w at all new =
      let low : Each (λ s. s < length seen) (slots_of b) = λ s h. rw all (lies_within e N P R b w.lies s h) in
      let flag = marked_flag seen (slots_of b) low w.clear in
      rw w.flags (
        marked_length seen (slots_of b) ∙ all,
        λ x. omega (arith, flag x, w.clear x),
        λ s lo hi is. by_times s (slots_of b)
            (λ h. absurd (omega (arith, lies_part b w.lies s h (λ q. absurd (omega arith)))))
            (λ z. omega (arith, flag s, new s (omega arith) hi is)),
      )

  module _ (p : Proper e) (whole : length P ≡ e.size * N) where
    -- so they did, where no root from here on had a flag
    roots_found : (from n : ℕ) (seen : List ℕ) {bs : List Blob} {seen' : List ℕ} → from + n ≤ N → length seen ≡ N → Flags seen → Unseen from seen
        → roots e N P R (range from n) seen ≡ fine bs seen' → RootsFound seen bs seen'
    unfolding range
    roots_found from zero seen {bs} {seen'} low all flags new v =
        let q = fine_same {a = []} {b = bs} {x = seen} {y = seen'} (unfold roots in v) in
        rw (← q.0, ← q.1) (record {
          lie = tt;
          clear = rw all_none (λ x. omega (arith, flags x, times_none x));
          flags = rw (all_none, marked_none);
        })
    roots_found from (suc n) seen {bs} {seen'} low all flags new v =
        by_test (eqb (state R from) 2)
        (λ t.
        let (b, mid, cs, o, o', q) = roots_root e N P R from (range (suc from) n) seen t v in
        let is = eqb-true (state R from) 2 t in
        let w = walk_found e p N P R whole seen from all flags (omega arith) is (new from (omega arith) (omega arith) is) o in
        let a = after_walk from seen mid b w (walk_root e N P R seen from o) all new in
        let r = roots_found (suc from) n mid (omega arith) a.0 a.1 a.2 o' in
        let low' : Each (λ s. s < length seen) (slots_of b) = λ s h. rw all (lies_within e N P R b w.lies s h) in
        rw (← q) (record {
          lie = (w.lies, r.lie);
          clear = rw all_cons (clear_append seen (slots_of b) (all_slots cs) low' w.clear (rw (← w.flags) r.clear));
          flags = r.flags ∙ ap (λ (l : List ℕ). marked l (all_slots cs)) w.flags ∙ sym (marked_append seen (slots_of b) (all_slots cs))
              ∙ ap (marked seen) (sym (all_cons b cs));
        }))
        (λ t. roots_found (suc from) n seen (omega arith) all flags (λ s lo. new s (omega arith))
        (sym (roots_other e N P R from (range (suc from) n) seen t) ∙ v))

  -- blobs that lie in the pool, one for each root record among these slots, are found by the walks from them
  roots_lie : (ss seen : List ℕ) (bs : List Blob) → map root_of bs ≡ filter (is_head R) ss → Every (Lies e N P R) bs → Clear seen (all_slots bs)
      → roots e N P R ss seen ≡ fine bs (marked seen (all_slots bs))
  unfolding roots filter is_head pick
  roots_lie [] seen [] heads lie clear = rw (all_none, marked_none)
  roots_lie [] seen (b ∷ bs) heads lie clear = cc
  roots_lie (s ∷ ss) seen [] heads lie clear =
      by_test (eqb (state R s) 2)
      (λ t. let k : [] ≡ s ∷ filter (is_head R) ss = rw t at heads in let z : ◌≡◌ {A = ℕ} 0 1 = cc in absurd (omega arith))
      (λ t. rw t (roots_lie ss seen [] (rw t at heads) lie clear))
  roots_lie (s ∷ ss) seen (b ∷ bs) heads lie clear =
      by_test (eqb (state R s) 2)
      (λ t.
      let k : root_of b ∷ map root_of bs ≡ s ∷ filter (is_head R) ss = rw t at heads in
      let at : root_of b ≡ s = cc in
      let rest : map root_of bs ≡ filter (is_head R) ss = cc in
      let clear' : Clear seen (slots_of b ++ all_slots bs) = rw (← all_cons b bs) clear in
      let one = lies_walk e N P R seen b lie.0 (clear_left seen (slots_of b) (all_slots bs) clear') in
      let more = roots_lie ss (marked seen (slots_of b)) bs rest lie.1 (clear_right seen (slots_of b) (all_slots bs) clear') in
      rw t (fine_and_then (from_root e N P R seen s) _ b (marked seen (slots_of b)) (ap (from_root e N P R seen) (sym at) ∙ one)
      ∙ fine_and_then (roots e N P R ss (marked seen (slots_of b))) _ bs (marked (marked seen (slots_of b)) (all_slots bs)) more
      ∙ ap (fine (b ∷ bs)) (sym (marked_append seen (slots_of b) (all_slots bs)) ∙ ap (marked seen) (sym (all_cons b bs)))))
      (λ t. rw t (roots_lie ss seen (b ∷ bs) (rw t at heads) lie clear))

  -- what the closing pass asks of a slot
  abbrev Closed : List ℕ → ℕ → Type 0
  Closed seen s = (state R s ≡ 0 → zeros (block e P s) ≡ true) × (state R s ≡ 1 → get_or seen s 0 ≡ 1)

  -- if it passed one slot
  closed_one : (seen : List ℕ) (s : ℕ) → closing_check e N P R seen s ≡ Ok tt → Closed seen s
  unfolding closing_check pick
  closed_one seen s c =
      let t = must_passed _ (at Reintroduced s) _ c in
      let u = must_passed _ (at WrongShape s) (Ok tt) t.1 in
      (λ z. rw (eq-eqb (state R s) 0 z) at t.0, λ z. eqb-true (get_or seen s 0) 1 (rw (eq-eqb (state R s) 1 z) at u.0))

  -- it passes one slot
  one_closed : (seen : List ℕ) (s : ℕ) → Closed seen s → closing_check e N P R seen s ≡ Ok tt
  unfolding closing_check pick
  one_closed seen s c =
      passed_must _ (at Reintroduced s) _ (by_test (eqb (state R s) 0) (λ t. rw t (c.0 (eqb-true (state R s) 0 t))) (λ t. rw t))
      (passed_must _ (at WrongShape s) (Ok tt)
      (by_test (eqb (state R s) 1) (λ t. rw t (eq-eqb (get_or seen s 0) 1 (c.1 (eqb-true (state R s) 1 t)))) (λ t. rw t)) refl)

  -- if it passed, it did each slot
  closed : (ss seen : List ℕ) → closing e N P R ss seen ≡ Ok tt → Each (Closed seen) ss
  unfolding closing
  closed [] seen c = each_none (Closed seen)
  closed (s ∷ ss) seen c =
      let t = first_passed (closing_check e N P R seen s) (closing e N P R ss seen) c in
      each_more (Closed seen) s ss (closed_one seen s t.0) (closed ss seen t.1)

  -- it passes if it does each slot
  all_closed : (ss seen : List ℕ) → Each (Closed seen) ss → closing e N P R ss seen ≡ Ok tt
  unfolding closing
  all_closed [] seen c = refl
  all_closed (s ∷ ss) seen c =
      passed_first (closing_check e N P R seen s) (closing e N P R ss seen) (one_closed seen s (each_first (Closed seen) s ss c))
      (all_closed ss seen (each_rest (Closed seen) s ss c))

-- what a pool that passes is: these blobs
pub record Pool (e : Edition) (N : ℕ) (P R : List ℕ) (bs : List Blob) : Type 0 where
  pub heads : map root_of bs ≡ filter (is_head R) (range 0 N)
  pub lie : Every (Lies e N P R) bs
  pub once : (s : ℕ) → times s (all_slots bs) ≤ 1
  pub free : (s : ℕ) → s < N → state R s ≡ 0 → zeros (block e P s) ≡ true
  pub reached : (s : ℕ) → s < N → state R s ≡ 1 → 1 ≤ times s (all_slots bs)

-- slots of blobs that lie in a pool are in it
pub all_within : (e : Edition) (N : ℕ) (P R : List ℕ) (bs : List Blob) → Every (Lies e N P R) bs → Each (λ s. s < N) (all_slots bs)
all_within e N P R [] l = rw all_none (each_none (λ s. s < N))
all_within e N P R (b ∷ bs) l =
    rw all_cons (each_append (λ s. s < N) (slots_of b) (all_slots bs) (lies_within e N P R b l.0) (all_within e N P R bs l.1))

-- and are live
pub all_live : (e : Edition) (N : ℕ) (P R : List ℕ) (bs : List Blob) → Every (Lies e N P R) bs → Each (λ s. state R s ≡ 0 → ⊥) (all_slots bs)
all_live e N P R [] l = rw all_none (each_none (λ s. state R s ≡ 0 → ⊥))
all_live e N P R (b ∷ bs) l =
    rw all_cons (each_append (λ s. state R s ≡ 0 → ⊥) (slots_of b) (all_slots bs) (lies_live e N P R b l.0) (all_live e N P R bs l.1))

-- the flags after them
pool_flag : (e : Edition) (N : ℕ) (P R : List ℕ) (bs : List Blob) → Every (Lies e N P R) bs → Clear (replicate N 0) (all_slots bs)
    → (s : ℕ) → get_or (marked (replicate N 0) (all_slots bs)) s 0 ≡ times s (all_slots bs)
pool_flag e N P R bs lie clear s =
    let low : Each (λ s. s < length {A = ℕ} (replicate N 0)) (all_slots bs) = λ s h.
    rw (length-replicate {A = ℕ} N 0) (all_within e N P R bs lie s h) in
    omega (arith, marked_flag (replicate N 0) (all_slots bs) low clear s, no_flag N s)

-- a pool check that went well found such a pool
pub pool_found : (e : Edition) → Proper e → (N : ℕ) (P R : List ℕ) → length P ≡ e.size * N → {bs : List Blob} {seen : List ℕ}
    → pool_check e N P R ≡ fine bs seen → Pool e N P R bs
unfolding pool_check is_head
pool_found e p N P R whole {bs} {seen} v =
    let (cs, mid, o, c) = and_then_fine (roots e N P R (range 0 N) (replicate N 0)) _ v in
    let k = passing_fine (closing e N P R (range 0 N) mid) (fine cs mid) c in
    let same = fine_same {a = cs} {b = bs} {x = mid} {y = seen} k.1 in
    let r = roots_found e N P R p whole 0 N (replicate N 0) (omega arith) (length-replicate N 0) (λ x. omega (arith, no_flag N x))
    (λ s lo hi is. no_flag N s) o in
    let done = closed e N P R (range 0 N) mid k.0 in
    let flag = pool_flag e N P R cs r.lie r.clear in
    rw (← same.0) (record {
      heads = roots_named e N P R (range 0 N) (replicate N 0) o;
      lie = r.lie;
      once = λ s. omega (arith, r.clear s);
      free = λ s low. (done s (range_has 0 N s (omega arith) (omega arith))).0;
      reached = λ s low is.
          let seen = (done s (range_has 0 N s (omega arith) (omega arith))).1 is in
          omega (arith, flag s, ap (λ (l : List ℕ). get_or l s 0) r.flags);
    })

-- of such a pool the pool check goes well and finds those blobs
pub pool_passes : (e : Edition) (N : ℕ) (P R : List ℕ) (bs : List Blob) → Pool e N P R bs
    → pool_check e N P R ≡ fine bs (marked (replicate N 0) (all_slots bs))
unfolding pool_check
pool_passes e N P R bs q =
    let clear : Clear (replicate N 0) (all_slots bs) = λ x. omega (arith, q.once x, no_flag N x) in
    let flag = pool_flag e N P R bs q.lie clear in
    let end : List ℕ = marked (replicate N 0) (all_slots bs) in
    let c = all_closed e N P R (range 0 N) end (λ s h.
    let low : s < N = omega (arith, range_within 0 N s h) in
    (q.free s low, λ is. omega (arith, flag s, q.once s, q.reached s low is))) in
    fine_and_then (roots e N P R (range 0 N) (replicate N 0)) _ bs end (roots_lie e N P R (range 0 N) (replicate N 0) bs q.heads q.lie clear)
    ∙ passed_passing (closing e N P R (range 0 N) end) (fine bs end) c

-- so a pool has one list of blobs
pub pool_one : (e : Edition) (N : ℕ) (P R : List ℕ) (xs ys : List Blob) → Pool e N P R xs → Pool e N P R ys → xs ≡ ys
pool_one e N P R xs ys a b = (fine_same (sym (pool_passes e N P R xs a) ∙ pool_passes e N P R ys b)).0
