-- One blob of a pool that passes is replaced, made or taken away. Where the slots of the other blobs keep their bytes and records, those that
-- go are left free and all zeros, and those that are taken were free, the other blobs still lie in the pool and it passes again.
use mathlib.Core.Path.{◌≡◌, refl, ap, ap₂, ◌∙◌, sym}
use mathlib.Core.Bool.{Bool, true, false}
use mathlib.Core.List.{List, [], ◌∷◌, ◌++◌, map, map-append}
use Prim.Native.Nat.{ℕ, zero, suc, ◌+◌, ◌≤◌, ◌<◌}
use native.Mathlib.Nat.{zero-add}
use native.Mathlib.Omega.{arith}
use borrow.Author.Tests.{ne_eqb}
use lib.Dec.{eqb}
use lib.ListN.{drop}
use Rattle.meaning.specs.declared.Edition.{Edition}
use Rattle.meaning.specs.Lists.{pick, range, filter, zeros}
use Rattle.meaning.specs.Bytes.{Cell, block, record_at, state, recorded}
use Rattle.meaning.specs.Tree.{Blob, root_of, cells_of, slots_of}
use Rattle.laws.proofs.Ranges.{filter_append, range_append}
use Rattle.laws_resize.proofs.resizing.SlotCounts.{times, times_append, times_cons}
use Rattle.laws_sound.proofs.sound.TimesListed.{times_none, times_same, by_times, Each, each_left, each_right}
use Rattle.laws.proofs.Every.{Every, every_left, every_right, every_append}
use Rattle.laws_sound.proofs.sound.Cells.{every_at, cell_slots, Reads}
use Rattle.laws_sound.proofs.sound.Blobs.{Lies}
use Rattle.laws.proofs.TreeSlots.{slots_root}
use Rattle.laws_sound.proofs.sound.Pools.{is_head, all_slots, all_none, all_cons, all_append, lies_part, Pool, all_within, all_live}

-- a slot's block and record stay
pub record Kept (e : Edition) (P R P' R' : List ℕ) (s : ℕ) : Type 0 where
  pub bytes : block e P' s ≡ block e P s
  pub line : record_at R' s ≡ record_at R s

module _ (e : Edition) (N : ℕ) (P R P' R' : List ℕ) where
  -- so does its state
  pub kept_state : (s : ℕ) → Kept e P R P' R' s → state R' s ≡ state R s
  unfolding state
  kept_state s k = rw k.line

  -- and its version
  pub kept_version : (s : ℕ) → Kept e P R P' R' s → recorded R' s ≡ recorded R s
  unfolding recorded
  kept_version s k = rw k.line

  -- it reads as the same cell
  pub kept_reads : (c : ℕ × Cell) → Kept e P R P' R' c.0 → Reads e N P R c → Reads e N P' R' c
  kept_reads c k r = record {
    within = r.within;
    mark = rw k.bytes r.mark;
    own = rw k.bytes r.own;
    version = rw k.bytes (r.version ∙ sym (kept_version c.0 k));
    height = rw k.bytes r.height;
    count = rw k.bytes r.count;
    rest = rw k.bytes r.rest;
    cell = rw k.bytes r.cell;
  }

  -- and a blob of such slots lies in the pool as before
  pub kept_lies : (b : Blob) → Each (Kept e P R P' R') (slots_of b) → Lies e N P R b → Lies e N P' R' b
  kept_lies b k l =
      let root : Kept e P R P' R' (root_of b) = k (root_of b) (omega (
        arith,
        ap (times (root_of b)) (slots_root b),
        times_cons (root_of b) (root_of b) (drop 1 (slots_of b)),
        times_same (root_of b) (root_of b) refl,
      )) in
      record {
        low = l.low;
        root = kept_state (root_of b) root ∙ l.root;
        shape = l.shape;
        reads = unfold slots_of cell_slots in every_at (cells_of b) (λ c h. kept_reads c (k c.0 h)) l.reads;
        parts = λ s h. kept_state s (k s (omega (arith, ap (times s) (slots_root b), times_cons s (root_of b) (drop 1 (slots_of b))))) ∙ l.parts s h;
      }

  -- so do blobs
  pub kept_all : (bs : List Blob) → Each (Kept e P R P' R') (all_slots bs) → Every (Lies e N P R) bs → Every (Lies e N P' R') bs
  kept_all [] k l = tt
  kept_all (b ∷ bs) k l =
      let k' : Each (Kept e P R P' R') (slots_of b ++ all_slots bs) = rw (← all_cons b bs) k in (
        kept_lies b (each_left (Kept e P R P' R') (slots_of b) (all_slots bs) k') l.0,
        kept_all bs (each_right (Kept e P R P' R') (slots_of b) (all_slots bs) k') l.1,
      )

-- tests that agree on a range filter it alike
pub filter_same : (p q : ℕ → Bool) (from n : ℕ) → ((s : ℕ) → from ≤ s → s < from + n → p s ≡ q s) → filter p (range from n) ≡ filter q (range from n)
unfolding filter range
filter_same p q from zero h = refl
filter_same p q from (suc n) h = rw (h from (omega arith) (omega arith), filter_same p q (suc from) n (λ s a b. h s (omega arith) (omega arith)))

-- all slots, parted at one
pub filter_parted : (p : ℕ → Bool) (r m : ℕ)
    → filter p (range 0 (r + suc m)) ≡ filter p (range 0 r) ++ (filter p (r ∷ []) ++ filter p (range (suc r) m))
unfolding range
filter_parted p r m =
    rw (range_append 0 r (suc m), zero-add r, filter_append p (range 0 r) (r ∷ range (suc r) m), filter_append p (r ∷ []) (range (suc r) m)) refl

-- what a call does to the slots of a pool: those neither old nor new stay, those that go are left free and zeros, those taken were free
pub record Replaced (e : Edition) (N : ℕ) (P R P' R' : List ℕ) (before after X X' : List Blob) : Type 0 where
  pub was : Pool e N P R (before ++ (X ++ after))
  pub heads : map root_of (before ++ (X' ++ after)) ≡ filter (is_head R') (range 0 N)
  pub kept : (s : ℕ) → s < N → times s (all_slots X) ≡ 0 → times s (all_slots X') ≡ 0 → Kept e P R P' R' s
  pub gone : (s : ℕ) → s < N → 1 ≤ times s (all_slots X) → times s (all_slots X') ≡ 0 → (state R' s ≡ 0) × (zeros (block e P' s) ≡ true)
  pub taken : (s : ℕ) → times s (all_slots X) ≡ 0 → 1 ≤ times s (all_slots X') → state R s ≡ 0
  pub lie : Every (Lies e N P' R') X'
  pub once : (s : ℕ) → times s (all_slots X') ≤ 1

module _ (e : Edition) (N : ℕ) (P R P' R' : List ℕ) (before after X X' : List Blob) (d : Replaced e N P R P' R' before after X X') where
  -- the slots of three lists of blobs in a row
  count : (Y : List Blob) (s : ℕ) → times s (all_slots (before ++ (Y ++ after)))
      ≡ times s (all_slots before) + (times s (all_slots Y) + times s (all_slots after))
  count Y s =
      rw (all_append before (Y ++ after), all_append Y after, times_append s (all_slots before) (all_slots Y ++ all_slots after))
      (omega (arith, times_append s (all_slots Y) (all_slots after)))

  -- the other blobs lay in the pool
  others : Every (Lies e N P R) before × Every (Lies e N P R) after
  others =
      let lay = d.was.lie in
      (every_left (Lies e N P R) before (X ++ after) lay, every_right (Lies e N P R) X after (every_right (Lies e N P R) before (X ++ after) lay))

  -- a slot of another blob is neither old nor new
  apart : (s : ℕ) → (state R s ≡ 0 → ⊥) → 1 ≤ times s (all_slots before) + times s (all_slots after)
      → (times s (all_slots X) ≡ 0) × (times s (all_slots X') ≡ 0)
  apart s live h =
      let old : times s (all_slots X) ≡ 0 = omega (arith, count X s, d.was.once s) in
      (old, by_times s (all_slots X') (λ n. absurd (live (d.taken s old n))) (λ z. z))

  -- so it stays, in the blobs before
  before_kept : Each (Kept e P R P' R') (all_slots before)
  before_kept s h =
      let a = apart s (all_live e N P R before others.0 s h) (omega arith) in
      d.kept s (all_within e N P R before others.0 s h) a.0 a.1

  -- in the blobs after, too
  after_kept : Each (Kept e P R P' R') (all_slots after)
  after_kept s h =
      let a = apart s (all_live e N P R after others.1 s h) (omega arith) in
      d.kept s (all_within e N P R after others.1 s h) a.0 a.1

  -- no slot stands twice
  once_all : (s : ℕ) → times s (all_slots (before ++ (X' ++ after))) ≤ 1
  once_all s =
      by_times s (all_slots before)
      (λ h. let a = apart s (all_live e N P R before others.0 s h) (omega arith) in omega (arith, count X s, count X' s, d.was.once s))
      (λ z. by_times s (all_slots after)
      (λ h. let a = apart s (all_live e N P R after others.1 s h) (omega arith) in omega (arith, count X s, count X' s, d.was.once s))
      (λ y. omega (arith, count X' s, d.once s)))

  -- the pool passes again
  pub replaced : Pool e N P' R' (before ++ (X' ++ after))
  replaced = record {
    heads = d.heads;
    lie = every_append (Lies e N P' R') before (X' ++ after) (kept_all e N P R P' R' before before_kept others.0)
        (every_append (Lies e N P' R') X' after d.lie (kept_all e N P R P' R' after after_kept others.1));
    once = once_all;
    free = λ s low z. by_times s (all_slots X')
        (λ n. absurd (all_live e N P' R' X' d.lie s n z))
        (λ n. by_times s (all_slots X) (λ o. (d.gone s low o n).1)
        (λ o. let k = d.kept s low o n in rw k.bytes (d.was.free s low (sym (kept_state e N P R P' R' s k) ∙ z))));
    reached = λ s low z. by_times s (all_slots X')
        (λ n. omega (arith, count X' s))
        (λ n. by_times s (all_slots X) (λ o. absurd (omega (arith, (d.gone s low o n).0)))
        (λ o. let k = d.kept s low o n in
        omega (arith, count X s, count X' s, d.was.reached s low (sym (kept_state e N P R P' R' s k) ∙ z))));
  }

-- a slot that is no root's
not_head : (R : List ℕ) (s : ℕ) → (state R s ≡ 2 → ⊥) → is_head R s ≡ false
unfolding is_head
not_head R s n = ne_eqb (state R s) 2 n

-- a slot of blobs of one root that is not that root is a part
pub all_part : (e : Edition) (N : ℕ) (P R : List ℕ) (r : ℕ) (bs : List Blob) → Every (Lies e N P R) bs → Every (λ b. root_of b ≡ r) bs
    → (s : ℕ) → 1 ≤ times s (all_slots bs) → (s ≡ r → ⊥) → state R s ≡ 1
all_part e N P R r [] l at s h n = absurd (omega (arith, ap (times s) all_none, times_none s))
all_part e N P R r (b ∷ bs) l at s h n =
    by_times s (slots_of b)
    (λ k. lies_part e N P R b l.0 s k (λ q. n (q ∙ at.0)))
    (λ z. all_part e N P R r bs l.1 at.1 s (omega (arith, ap (times s) (all_cons b bs), times_append s (slots_of b) (all_slots bs))) n)

-- blobs whose roots are a slot, or none, have that root
pub one_head : (r : ℕ) (t : Bool) (xs : List Blob) → map root_of xs ≡ pick t (r ∷ []) [] → Every (λ b. root_of b ≡ r) xs
unfolding pick
one_head r t [] h = tt
one_head r false (b ∷ bs) h = let z : ◌≡◌ {A = ℕ} 0 1 = cc in absurd (omega arith)
one_head r true (b ∷ []) h = let k : root_of b ≡ r = cc in (k, tt)
one_head r true (b ∷ (c ∷ bs)) h = let z : ◌≡◌ {A = ℕ} 0 1 = cc in absurd (omega arith)

-- a pool's blobs, parted at slot r
pub record Parted (R : List ℕ) (r m : ℕ) (xs X ys : List Blob) : Type 0 where
  pub before : map root_of xs ≡ filter (is_head R) (range 0 r)
  pub here : map root_of X ≡ filter (is_head R) (r ∷ [])
  pub after : map root_of ys ≡ filter (is_head R) (range (suc r) m)

-- the roots after a call that changes the roots' records at r only
pub heads_replaced : (e : Edition) (N : ℕ) (P R P' R' : List ℕ) (r m : ℕ) (before after X X' : List Blob) → N ≡ r + suc m
    → Parted R r m before X after
    → map root_of X' ≡ filter (is_head R') (r ∷ []) → ((s : ℕ) → s < N → (s ≡ r → ⊥) → is_head R s ≡ is_head R' s)
    → map root_of (before ++ (X' ++ after)) ≡ filter (is_head R') (range 0 N)
heads_replaced e N P R P' R' r m before after X X' room q head same =
    let a : filter (is_head R) (range 0 r) ≡ filter (is_head R') (range 0 r) =
    filter_same (is_head R) (is_head R') 0 r (λ s lo hi. same s (omega arith) (λ k. absurd (omega arith))) in
    let b : filter (is_head R) (range (suc r) m) ≡ filter (is_head R') (range (suc r) m) =
    filter_same (is_head R) (is_head R') (suc r) m (λ s lo hi. same s (omega arith) (λ k. absurd (omega arith))) in
    map-append root_of before (X' ++ after)
    ∙ ap₂ ◌++◌ (q.before ∙ a) (map-append root_of X' after ∙ ap₂ ◌++◌ head (q.after ∙ b))
    ∙ sym (filter_parted (is_head R') r m) ∙ ap (λ (n : ℕ). filter (is_head R') (range 0 n)) (sym room)

-- they do so, where the slots change as above
pub heads_same : (e : Edition) (N : ℕ) (P R P' R' : List ℕ) (r : ℕ) (X X' : List Blob) → Every (Lies e N P R) X → Every (λ b. root_of b ≡ r) X
    → Every (Lies e N P' R') X' → Every (λ b. root_of b ≡ r) X'
    → ((s : ℕ) → s < N → times s (all_slots X) ≡ 0 → times s (all_slots X') ≡ 0 → Kept e P R P' R' s)
    → ((s : ℕ) → s < N → 1 ≤ times s (all_slots X) → times s (all_slots X') ≡ 0 → (state R' s ≡ 0) × (zeros (block e P' s) ≡ true))
    → ((s : ℕ) → times s (all_slots X) ≡ 0 → 1 ≤ times s (all_slots X') → state R s ≡ 0)
    → (s : ℕ) → s < N → (s ≡ r → ⊥) → is_head R s ≡ is_head R' s
heads_same e N P R P' R' r X X' l at l' at' kept gone taken s low n =
    by_times s (all_slots X)
    (λ o. not_head R s (λ q. absurd (omega (arith, all_part e N P R r X l at s o n)))
    ∙ sym (not_head R' s (by_times s (all_slots X')
    (λ k q. absurd (omega (arith, all_part e N P' R' r X' l' at' s k n)))
    (λ k q. absurd (omega (arith, (gone s low o k).0))))))
    (λ o. by_times s (all_slots X')
    (λ k. not_head R s (λ q. absurd (omega (arith, taken s o k)))
    ∙ sym (not_head R' s (λ q. absurd (omega (arith, all_part e N P' R' r X' l' at' s k n)))))
    (λ k. unfold is_head in ap (λ (x : ℕ). eqb x 2) (sym (kept_state e N P R P' R' s (kept s low o k)))))
