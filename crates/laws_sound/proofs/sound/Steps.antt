-- A call that changes one blob of a pool that passes leaves a pool that passes: a blob is made, a blob goes, or a blob turns into another,
-- whose slots are old ones or free ones with a version left. What each call owes is said of its new blob only.
use mathlib.Core.Path.{◌≡◌, refl, ap, ◌∙◌, sym}
use mathlib.Core.Bool.{true}
use mathlib.Core.List.{List, [], ◌∷◌, ◌++◌, map, append-nil}
use Prim.Native.Nat.{ℕ, suc, ◌+◌, ◌*◌, ◌^◌, ◌≤◌, ◌<◌}
use native.Mathlib.Omega.{arith}
use lib.ListN.{length, drop}
use Rattle.meaning.specs.declared.Edition.{Edition}
use Rattle.meaning.specs.Lists.{pick, filter, zeros}
use Rattle.meaning.specs.Edition.{Proper}
use Rattle.meaning.specs.Bytes.{Cell, block, record_at, state, recorded, sound_record, last_version}
use Rattle.meaning.specs.Shape.{Shaped}
use Rattle.meaning.specs.Tree.{Blob, root_of, cells_of, slots_of, held, just}
use Rattle.meaning.specs.Change.{Store}
use Rattle.meaning.specs.Calls.{become}
use Rattle.laws_resize.proofs.resizing.SlotCounts.{times, times_cons}
use Rattle.laws_sound.proofs.sound.TimesListed.{times_none, times_same, by_times, Each, each_none}
use Rattle.laws.proofs.Every.{Every, every_left, every_right}
use Rattle.laws_sound.proofs.sound.Cells.{every_at, cell_slots, Reads}
use Rattle.laws_sound.proofs.sound.Walks.{Parts}
use Rattle.laws_sound.proofs.sound.Blobs.{Lies, lies_within, blob_fits}
use Rattle.laws.proofs.Puts.{then_pool, then_records}
use Rattle.laws.proofs.TreeSlots.{slots_root}
use Rattle.laws_sound.proofs.sound.Pools.{is_head, all_slots, all_none, all_cons, lies_part, Pool}
use Rattle.laws_sound.proofs.sound.Replaced.{Kept, replaced, Parted, one_head, heads_replaced, heads_same}
use Rattle.laws_sound.proofs.sound.After.{Next, Ready, held_none, held_some, held_own, nothing_kept, freed_after, state_kept, state_taken}
use Rattle.laws_sound.proofs.sound.After.{reads_after, sound_after}

-- a slot of no list is none
no_slot : (s : ℕ) → times s (all_slots []) ≡ 0
no_slot s = rw all_none (times_none s)

-- nor is a slot of no cells
no_cell : (s : ℕ) → times s (cell_slots []) ≡ 0
unfolding cell_slots
no_cell s = times_none s

-- one blob's slots
one_slots : (b : Blob) → all_slots (b ∷ []) ≡ slots_of b
one_slots b = all_cons b [] ∙ ap (λ (l : List ℕ). slots_of b ++ l) all_none ∙ append-nil (slots_of b)

-- a blob's slots are its cells'
pub cells_slots : (b : Blob) → cell_slots (cells_of b) ≡ slots_of b
unfolding cell_slots slots_of
cells_slots b = refl

-- a store of N slots in which the cells of old, which lie in it, become those of new
module _ (e : Edition) (N : ℕ) (S : Store) (taken : ℕ) (old new : List (ℕ × Cell)) where
  -- what a call owes for that
  pub record Step : Type 0 where
    pub ready : Ready e N S taken old new
    pub lay : Every (Reads e N S.pool S.records) old
    pub once : (s : ℕ) → times s (cell_slots new) ≤ 1
    pub within : Each (λ s. s < N) (cell_slots new)
    pub young : Each (λ s. recorded S.records s + 1 < 2 ^ 64) (cell_slots new)
    pub free : (s : ℕ) → times s (cell_slots old) ≡ 0 → 1 ≤ times s (cell_slots new) → state S.records s ≡ 0

  module _ (d : Step) where
    -- the new cells lie in the store after
    pub step_reads : Every (Reads e N (Next e N S taken old new).pool (Next e N S taken old new).records) new
    step_reads =
        every_at {Q = λ c. held new c.0 ≡ just c.1} {S = Reads e N (Next e N S taken old new).pool (Next e N S taken old new).records} new
        (λ c h n. reads_after e N S taken old new d.ready c.0 (d.within c.0 h) c.1 (d.young c.0 h) n d.lay)
        (held_own new d.once)

    -- the pool's length is kept
    pub step_pool : length (Next e N S taken old new).pool ≡ length S.pool
    unfolding become
    step_pool = then_pool e N S taken (held old) (held new) d.ready.whole d.ready.lines

    -- so is the records'
    pub step_records : length (Next e N S taken old new).records ≡ length S.records
    unfolding become
    step_records = then_records e N S taken (held old) (held new) d.ready.whole d.ready.lines

    -- and each record's layout
    pub step_sound : taken ≤ 2 → (s : ℕ) → s < N → sound_record (record_at S.records s) ≡ true
        → sound_record (record_at (Next e N S taken old new).records s) ≡ true
    step_sound few s low was = sound_after e N S taken old new d.ready s low few (d.young s) was

    -- its pool passes, with the blobs of the new cells in the place of those of the old
    pub step_passes : (r m : ℕ) (before after X X' : List Blob) → N ≡ r + suc m
        → ((s : ℕ) → times s (cell_slots old) ≡ times s (all_slots X)) → ((s : ℕ) → times s (cell_slots new) ≡ times s (all_slots X'))
        → Pool e N S.pool S.records (before ++ (X ++ after)) → Parted S.records r m before X after
        → map root_of X' ≡ filter (is_head (Next e N S taken old new).records) (r ∷ [])
        → Every (Lies e N (Next e N S taken old new).pool (Next e N S taken old new).records) X'
        → Pool e N (Next e N S taken old new).pool (Next e N S taken old new).records (before ++ (X' ++ after))
    unfolding filter
    step_passes r m before after X X' room os ns was parted head lie =
        let P = S.pool in
        let R = S.records in
        let P' = (Next e N S taken old new).pool in
        let R' = (Next e N S taken old new).records in
        let kept : (s : ℕ) → s < N → times s (all_slots X) ≡ 0 → times s (all_slots X') ≡ 0 → Kept e P R P' R' s =
        λ s low o n. nothing_kept e N S taken old new d.ready s low (held_none old s (os s ∙ o)) (held_none new s (ns s ∙ n)) in
        let gone : (s : ℕ) → s < N → 1 ≤ times s (all_slots X) → times s (all_slots X') ≡ 0 → (state R' s ≡ 0) × (zeros (block e P' s) ≡ true) =
        λ s low o n.
        let h = held_some old s (omega (arith, os s)) in
        freed_after e N S taken old new d.ready s low h.0 h.1 (held_none new s (ns s ∙ n)) in
        let free : (s : ℕ) → times s (all_slots X) ≡ 0 → 1 ≤ times s (all_slots X') → state R s ≡ 0 =
        λ s o n. d.free s (os s ∙ o) (omega (arith, ns s)) in
        let lay = every_left (Lies e N P R) X after (every_right (Lies e N P R) before (X ++ after) was.lie) in
        replaced e N P R P' R' before after X X' (record {
          was = was;
          heads = heads_replaced e N P R P' R' r m before after X X' room parted head
              (heads_same e N P R P' R' r X X' lay (one_head r (is_head R r) X parted.here) lie (one_head r (is_head R' r) X' head) kept gone free);
          kept = kept;
          gone = gone;
          taken = free;
          lie = lie;
          once = λ s. omega (arith, ns s, d.once s);
        })

-- a root's slot is that root's
pub one_root : (R : List ℕ) (r : ℕ) → state R r ≡ 2 → filter (is_head R) (r ∷ []) ≡ r ∷ []
unfolding filter is_head pick
one_root R r h = rw h

-- a free slot is none's
pub no_root : (R : List ℕ) (r : ℕ) → state R r ≡ 0 → filter (is_head R) (r ∷ []) ≡ []
unfolding filter is_head pick
no_root R r h = rw h

-- a blob is made of one cell
module _ (e : Edition) (N : ℕ) (S : Store) (b : Blob) (d : Step e N S 2 [] (cells_of b)) where
  -- then the pool passes with it, at its place among the others
  pub made_passes : (r m : ℕ) (before after : List Blob) → N ≡ r + suc m → root_of b ≡ r → b.height ≤ e.top → Shaped e b → drop 1 (slots_of b) ≡ []
      → Pool e N S.pool S.records (before ++ after) → Parted S.records r m before [] after
      → Pool e N (Next e N S 2 [] (cells_of b)).pool (Next e N S 2 [] (cells_of b)).records (before ++ (b ∷ after))
  made_passes r m before after room at low shape alone was parted =
      let R' = (Next e N S 2 [] (cells_of b)).records in
      let there : 1 ≤ times r (cell_slots (cells_of b)) = rw (cells_slots b, slots_root b, at)
      (omega (arith, times_cons r r (drop 1 (slots_of b)), times_same r r refl)) in
      let st : state R' r ≡ 2 =
      state_taken e N S 2 [] (cells_of b) d.ready r (d.within r there) (d.young r there) (no_cell r) there in
      step_passes e N S 2 [] (cells_of b) d r m before after [] (b ∷ []) room
      (λ s. no_cell s ∙ sym (no_slot s)) (λ s. ap (times s) (cells_slots b ∙ sym (one_slots b))) was parted
      (ap (λ (x : ℕ). x ∷ []) at ∙ sym (one_root R' r st)) (
        record {
          low = low;
          root = ap (state R') at ∙ st;
          shape = shape;
          reads = step_reads e N S 2 [] (cells_of b) d;
          parts = rw alone (each_none (λ s. state R' s ≡ 1));
        },
        tt,
      )

-- a blob goes
module _ (e : Edition) (N : ℕ) (S : Store) (b : Blob) (d : Step e N S 1 (cells_of b) []) where
  -- then the pool passes without it
  pub gone_passes : (r m : ℕ) (before after : List Blob) → N ≡ r + suc m → root_of b ≡ r
      → Pool e N S.pool S.records (before ++ (b ∷ after)) → Parted S.records r m before (b ∷ []) after
      → Pool e N (Next e N S 1 (cells_of b) []).pool (Next e N S 1 (cells_of b) []).records (before ++ after)
  gone_passes r m before after room at was parted =
      let R' = (Next e N S 1 (cells_of b) []).records in
      let there : 1 ≤ times r (cell_slots (cells_of b)) = rw (cells_slots b, slots_root b, at)
      (omega (arith, times_cons r r (drop 1 (slots_of b)), times_same r r refl)) in
      let h = held_some (cells_of b) r there in
      let st : state R' r ≡ 0 = (freed_after e N S 1 (cells_of b) [] d.ready r (omega arith) h.0 h.1
      (held_none [] r (no_cell r))).0 in
      step_passes e N S 1 (cells_of b) [] d r m before after (b ∷ []) [] room
      (λ s. ap (times s) (cells_slots b ∙ sym (one_slots b))) (λ s. no_cell s ∙ sym (no_slot s)) was parted
      (sym (no_root R' r st)) tt

-- what a blob that another turns into has to meet: the root stays, the shape is right, its slots are distinct, and old ones or usable ones
pub record Turns (e : Edition) (N : ℕ) (R : List ℕ) (b b' : Blob) : Type 0 where
  pub root : root_of b' ≡ root_of b
  pub low : b'.height ≤ e.top
  pub shape : Shaped e b'
  pub once : (s : ℕ) → times s (slots_of b') ≤ 1
  pub taken : (s : ℕ) → times s (slots_of b) ≡ 0 → 1 ≤ times s (slots_of b') → (s < N) × (state R s ≡ 0) × (recorded R s < last_version)

module _ (e : Edition) (p : Proper e) (N : ℕ) (few : N ≤ 2 ^ 32) (S : Store) (b b' : Blob)
    (whole : length S.pool ≡ e.size * N) (lines : length S.records ≡ 12 * N) (lay : Lies e N S.pool S.records b)
    (fresh : Each (λ s. recorded S.records s < last_version) (slots_of b)) (t : Turns e N S.records b b') where
  -- that is all that is owed
  pub turns_step : Step e N S 1 (cells_of b) (cells_of b')
  unfolding last_version
  turns_step =
      let R = S.records in
      let within : Each (λ s. s < N) (slots_of b') = λ s n.
      by_times s (slots_of b) (λ o. lies_within e N S.pool R b lay s o) (λ o. (t.taken s o n).0) in
      let young : Each (λ s. recorded R s + 1 < 2 ^ 64) (slots_of b') = λ s n.
      by_times s (slots_of b) (λ o. omega (arith, fresh s o)) (λ o. omega (arith, (t.taken s o n).2)) in
      record {
        ready = record { proper = p; few = few; whole = whole; lines = lines; fits = blob_fits e N few b' t.shape within };
        lay = lay.reads;
        once = rw (cells_slots b') t.once;
        within = rw (cells_slots b') within;
        young = rw (cells_slots b') young;
        free = rw (cells_slots b, cells_slots b') (λ s o n. (t.taken s o n).1);
      }

  -- its pool passes, with the new blob in the place of the old
  pub turned_passes : (r m : ℕ) (before after : List Blob) → N ≡ r + suc m → root_of b ≡ r
      → Pool e N S.pool S.records (before ++ (b ∷ after)) → Parted S.records r m before (b ∷ []) after
      → Pool e N (Next e N S 1 (cells_of b) (cells_of b')).pool (Next e N S 1 (cells_of b) (cells_of b')).records (before ++ (b' ∷ after))
  turned_passes r m before after room at was parted =
      let d = turns_step in
      let R = S.records in
      let R' = (Next e N S 1 (cells_of b) (cells_of b')).records in
      let own : (x : Blob) → 1 ≤ times (root_of x) (slots_of x) = λ x.
      rw (slots_root x) (omega (arith, times_cons (root_of x) (root_of x) (drop 1 (slots_of x)), times_same (root_of x) (root_of x) refl)) in
      let old : (s : ℕ) → 1 ≤ times s (slots_of b) → 1 ≤ times s (slots_of b') → state R' s ≡ state R s = λ s o n.
      state_kept e N S 1 (cells_of b) (cells_of b') d.ready s (d.within s (rw (cells_slots b') n)) (d.young s (rw (cells_slots b') n))
      (rw (cells_slots b) o) (rw (cells_slots b') n) in
      let new : (s : ℕ) → times s (slots_of b) ≡ 0 → 1 ≤ times s (slots_of b') → state R' s ≡ 1 = λ s o n.
      state_taken e N S 1 (cells_of b) (cells_of b') d.ready s (d.within s (rw (cells_slots b') n)) (d.young s (rw (cells_slots b') n))
      (rw (cells_slots b) o) (rw (cells_slots b') n) in
      let root : state R' (root_of b') ≡ 2 =
      old (root_of b') (rw t.root (own b)) (own b') ∙ ap (state R) t.root ∙ lay.root in
      let parts : Parts R' (drop 1 (slots_of b')) = λ s h.
      let all = ap (times s) (slots_root b') in
      let more = times_cons s (root_of b') (drop 1 (slots_of b')) in
      let n : 1 ≤ times s (slots_of b') = omega arith in
      by_times s (slots_of b)
      (λ o. old s o n ∙ lies_part e N S.pool R b lay s o
      (λ q. absurd (omega (arith, t.once s, times_same s (root_of b') (t.root ∙ sym q)))))
      (λ o. new s o n) in
      step_passes e N S 1 (cells_of b) (cells_of b') d r m before after (b ∷ []) (b' ∷ []) room
      (λ s. ap (times s) (cells_slots b ∙ sym (one_slots b))) (λ s. ap (times s) (cells_slots b' ∙ sym (one_slots b'))) was parted
      (ap (λ (x : ℕ). x ∷ []) (t.root ∙ at) ∙ sym (one_root R' r (ap (state R') (sym (t.root ∙ at)) ∙ root)))
      (record { low = t.low; root = root; shape = t.shape; reads = step_reads e N S 1 (cells_of b) (cells_of b') d; parts = parts }, tt)
