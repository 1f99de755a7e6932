-- One slot of a write is stored, need by need: the next version, and that the stored stretch and version are the planned block and record.
use mathlib.Core.Path.{◌≡◌, ap, ◌∙◌}
use mathlib.Core.Bool.{true}
use mathlib.Core.List.{List}
use Prim.Native.Nat.{ℕ, ◌+◌, ◌*◌, ◌≤◌, ◌<◌}
use native.Mathlib.Omega.{arith}
use mir.Syntax.{w64}
use mir.Val.{Fits}
use lib.ListN.{length}
use Rattle.meaning.specs.declared.Edition.{Edition}
use Rattle.meaning.specs.Lists.{part, pasted, bytes}
use Rattle.meaning.specs.Edition.{Proper}
use Rattle.meaning.specs.Bytes.{block, count_of, data_of, encoded, record_at, record_of, state_of, recorded_of, state, recorded, last_version}
use Rattle.meaning.specs.Shape.{most_count}
use Rattle.meaning.specs.Change.{put, puts, renewed}
use Rattle.laws.proofs.Numbers.{part_length}
use Rattle.laws.proofs.Inversions.{Sound}
use Rattle.std.specs.Prelude.{None, Some}
use Rattle.plan_write.specs.declared.stretch.Stretch.{Stretch}
use Rattle.plan_write.specs.stretch.{plan_of, stretched, leaf_cell, put_by, write_plan, ChosenAt, Place, Counted, Writable}
use Rattle.plan_write.proofs.patch.Blocks.{leaf_rewritten, leaf_encoded}

-- a record's next version, and the record that has it
module _ (R : List ℕ) (i : ℕ) (rb : List ℕ) (er : rb ≡ record_at R i) where
  pub version_next : (v : ℕ) → v ≡ recorded_of rb → v + 1 ≡ recorded R i + 1
  unfolding recorded
  version_next v ev = rw (ev, er)

  pub version_fits : (v : ℕ) → v ≡ recorded_of rb → recorded R i < last_version → Fits w64 (v + 1)
  unfolding recorded last_version
  version_fits v ev h = let q : v ≡ recorded_of (record_at R i) = ev ∙ ap recorded_of er in record { fits = omega arith }

  pub record_raised : (st : ℕ) → st ≡ state_of rb → (v : ℕ) (R' : List ℕ) → R' ≡ put 12 i (record_of st v) R
      → R' ≡ put 12 i (record_of (state R i) v) R
  unfolding state
  record_raised st es v R' e' = e' ∙ rw (es, er)

-- both are stored
pub pool_stored : (e : Edition) (i within from count : ℕ) (d P R : List ℕ) (v : ℕ) → v ≡ recorded R i + 1 → (P' : List ℕ)
    → P' ≡ put e.size i (pasted (16 + within) (part from count d) (pasted 8 (bytes 8 v) (block e P i))) P
    → P' ≡ put e.size i (pasted (16 + within) (part from count d) (pasted 8 (bytes 8 (recorded R i + 1)) (block e P i))) P
pool_stored e i within from count d P R v ev P' e' = e' ∙ rw ev

pub records_stored : (i : ℕ) (R : List ℕ) (v : ℕ) → v ≡ recorded R i + 1 → (R' : List ℕ) → R' ≡ put 12 i (record_of (state R i) v) R
    → R' ≡ put 12 i (record_of (state R i) (recorded R i + 1)) R
records_stored i R v ev R' e' = e' ∙ rw ev

-- a block is as long as it has to be, and so are its data bytes
block_long : (e : Edition) (P : List ℕ) (s : ℕ) → e.size * s + e.size ≤ length P → length (block e P s) ≡ e.size
unfolding block
block_long e P s h = part_length (e.size * s) e.size P h

pub data_long : (b : List ℕ) → 16 + count_of b ≤ length b → length (data_of b) ≡ count_of b
unfolding data_of
data_long b h = part_length 16 (count_of b) b h

-- a slot is written, by its plan
module _ (e : Edition) (P R hs fs d : List ℕ) (offset i : ℕ) where
  -- nothing changes
  pub pool_stays : None ≡ plan_of e P hs fs d offset i → P ≡ puts e.size (λ c. c.block) (write_plan e P R hs fs d offset i) P
  unfolding write_plan put_by puts
  pool_stays et = rw (← et)

  pub records_stay : None ≡ plan_of e P hs fs d offset i → R ≡ puts 12 (λ c. c.line) (write_plan e P R hs fs d offset i) R
  unfolding write_plan put_by puts
  records_stay et = rw (← et)

  -- its stretch is stored
  module _ (t : Stretch) (et : Some t ≡ plan_of e P hs fs d offset i) (f : ChosenAt e P hs d i t) (g : Writable e P R hs i) where
    sound : Sound e 0 true true (recorded R i) i (block e P i)
    sound = (g.so f.leaf).sound

    pub store_room : Proper e → 16 + t.within + t.count ≤ e.size
    unfolding most_count
    store_room p = omega (arith, f.changing.leaf, sound.most, p.fits)

    pub store_source : t.from + t.count ≤ length d
    store_source = f.changing.source

    pub store_young : recorded R i < last_version
    store_young = (g.so f.leaf).young

    -- the stored block is the planned one
    block_planned : Proper e → e.size ≡ 16 + e.leaf → e.size * i + e.size ≤ length P
        → pasted (16 + t.within) (part t.from t.count d) (pasted 8 (bytes 8 (recorded R i + 1)) (block e P i))
        ≡ encoded e (leaf_cell (stretched t d (data_of (block e P i)))) i (recorded R i + 1)
    unfolding stretched most_count
    block_planned p fills here =
        let b : List ℕ = block e P i in
        let c = f.changing in
        let lb : length b ≡ e.size = block_long e P i here in
        let row : length (data_of b) ≡ count_of b = data_long b (omega (arith, sound.most)) in
        let new : length (part t.from t.count d) ≡ t.count = part_length t.from t.count d c.source in
        ap (λ (x : List ℕ). pasted (16 + t.within) (part t.from t.count d) (pasted 8 (bytes 8 (recorded R i + 1)) x))
        (leaf_encoded e p fills (recorded R i) i b lb c.bytes sound)
        ∙ leaf_rewritten e p (data_of b) i (recorded R i) (recorded R i + 1) t.within (part t.from t.count d) (omega (arith, sound.most))
        (omega (arith, c.leaf))

    pub pool_put : Proper e → e.size ≡ 16 + e.leaf → Place e P hs fs i → (P' : List ℕ)
        → P' ≡ put e.size i (pasted (16 + t.within) (part t.from t.count d) (pasted 8 (bytes 8 (recorded R i + 1)) (block e P i))) P
        → P' ≡ puts e.size (λ c. c.block) (write_plan e P R hs fs d offset i) P
    unfolding write_plan put_by puts renewed
    pool_put p fills place P' e' =
        e' ∙ ap (λ (x : List ℕ). put e.size i x P) (block_planned p fills place.block) ∙ rw (← et)

    pub records_put : (R' : List ℕ) → R' ≡ put 12 i (record_of (state R i) (recorded R i + 1)) R
        → R' ≡ puts 12 (λ c. c.line) (write_plan e P R hs fs d offset i) R
    unfolding write_plan put_by puts renewed
    records_put R' e' = e' ∙ rw (← et)

-- a leaf holds no more than a payload
pub leaf_count_lem : (e : Edition) (P R hs : List ℕ) (i : ℕ) → Writable e P R hs i → Counted e P hs i
unfolding most_count
leaf_count_lem e P R hs i g = record { so = λ q. (g.so q).sound.most }
