-- A turn carried out, case by case: what is stored of a slot is what the turn says, nothing or one change.
use mathlib.Core.Path.{◌≡◌, ◌∙◌}
use mathlib.Core.List.{List}
use Prim.Native.Nat.{ℕ, ◌+◌, ◌-◌, ◌^◌, ◌<◌}
use native.Mathlib.Omega.{arith}
use mir.Syntax.{w64}
use mir.Val.{Fits}
use lib.ListN.{replicate}
use Rattle.meaning.specs.Bytes.{block_bytes, record_at, record_of, state_of, recorded_of, recorded, last_version}
use Rattle.meaning.specs.Change.{put, puts, freed}
use Rattle.meaning.specs.declared.Edition.{Edition}
use Rattle.laws.proofs.Codec.{state_is, version_is}
use Rattle.plan_slot.specs.declared.payload.Drawn.{Drawn}
use Rattle.plan_slot.specs.declared.turn.Turn.{Turn}
use Rattle.plan_slot.specs.declared.turn.Turn.TheVariants.{Stays, Goes, Takes, Renews}
use Rattle.plan_slot.specs.turn.{stored, turned, Rises}

-- slot s, whose record is line
module _ (R : List ℕ) (s : ℕ) (line : List ℕ) (el : line ≡ record_at R s) where
  -- a version that may rise has room for one more
  module _ (t : Turn) (v : ℕ) (ev : v ≡ recorded_of line) (r : Rises t (recorded R s)) (d : Drawn) where
    pub takes_fits : t ≡ Takes d → Fits w64 (v + 1)
    unfolding Rises last_version
    takes_fits q = let z : recorded R s < 2 ^ 64 - 1 = rw q at r in let y = version_is R s line el v ev in record { fits = omega arith }

    pub renews_fits : t ≡ Renews d → Fits w64 (v + 1)
    unfolding Rises last_version
    renews_fits q = let z : recorded R s < 2 ^ 64 - 1 = rw q at r in let y = version_is R s line el v ev in record { fits = omega arith }

-- carried out
module _ (e : Edition) (R : List ℕ) (s : ℕ) (t : Turn) (x : List ℕ) where
  -- nothing is stored
  pub stays_pool : t ≡ Stays → (P : List ℕ) → P ≡ puts e.size (λ c. c.block) (turned e R s t x) P
  unfolding turned puts
  stays_pool q P = rw q

  pub stays_records : t ≡ Stays → R ≡ puts 12 (λ c. c.line) (turned e R s t x) R
  unfolding turned puts
  stays_records q = rw q

  -- a block goes
  pub goes_pool : t ≡ Goes → (P P' : List ℕ) → P' ≡ put e.size s (replicate e.size 0) P → P' ≡ puts e.size (λ c. c.block) (turned e R s t x) P
  unfolding turned puts freed
  goes_pool q P P' ep = ep ∙ rw q

  module _ (line : List ℕ) (el : line ≡ record_at R s) (v : ℕ) (ev : v ≡ recorded_of line) where
    pub goes_records : t ≡ Goes → (R' : List ℕ) → R' ≡ put 12 s (record_of 0 v) R → R' ≡ puts 12 (λ c. c.line) (turned e R s t x) R
    unfolding turned puts freed
    goes_records q R' er = er ∙ rw (q, version_is R s line el v ev)

    -- a slot is taken
    pub takes_pool : (d : Drawn) → t ≡ Takes d → (P P' : List ℕ) → P' ≡ put e.size s (block_bytes e d.height d.count s (v + 1) x) P
        → P' ≡ puts e.size (λ c. c.block) (turned e R s t x) P
    unfolding turned puts stored
    takes_pool d q P P' ep = ep ∙ rw (q, version_is R s line el v ev)

    pub takes_records : (d : Drawn) → t ≡ Takes d → (R' : List ℕ) → R' ≡ put 12 s (record_of 1 (v + 1)) R
        → R' ≡ puts 12 (λ c. c.line) (turned e R s t x) R
    unfolding turned puts stored
    takes_records d q R' er = er ∙ rw (q, version_is R s line el v ev)

    -- a block is renewed
    pub renews_pool : (d : Drawn) → t ≡ Renews d → (P P' : List ℕ) → P' ≡ put e.size s (block_bytes e d.height d.count s (v + 1) x) P
        → P' ≡ puts e.size (λ c. c.block) (turned e R s t x) P
    unfolding turned puts stored
    renews_pool d q P P' ep = ep ∙ rw (q, version_is R s line el v ev)

    pub renews_records : (st : ℕ) → st ≡ state_of line → (d : Drawn) → t ≡ Renews d → (R' : List ℕ) → R' ≡ put 12 s (record_of st (v + 1)) R
        → R' ≡ puts 12 (λ c. c.line) (turned e R s t x) R
    unfolding turned puts stored
    renews_records st es d q R' er = er ∙ rw (q, version_is R s line el v ev, state_is R s line el st es)
