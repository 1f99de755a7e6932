-- The version rule, slot by slot. What a list of changes that follows the rule makes of a slot is one of three: the slot is as it was; it is
-- live, with block and record at the version after the one recorded before; or it is gone, zeros, with a free record that keeps its version.
use mathlib.Core.Path.{◌≡◌, refl, ap, ◌∙◌}
use mathlib.Core.Bool.{true}
use mathlib.Core.List.{List}
use Prim.Native.Nat.{ℕ, ◌+◌, ◌*◌, ◌^◌, ◌≤◌, ◌<◌}
use native.Mathlib.Omega.{arith}
use lib.ListN.{length, replicate}
use Rattle.meaning.specs.declared.Edition.{Edition}
use Rattle.meaning.specs.Lists.{pick}
use Rattle.meaning.specs.Bytes.{Cell, same_cell, encoded, block, record_of, record_at, state, recorded, sound_record, last_version}
use Rattle.meaning.specs.Tree.{Held, nothing, just}
use Rattle.meaning.specs.Change.{Store, freed, renewed, changed}
use Rattle.laws.proofs.Codec.{recorded_of_lem, state_known, record_kept}
use Rattle.laws.proofs.Inversions.{by_test}
use Rattle.laws.proofs.Puts.{left_by, Then, then_pool, then_records, then_block, then_record}

-- slot x has risen from store S to S': it is live and holds a cell, at the version after its recorded one, in block and record alike
pub record Risen (e : Edition) (S S' : Store) (x : ℕ) : Type 0 where
  pub cell : Cell
  pub now : ℕ
  pub live : 1 ≤ now
  pub known : now ≤ 2
  pub fits : recorded S.records x + 1 < 2 ^ 64
  pub bytes : block e S'.pool x ≡ encoded e cell x (recorded S.records x + 1)
  pub line : record_at S'.records x ≡ record_of now (recorded S.records x + 1)

-- slot x from one store to the next
pub data Stepped (e : Edition) (S S' : Store) (x : ℕ) : Type 0 where
  same : block e S'.pool x ≡ block e S.pool x → record_at S'.records x ≡ record_at S.records x → Stepped e S S' x
  risen : Risen e S S' x → Stepped e S S' x
  gone : block e S'.pool x ≡ replicate e.size 0 → record_at S'.records x ≡ record_of 0 (recorded S.records x) → Stepped e S S' x

-- every slot of a store of N slots
abbrev pub Next : Edition → (N : ℕ) → (S S' : Store) → Type 0
Next e N S S' = (x : ℕ) → x < N → Stepped e S S' x

-- a store of N slots: good lengths, sound records, versions of eight bytes
pub record Settled (e : Edition) (N : ℕ) (S : Store) : Type 0 where
  pub pools : length S.pool ≡ e.size * N
  pub lines : length S.records ≡ 12 * N
  pub sound : (x : ℕ) → x < N → sound_record (record_at S.records x) ≡ true
  pub small : (x : ℕ) → x < N → recorded S.records x < 2 ^ 64

-- the same record has the same state
pub state_same : (R R' : List ℕ) (x : ℕ) → record_at R' x ≡ record_at R x → state R' x ≡ state R x
unfolding state
state_same R R' x p = rw p

-- and the same version
pub recorded_same : (R R' : List ℕ) (x : ℕ) → record_at R' x ≡ record_at R x → recorded R' x ≡ recorded R x
unfolding recorded
recorded_same R R' x p = rw p

-- what is asked of the blocks before and after, where a newly taken slot gets the state taken
pub record Ready (N : ℕ) (R : List ℕ) (taken : ℕ) (old new : ℕ → Held) : Type 0 where
  pub young : (x : ℕ) (c : Cell) → x < N → new x ≡ just c → recorded R x < last_version
  pub lives : (x : ℕ) (c : Cell) → old x ≡ just c → 1 ≤ state R x
  pub live : 1 ≤ taken
  pub known : taken ≤ 2

module _ (e : Edition) (N : ℕ) (S : Store) (is : Settled e N S) (taken : ℕ) (old new : ℕ → Held) (ready : Ready N S.records taken old new) where
  -- what the changes of all slots make of the store
  abbrev pub turned : Store
  turned = Then e N S taken old new is.pools is.lines

  -- a slot that holds a new cell has risen
  rise : (x st : ℕ) (c : Cell) → x < N → 1 ≤ st → st ≤ 2 → new x ≡ just c
      → block e turned.pool x ≡ encoded e c x (recorded S.records x + 1)
      → record_at turned.records x ≡ record_of st (recorded S.records x + 1) → Stepped e S turned x
  unfolding last_version
  rise x st c h live known p b r =
      let young : recorded S.records x < last_version = ready.young x c h p in
      risen (record { cell = c; now = st; live = live; known = known; fits = omega arith; bytes = b; line = r })

  -- by what the slot held and holds
  by_held : (x : ℕ) → x < N → (o n : Held) → old x ≡ o → new x ≡ n
      → block e turned.pool x ≡ left_by (λ c. c.block) (changed e S.records taken x o n) (block e S.pool x)
      → record_at turned.records x ≡ left_by (λ c. c.line) (changed e S.records taken x o n) (record_at S.records x)
      → Stepped e S turned x
  unfolding changed freed renewed left_by pick
  by_held x h nothing nothing p q b r = same b r
  by_held x h nothing (just c) p q b r = rise x taken c h ready.live ready.known q b r
  by_held x h (just d) nothing p q b r = gone b r
  by_held x h (just d) (just c) p q b r =
      by_test (same_cell d c)
      (λ t. same (rw t at b) (rw t at r))
      (λ t. rise x (state S.records x) c h (ready.lives x d p) (state_known S.records x (is.sound x h)) q (rw t at b) (rw t at r))

  -- each slot follows the version rule
  pub turned_next : Next e N S turned
  turned_next x h =
      by_held x h (old x) (new x) refl refl
      (then_block e N S taken old new is.pools is.lines x h) (then_record e N S taken old new is.pools is.lines x h)

  -- a slot's record afterwards is sound, and its version has eight bytes
  line_kept : (x : ℕ) → x < N → Stepped e S turned x → (sound_record (record_at turned.records x) ≡ true) × (recorded turned.records x < 2 ^ 64)
  line_kept x h (same b r) =
      (ap sound_record r ∙ is.sound x h, let v = is.small x h in omega (arith, recorded_same S.records turned.records x r))
  line_kept x h (risen r) =
      let v = recorded S.records x + 1 in (
        ap sound_record r.line ∙ record_kept r.now v r.known r.fits (λ z. omega arith),
        omega (arith, recorded_of_lem turned.records x r.now v r.line r.fits, r.fits),
      )
  line_kept x h (gone b r) =
      let v = is.small x h in (
        ap sound_record r ∙ record_kept 0 (recorded S.records x) (omega arith) v (λ z. absurd (z refl)),
        omega (arith, recorded_of_lem turned.records x 0 (recorded S.records x) r v),
      )

  -- and the store keeps its lengths
  pub turned_settled : Settled e N turned
  turned_settled =
      record {
        pools = then_pool e N S taken old new is.pools is.lines ∙ is.pools;
        lines = then_records e N S taken old new is.pools is.lines ∙ is.lines;
        sound = λ x h. (line_kept x h (turned_next x h)).0;
        small = λ x h. (line_kept x h (turned_next x h)).1;
      }
