-- The slots after a call that turns some cells into others. A slot that holds nothing before and after keeps its bytes; one that holds a cell
-- no more is zeros and free; one that holds a new cell has it written, at the old version plus one; one whose cell is the same keeps its bytes.
-- So what is held afterwards reads so, and every record keeps its layout.
use mathlib.Core.Path.{◌≡◌, refl, ap₂, ◌∙◌, sym, subst}
use mathlib.Core.Bool.{true, false}
use mathlib.Core.List.{List, [], ◌∷◌}
use Prim.Native.Nat.{ℕ, ◌+◌, ◌*◌, ◌^◌, ◌≤◌, ◌<◌}
use native.Mathlib.Omega.{arith}
use borrow.Author.Tests.{eqb-true, eqb-false, eq-eqb}
use lib.Dec.{eqb}
use lib.ListN.{length}
use Rattle.meaning.specs.declared.Edition.{Edition}
use Rattle.meaning.specs.Lists.{pick, zeros, same_list}
use Rattle.meaning.specs.Edition.{Proper}
use Rattle.meaning.specs.Bytes.{Cell, same_cell, block, record_of, record_with, record_at, state, state_of, recorded, sound_record}
use Rattle.meaning.specs.Tree.{Held, nothing, just, held}
use Rattle.meaning.specs.Change.{Store, changed, changed_by, freed, renewed}
use Rattle.meaning.specs.Calls.{become}
use Rattle.laws.proofs.Inversions.{by_test, both_true, same_list_lem, list_zeros, record_sound}
use Rattle.laws.proofs.Codec.{state_of_lem, recorded_of_lem, state_known, record_kept}
use Rattle.laws_resize.proofs.resizing.SlotCounts.{times, times_cons}
use Rattle.laws_sound.proofs.sound.TimesListed.{times_none, times_same, times_other, by_times}
use Rattle.laws.proofs.Every.{Every}
use Rattle.laws_sound.proofs.sound.Cells.{every_at, cell_slots, Reads, Written, Fits, written_reads}
use Rattle.laws.proofs.Puts.{left_by, then_block, then_record}
use Rattle.laws_sound.proofs.sound.Replaced.{Kept, kept_state, kept_reads}

-- from nothing that is something, anything
nothing_just : {A : Type 0} {c : Cell} → nothing ≡ just c → A
nothing_just h = let z : ◌≡◌ {A = ℕ} 0 1 = cc in absurd (omega arith)

-- a slot that is not among cells holds nothing
pub held_none : (cs : List (ℕ × Cell)) (s : ℕ) → times s (cell_slots cs) ≡ 0 → held cs s ≡ nothing
unfolding held pick cell_slots
held_none [] s h = refl
held_none (c ∷ cs) s h =
    by_test (eqb c.0 s)
    (λ t. absurd (omega (arith, times_cons s c.0 (cell_slots cs), times_same s c.0 (eqb-true c.0 s t))))
    (λ t. rw t (held_none cs s (omega (arith, times_cons s c.0 (cell_slots cs)))))

-- one that is holds a cell
pub held_some : (cs : List (ℕ × Cell)) (s : ℕ) → 1 ≤ times s (cell_slots cs) → (c : Cell) × (held cs s ≡ just c)
unfolding held pick cell_slots
held_some [] s h = absurd (omega (arith, times_none s))
held_some (c ∷ cs) s h =
    by_test (eqb c.0 s)
    (λ t. (c.1, rw t))
    (λ t.
    let r = held_some cs s (omega (arith, times_cons s c.0 (cell_slots cs), times_other s c.0 (eqb-false c.0 s t))) in
    (r.0, rw t r.1))

-- a slot that holds a cell is among them
pub held_there : (cs : List (ℕ × Cell)) (s : ℕ) (c : Cell) → held cs s ≡ just c → 1 ≤ times s (cell_slots cs)
held_there cs s c h = by_times s (cell_slots cs) (λ k. k) (λ z. nothing_just (sym (held_none cs s z) ∙ h))

-- what is claimed of each cell is claimed of what a slot holds
pub held_every : (Q : ℕ × Cell → Type 0) (cs : List (ℕ × Cell)) (s : ℕ) (c : Cell) → Every Q cs → held cs s ≡ just c → Q (s, c)
unfolding held pick
held_every Q [] s c q h = nothing_just h
held_every Q (d ∷ cs) s c q h =
    by_test (eqb d.0 s)
    (λ t.
    let k : just d.1 ≡ just c = rw t at h in
    let same : d.1 ≡ c = cc in
    subst Q (ap₂ (λ (a : ℕ) (b : Cell). (a, b)) (eqb-true d.0 s t) same) q.0)
    (λ t. held_every Q cs s c q.1 (rw t at h))

-- cells of distinct slots are held at them
pub held_own : (cs : List (ℕ × Cell)) → ((s : ℕ) → times s (cell_slots cs) ≤ 1) → Every (λ c. held cs c.0 ≡ just c.1) cs
unfolding held pick cell_slots
held_own [] once = tt
held_own (c ∷ cs) once =
    let step : (s : ℕ) → times s (c.0 ∷ cell_slots cs) ≡ times s (c.0 ∷ []) + times s (cell_slots cs) = λ s. times_cons s c.0 (cell_slots cs) in (
      rw (eq-eqb c.0 c.0 refl),
      every_at {Q = λ d. held cs d.0 ≡ just d.1} {S = λ d. held (c ∷ cs) d.0 ≡ just d.1} cs
          (λ d h q. by_test (eqb c.0 d.0)
          (λ t. absurd (omega (arith, once d.0, step d.0, times_same d.0 c.0 (eqb-true c.0 d.0 t))))
          (λ t. rw t q))
          (held_own cs (λ s. omega (arith, once s, step s))),
    )

-- two cells that are found the same are the same
pub same_cell_lem : (a b : Cell) → same_cell a b ≡ true → a ≡ b
unfolding same_cell
same_cell_lem a b h =
    let k = both_true (eqb a.height b.height) (same_list a.items b.items) h in
    ap₂ (λ (h : ℕ) (r : List ℕ). record { height = h; items = r }) (eqb-true a.height b.height k.0) (same_list_lem a.items b.items k.1)

-- a written record of a free slot keeps its layout, whatever its version
pub free_sound : (v : ℕ) → sound_record (record_of 0 v) ≡ true
unfolding record_of record_with state_of
free_sound v = record_sound (record_of 0 v) (record { mark = refl; state = omega arith; fourth = refl; live = λ n. absurd (n refl) })

-- a store of N slots in which the cells of old become those of new
module _ (e : Edition) (N : ℕ) (S : Store) (taken : ℕ) (old new : List (ℕ × Cell)) where
  -- the store after
  abbrev pub Next : Store
  Next = changed_by e (become e N S.pool S.records taken old new) S

  -- the store's lengths are right, and the new cells fit
  pub record Ready : Type 0 where
    pub proper : Proper e
    pub few : N ≤ 2 ^ 32
    pub whole : length S.pool ≡ e.size * N
    pub lines : length S.records ≡ 12 * N
    pub fits : Every (λ c. Fits e c.1) new

  module _ (d : Ready) (s : ℕ) (low : s < N) where
    -- the slot's block after
    block_after : block e Next.pool s
        ≡ left_by (λ c. c.block) (changed e S.records taken s (held old s) (held new s)) (block e S.pool s)
    unfolding become
    block_after = then_block e N S taken (held old) (held new) d.whole d.lines s low

    -- and its record
    record_after : record_at Next.records s
        ≡ left_by (λ c. c.line) (changed e S.records taken s (held old s) (held new s)) (record_at S.records s)
    unfolding become
    record_after = then_record e N S taken (held old) (held new) d.whole d.lines s low

    -- held before and after: nothing
    pub nothing_kept : held old s ≡ nothing → held new s ≡ nothing → Kept e S.pool S.records Next.pool Next.records s
    unfolding left_by changed
    nothing_kept o n = record { bytes = rw (o, n) at block_after; line = rw (o, n) at record_after }

    -- a cell, then nothing
    pub freed_after : (b : Cell) → held old s ≡ just b → held new s ≡ nothing
        → (state Next.records s ≡ 0) × (zeros (block e Next.pool s) ≡ true)
    unfolding left_by changed freed
    freed_after b o n = (
      state_of_lem Next.records s 0 (recorded S.records s) (rw (o, n) at record_after),
      rw (rw (o, n) at block_after) (list_zeros e.size),
    )

    -- nothing, then a cell
    pub taken_after : (c : Cell) → recorded S.records s + 1 < 2 ^ 64 → held old s ≡ nothing → held new s ≡ just c
        → Written e N Next.pool Next.records (s, c) × (state Next.records s ≡ taken)
    unfolding left_by changed renewed
    taken_after c y o n =
        let l : record_at Next.records s ≡ record_of taken (recorded S.records s + 1) = rw (o, n) at record_after in
        let v = recorded_of_lem Next.records s taken (recorded S.records s + 1) l y in (
          record { within = low; young = omega arith; bytes = rw v (rw (o, n) at block_after) },
          state_of_lem Next.records s taken (recorded S.records s + 1) l,
        )

    -- the same cell
    pub same_kept : (b c : Cell) → same_cell b c ≡ true → held old s ≡ just b → held new s ≡ just c
        → Kept e S.pool S.records Next.pool Next.records s
    unfolding left_by changed pick
    same_kept b c q o n = record { bytes = rw (o, n, q) at block_after; line = rw (o, n, q) at record_after }

    -- another cell
    pub renewed_after : (b c : Cell) → same_cell b c ≡ false → recorded S.records s + 1 < 2 ^ 64 → held old s ≡ just b → held new s ≡ just c
        → Written e N Next.pool Next.records (s, c) × (state Next.records s ≡ state S.records s)
    unfolding left_by changed pick renewed
    renewed_after b c q y o n =
        let l : record_at Next.records s ≡ record_of (state S.records s) (recorded S.records s + 1) = rw (o, n, q) at record_after in
        let v = recorded_of_lem Next.records s (state S.records s) (recorded S.records s + 1) l y in (
          record { within = low; young = omega arith; bytes = rw v (rw (o, n, q) at block_after) },
          state_of_lem Next.records s (state S.records s) (recorded S.records s + 1) l,
        )

    -- a slot that held a cell and holds one keeps its state
    pub state_kept : recorded S.records s + 1 < 2 ^ 64 → 1 ≤ times s (cell_slots old) → 1 ≤ times s (cell_slots new)
        → state Next.records s ≡ state S.records s
    state_kept y h k =
        let o = held_some old s h in
        let n = held_some new s k in
        by_test (same_cell o.0 n.0)
        (λ t. kept_state e N S.pool S.records Next.pool Next.records s (same_kept o.0 n.0 t o.1 n.1))
        (λ t. (renewed_after o.0 n.0 t y o.1 n.1).1)

    -- a slot that held nothing and holds a cell gets the state of a taken one
    pub state_taken : recorded S.records s + 1 < 2 ^ 64 → times s (cell_slots old) ≡ 0 → 1 ≤ times s (cell_slots new)
        → state Next.records s ≡ taken
    state_taken y h k = let n = held_some new s k in (taken_after n.0 y (held_none old s h) n.1).1

    -- what is held afterwards reads so
    pub reads_after : (c : Cell) → recorded S.records s + 1 < 2 ^ 64 → held new s ≡ just c → Every (Reads e N S.pool S.records) old
        → Reads e N Next.pool Next.records (s, c)
    reads_after c y n was =
        let fits = held_every (λ c. Fits e c.1) new s c d.fits n in
        let written = written_reads e d.proper N Next.pool Next.records d.few (s, c) fits in
        by_times s (cell_slots old)
        (λ h.
        let o = held_some old s h in
        by_test (same_cell o.0 c)
        (λ t. subst (λ x. Reads e N Next.pool Next.records (s, x)) (same_cell_lem o.0 c t)
        (kept_reads e N S.pool S.records Next.pool Next.records (s, o.0) (same_kept o.0 c t o.1 n)
        (held_every (Reads e N S.pool S.records) old s o.0 was o.1)))
        (λ t. written (renewed_after o.0 c t y o.1 n).0))
        (λ h. written (taken_after c y (held_none old s h) n).0)

    -- its record keeps its layout
    pub sound_after : taken ≤ 2 → (1 ≤ times s (cell_slots new) → recorded S.records s + 1 < 2 ^ 64)
        → sound_record (record_at S.records s) ≡ true → sound_record (record_at Next.records s) ≡ true
    unfolding left_by changed pick renewed freed
    sound_after few young was =
        rw record_after (go (held old s) (held new s) (λ c h. young (held_there new s c h)))
      where
        next : (st : ℕ) → st ≤ 2 → recorded S.records s + 1 < 2 ^ 64 → sound_record (record_of st (recorded S.records s + 1)) ≡ true
        next st few y = record_kept st (recorded S.records s + 1) few y (λ n. omega arith)

        go : (o n : Held) → ((c : Cell) → n ≡ just c → recorded S.records s + 1 < 2 ^ 64)
            → sound_record (left_by (λ c. c.line) (changed e S.records taken s o n) (record_at S.records s)) ≡ true
        go nothing nothing y = was
        go nothing (just c) y = next taken few (y c refl)
        go (just b) nothing y = free_sound (recorded S.records s)
        go (just b) (just c) y =
            by_test (same_cell b c) (λ t. rw t was) (λ t. rw t (next (state S.records s) (state_known S.records s was) (y c refl)))
