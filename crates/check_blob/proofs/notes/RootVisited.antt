-- The visit of a root: checks 2 and 3 and the mark are its one visit, since a root has no check 1, and there is no byte and no leaf before it.
-- So each way out is one of the block visit.
use Rattle.std.specs.Prelude.{Err, Ok}
use mathlib.Core.Path.{◌≡◌}
use mathlib.Core.Bool.{true}
use mathlib.Core.List.{List}
use Prim.Native.Nat.{ℕ, ◌+◌, ◌-◌, ◌*◌, ◌^◌, ◌≤◌, ◌<◌}
use native.Mathlib.Omega.{arith}
use lib.ListN.{length, drop, set}
use Rattle.meaning.specs.Refusals.{Checked}
use Rattle.meaning.specs.Lists.{fours}
use Rattle.meaning.specs.Edition.{Proper}
use Rattle.meaning.specs.Bytes.{block, count_of}
use Rattle.meaning.specs.Walk.{one_visit}
use Rattle.meaning.specs.declared.Edition.{Edition}
use Rattle.meaning.specs.declared.Refusal.{Refusal}
use Rattle.meaning.specs.declared.Role.TheVariants.{Root}
use Rattle.check_blob.specs.visit as visited
use Rattle.check_blob.specs.visit.{Within, marked}
use Rattle.check_blob.proofs.visit.VisitAsDefined.{slot_fits, root_visited}
use Rattle.check_blob.specs.notes.{met, note, notes, BlockStart, RowStart, Walked}
use Rattle.check_blob.proofs.notes.Bounds.{count_data, row_start}
use Rattle.check_blob.proofs.notes.WalkAsDefined.{note_fault, note_leaf, note_inner}

module _ (e : Edition) (p : Proper e) (n : ℕ) (P R seen : List ℕ) (s : ℕ) (start : BlockStart e n P R seen Root s 0 0) where
  -- a root lies in the pool
  root_within : s < n
  unfolding Within
  root_within = start.within

  pub root_in_pool : e.size * s + e.size ≤ length P
  root_in_pool = slot_fits e.size n s P start.sized.pool root_within

  pub root_in_records : 12 * s + 12 ≤ length R
  root_in_records = slot_fits 12 n s R start.sized.records root_within

  pub root_in_flags : s < length seen
  root_in_flags = omega (arith, root_within, start.sized.flags)

  pub root_small : s < 2 ^ 32
  root_small = omega (arith, root_within, start.few, p.small)

  -- c is the answer of its visit, which leaves the flags seen₁
  module _ (h : ℕ) (c : Checked) (seen₁ : List ℕ) (ec : visited.met c (block e P s) seen₁ ≡ marked e P R h true true seen s) where
    once : visited.met c (block e P s) seen₁ ≡ one_visit e n P R h Root true seen s
    once = root_visited e n P R seen h true s (visited.met c (block e P s) seen₁) ec

    pub root_fault : (o : List ℕ) (r : Refusal) → c ≡ Err r → (sx ox : List ℕ)
        → met (Err r) sx ox ≡ note e n P R h Root true seen s 0 0 o
    root_fault o r er sx ox = note_fault e n P R h Root true seen s 0 0 o c seen₁ once r er sx ox

    module _ (pc : c ≡ Ok tt) (blk : List ℕ) (eb : blk ≡ block e P s) (m : ℕ) (em : m ≡ count_of blk) where
      pub root_leaf : (o : List ℕ) → h ≡ 0 → (ox : List ℕ) → ox ≡ set o 0 s → met (Ok (m, 1)) seen₁ ox ≡ note e n P R h Root true seen s 0 0 o
      root_leaf o z ox eo =
          let q : 0 + m ≡ m = omega arith in
          let d = count_data e p n P R seen h Root true s 0 0 start c seen₁ once pc blk eb m em z in
          rw q at (note_leaf e n P R h Root true seen s 0 0 o c seen₁ once pc z m d ox eo)

      pub root_row_lem : (h ≡ 0 → ⊥) → RowStart e n P R seen₁ s 0 m 0 0
      root_row_lem z = row_start e p n P R seen h Root true s 0 0 start c seen₁ once pc blk eb m em z

      pub root_inner : (o : List ℕ) → (h ≡ 0 → ⊥) → (r : Walked) (sx ox : List ℕ)
          → met r sx ox ≡ notes e n P R (h - 1) s true (fours m (drop 16 (block e P s))) seen₁ 0 0 o
          → met r sx ox ≡ note e n P R h Root true seen s 0 0 o
      root_inner o z r sx ox er = note_inner e n P R h Root true seen s 0 0 o c seen₁ once pc z blk eb m em r sx ox er
