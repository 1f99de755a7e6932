-- Copying by position: each turn copies one stretch, which lies in one block, behind what is there already.
use mathlib.Core.Path.{◌≡◌, refl, ap, ◌∙◌, sym}
use mathlib.Core.List.{List, ◌++◌}
use Prim.Native.Nat.{ℕ, ◌+◌, ◌-◌, ◌*◌, ◌/◌, ◌%◌, ◌≤◌, ◌<◌, min}
use native.Mathlib.Omega.{arith}
use borrow.Rule.Slice.PartMut.{put_mid}
use lib.ListN.{length, get_or, take, drop}
use mir.Syntax.{w64}
use mir.Val.{Fits}
use lib.Seq.{get_or-take, take_all, length-take-le}
use Rattle.meaning.specs.Lists.{part, pasted}
use Rattle.meaning.specs.Edition.{Proper}
use Rattle.meaning.specs.Bytes.{block}
use Rattle.meaning.specs.declared.Edition.{Edition}
use Rattle.laws.proofs.Numbers.{part_split, part_length}
use Rattle.laws.proofs.Parts.{copy_back, lent_length}
use Rattle.laws.proofs.Building.{take_pasted_to}
use Rattle.laws.proofs.Editions.{within_below}
use Rattle.check_blob.proofs.visit.VisitAsDefined.{slot_fits}
use Rattle.call_read.specs.copy.{spelt, Stretch, Reading}

-- one stretch: m bytes from pos on, which lie in the block of slot s
module _ (e : Edition) (p : Proper e) (n : ℕ) (P row : List ℕ) (k offset pos : ℕ) (out : List ℕ) (g : Reading e n P row k offset (length out))
    (more : pos < length out) (m : ℕ) (em : m ≡ min (e.leaf - (offset + pos) % e.leaf) (length out - pos)) where
  here : Stretch e n P (take k row) (offset + pos) m
  here =
      let w = within_below e p (offset + pos) in
      g.readable.stretch (offset + pos) m (omega (arith, g.fits)) (omega arith) (omega (arith, g.fits))

  pub some_left : pos < pos + m
  some_left = omega (arith, within_below e p (offset + pos))

  pub not_past : pos + m ≤ length out
  not_past = omega arith

  pub start_fits : Fits w64 (16 + (offset + pos) % e.leaf)
  start_fits = record { fits = omega (arith, within_below e p (offset + pos), p.byte) }

  leaf_number : (offset + pos) / e.leaf < k
  leaf_number = omega (arith, here.leaf, length-take-le k row g.leaves)

  pub leaf_in_row : (offset + pos) / e.leaf < length row
  leaf_in_row = omega (arith, leaf_number, g.leaves)

  module _ (s : ℕ) (es : s ≡ get_or row ((offset + pos) / e.leaf) 0) where
    there : get_or (take k row) ((offset + pos) / e.leaf) 0 ≡ s
    there = get_or-take k row ((offset + pos) / e.leaf) 0 leaf_number ∙ sym es

    pub slot_in_pool : e.size * s + e.size ≤ length P
    slot_in_pool = slot_fits e.size n s P g.pool (rw (← there) here.within)

    module _ (b : List ℕ) (eb : b ≡ block e P s) (lb : length b ≡ e.size) where
      pub stretch_in_block : 16 + (offset + pos) % e.leaf + length (take (pos + m - pos) (drop pos out)) ≤ length b
      stretch_in_block = omega (arith, here.room, lent_length pos m out not_past)

      -- what is there then
      pub copied_more : (ys : List ℕ) → take pos out ≡ part offset pos (spelt e P (take k row))
          → ys ≡ part (16 + (offset + pos) % e.leaf) (length (take (pos + m - pos) (drop pos out))) b
          → take (pos + m) (put_mid pos (pos + m - pos) out ys) ≡ part offset (pos + m) (spelt e P (take k row))
      copied_more ys et ey =
          let r : 16 + (offset + pos) % e.leaf + m ≤ length b = omega (arith, here.room) in
          let a = copy_back pos m (16 + (offset + pos) % e.leaf) out b ys not_past r ey in
          let c : part (16 + (offset + pos) % e.leaf) m b ≡ part (offset + pos) m (spelt e P (take k row)) = rw (eb, ← there) here.bytes in
          let new = part (offset + pos) m (spelt e P (take k row)) in
          let d : length new ≡ m = part_length (offset + pos) m (spelt e P (take k row)) (omega (arith, not_past, g.fits)) in
          let f : take (pos + m) (pasted pos new out) ≡ take pos out ++ new =
          ap (λ (j : ℕ). take (pos + j) (pasted pos new out)) (sym d) ∙ take_pasted_to pos new out (omega arith) in
          ap (take (pos + m)) (a ∙ ap (λ (x : List ℕ). pasted pos x out) c)
          ∙ f
          ∙ ap (λ (x : List ℕ). x ++ new) et
          ∙ sym (part_split pos m offset (spelt e P (take k row)))

-- the turns
pub still_reading : (e : Edition) (n : ℕ) (P row : List ℕ) (k offset : ℕ) (out₀ out : List ℕ) → Reading e n P row k offset (length out₀)
    → length out ≡ length out₀ → Reading e n P row k offset (length out)
still_reading e n P row k offset out₀ out g l = rw l g

pub copied_start : (offset : ℕ) (c out : List ℕ) → take 0 out ≡ part offset 0 c
unfolding part
copied_start offset c out = refl

pub copied_all : (offset pos : ℕ) (c out₀ out : List ℕ) → length out ≡ length out₀ → length out ≤ pos → pos ≤ length out₀ → take pos out ≡ part offset pos c
    → out ≡ part offset (length out₀) c
copied_all offset pos c out₀ out l a b e =
    let z : pos ≡ length out₀ = omega arith in
    let t : take pos out ≡ out = take_all pos out (omega arith) in
    sym t ∙ e ∙ rw z
