-- One stretch, which lies in one leaf: a stretch of the leaf's payload is the blob's piece at that place, and it stands behind what was copied before.
use mathlib.Core.Path.{◌≡◌, refl, ap, ap₂, ◌∙◌, sym}
use mathlib.Core.List.{List, [], ◌∷◌, map}
use Prim.Native.Nat.{ℕ, zero, suc, ◌+◌, ◌-◌, ◌*◌, ◌/◌, ◌%◌, ◌≤◌, ◌<◌, min}
use native.Mathlib.Nat.{add-zero, add-suc, div-add-mod, mul-add-div, mul-add-mod_self_left, div-eq_of_lt, mod-eq_of_lt}
use native.Mathlib.Omega.{arith}
use borrow.Rule.Slice.PartMut.{put_mid}
use lib.ListN.{length, get_or, take, drop, replicate}
use Rattle.meaning.specs.declared.Edition.{Edition}
use Rattle.meaning.specs.Lists.{part, pasted, range}
use Rattle.meaning.specs.Edition.{Proper}
use Rattle.meaning.specs.Bytes.{block}
use Rattle.meaning.specs.Head.{block_at, below, byte_at, piece}
use Rattle.laws.proofs.Parts.{lent_back, lent_length}
use Rattle.laws.proofs.Ranges.{one_by_one}
use Rattle.laws.proofs.Editions.{within_below}
use Rattle.laws.proofs.Pieces.{piece_length}
use Rattle.call_head.specs.copy.{payload_at, Copying, Copied}
use Rattle.call_head.proofs.descend.Descended.{block_read, block_none}

-- of no byte, zeros
none_by_one : (w m : ℕ) → map (λ i. get_or {A = ℕ} [] (16 + i) 0) (range w m) ≡ replicate m 0
unfolding range
none_by_one w zero = refl
none_by_one w (suc m) = ap (λ (x : List ℕ). 0 ∷ x) (none_by_one (suc w) m)

-- a slot, in the pool or not
module _ (e : Edition) (P : List ℕ) (s : ℕ) where
  pub filled_there : Proper e → s < length P / e.size → (w : ℕ) (d b : List ℕ) → w + length d ≤ e.leaf → b ≡ block e P s → length b ≡ e.size
      → (y : List ℕ) → y ≡ part (16 + w) (length d) b → y ≡ payload_at e P s w (length d)
  unfolding payload_at
  filled_there p l w d b h eb lb y ey =
      let r : 16 + w + length d ≤ length b = omega (arith, p.fits) in
      ey ∙ sym (one_by_one (λ i. get_or b (16 + i) 0) 16 b (λ i l. refl) w (length d) r) ∙ rw (block_read e P s l, eb)

  pub filled_gone : length P / e.size ≤ s → (w : ℕ) (d y : List ℕ) → y ≡ replicate (length d) 0 → y ≡ payload_at e P s w (length d)
  unfolding payload_at
  filled_gone l w d y ey = ey ∙ rw (block_none e P s l) (sym (none_by_one w (length d)))

-- a piece within one leaf is a stretch of that leaf's payload
module _ (e : Edition) (P : List ℕ) (some : 1 ≤ e.leaf) (h r : ℕ) where
  byte_in : (j w p : ℕ) → p / e.leaf ≡ j → p % e.leaf ≡ w → byte_at e P h r p ≡ get_or (block_at e P (below e P h r j)) (16 + w) 0
  unfolding byte_at
  byte_in j w p q z = rw (q, z)

  by_leaf : (j w m : ℕ) → w + m ≤ e.leaf → piece e P h r (e.leaf * j + w) m ≡ payload_at e P (below e P h r j) w m
  unfolding piece payload_at range
  by_leaf j w zero l = refl
  by_leaf j w (suc m) l =
      let q : (e.leaf * j + w) / e.leaf ≡ j = mul-add-div some j w ∙ rw (div-eq_of_lt {n = w} {m = e.leaf} (omega arith)) (add-zero j) in
      let z : (e.leaf * j + w) % e.leaf ≡ w = mul-add-mod_self_left e.leaf j w ∙ mod-eq_of_lt {n = w} {m = e.leaf} (omega arith) in
      ap₂ ◌∷◌ (byte_in j w (e.leaf * j + w) q z) (ap (λ (k : ℕ). piece e P h r k m) (sym (add-suc (e.leaf * j) w)) ∙ by_leaf j (suc w) m (omega arith))

  pub stretch_is : (p m : ℕ) → p % e.leaf + m ≤ e.leaf → piece e P h r p m ≡ payload_at e P (below e P h r (p / e.leaf)) (p % e.leaf) m
  stretch_is p m l = ap (λ (k : ℕ). piece e P h r k m) (sym (div-add-mod p e.leaf)) ∙ by_leaf (p / e.leaf) (p % e.leaf) m l

-- one stretch
module _ (e : Edition) (p : Proper e) (P : List ℕ) (h r place pos count : ℕ) (out : List ℕ) (g : Copying place pos count (length out))
    (m : ℕ) (em : m ≡ min (e.leaf - (place + pos) % e.leaf) (count - pos)) where
  some_left : pos < pos + m
  some_left = omega (arith, within_below e p (place + pos))

  not_past : pos + m ≤ count
  not_past = omega arith

  pub end_in : pos + m ≤ length out
  end_in = omega arith

  pub stretch_fits : (place + pos) % e.leaf + length (take (pos + m - pos) (drop pos out)) ≤ e.leaf
  stretch_fits = omega (arith, within_below e p (place + pos), lent_length pos m out end_in)

  stretch_copied : (s : ℕ) → s ≡ below e P h r ((place + pos) / e.leaf) → (y : List ℕ)
      → y ≡ payload_at e P s ((place + pos) % e.leaf) (length (take (pos + m - pos) (drop pos out)))
      → put_mid pos (pos + m - pos) out y ≡ pasted pos (piece e P h r (place + pos) (pos + m - pos)) out
  stretch_copied s es y ey =
      let n = lent_length pos m out end_in in
      let z : pos + m - pos ≡ m = omega arith in
      let l : (place + pos) % e.leaf + m ≤ e.leaf = omega (arith, within_below e p (place + pos)) in
      let a : y ≡ piece e P h r (place + pos) m = ey ∙ rw (n, es) (sym (stretch_is e P p.some h r (place + pos) m l)) in
      lent_back pos m out y (piece e P h r (place + pos) m) a (piece_length e P h r (place + pos) m)
      ∙ ap (λ (k : ℕ). pasted pos (piece e P h r (place + pos) k) out) (sym z)

  pub stretch_done : (s : ℕ) → s ≡ below e P h r ((place + pos) / e.leaf) → (y : List ℕ)
      → y ≡ payload_at e P s ((place + pos) % e.leaf) (length (take (pos + m - pos) (drop pos out)))
      → Copied e P h r place pos count (pos + m) out (put_mid pos (pos + m - pos) out y)
  stretch_done s es y ey = record { more = some_left; most = not_past; bytes = stretch_copied s es y ey }
