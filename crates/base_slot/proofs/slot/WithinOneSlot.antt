-- Bytes put within one slot: to paste at a place of a slot's part is to put the slot with that part pasted into.
use mathlib.Core.Path.{◌≡◌, refl, ap, ◌∙◌, sym}
use mathlib.Core.List.{List, [], ◌∷◌, ◌++◌, append_assoc}
use Prim.Native.Nat.{ℕ, zero, suc, ◌+◌, ◌-◌, ◌*◌, ◌≤◌}
use native.Mathlib.Omega.{arith}
use borrow.Rule.Slice.PartMut.{put_mid}
use lib.ListN.{length, take, drop, take-append-drop}
use lib.Seq.{take-add, take-take, drop-drop}
use Rattle.meaning.specs.Lists.{part, pasted, bytes}
use Rattle.meaning.specs.Bytes.{block}
use Rattle.meaning.specs.Change.{put}
use Rattle.meaning.specs.declared.Edition.{Edition}
use Rattle.laws.proofs.Numbers.{part_length, bytes_length}
use Rattle.laws.proofs.Parts.{pasted_length, take_pasted, drop_pasted, part_pasted, copy_back}

-- the rest of a front, and what is behind the front
rest_joined : (b w : ℕ) (x : List ℕ) → b ≤ w → drop b (take w x) ++ drop w x ≡ drop b x
rest_joined zero w x h = take-append-drop w x
rest_joined (suc b) zero x h = absurd (omega arith)
rest_joined (suc b) (suc w) [] h = refl
rest_joined (suc b) (suc w) (y ∷ x) h = rest_joined b w x (omega arith)

-- bytes pasted inside the part from a on, w long, are that part with the bytes pasted
pub pasted_within : (a k w : ℕ) (new l : List ℕ) → k + length new ≤ w → a + w ≤ length l → pasted (a + k) new l ≡ pasted a (pasted k new (part a w l)) l
unfolding pasted part
pasted_within a k w new l fits long =
    let q : List ℕ = take w (drop a l) in
    let lq : length q ≡ w = part_length a w l long in
    let size : length (take k q ++ (new ++ drop (k + length new) q)) ≡ w = pasted_length k new q (omega arith) ∙ lq in
    let t : take k q ≡ take k (drop a l) = take-take k w (drop a l) (omega arith) in
    let m : a + (k + length new) ≡ a + k + length new = omega arith in
    let r : drop (k + length new) q ++ drop (a + w) l ≡ drop (a + k + length new) l =
    ap (λ (x : List ℕ). drop (k + length new) q ++ x) (sym (drop-drop w a l)) ∙ rest_joined (k + length new) w (drop a l) fits
    ∙ drop-drop (k + length new) a l ∙ ap (λ (i : ℕ). drop i l) m in
    rw (size, t, take-add a k l, ← r) (simp append_assoc)

-- what is pasted over the same place before is gone
pub pasted_over : (a : ℕ) (x y l : List ℕ) → length x ≡ length y → a + length y ≤ length l → pasted a x (pasted a y l) ≡ pasted a x l
unfolding pasted
pasted_over a x y l same fits =
    ap (λ (z : List ℕ). z ++ (x ++ drop (a + length x) (pasted a y l))) (take_pasted a y l fits a (omega arith))
    ∙ ap (λ (z : List ℕ). take a l ++ (x ++ z)) (drop_pasted a y l fits (a + length x) (omega arith))

-- two pastes into one slot, one after the other
module _ (e : Edition) (P : List ℕ) (s : ℕ) (fits : e.size * s + e.size ≤ length P) where
  pub two_stored : (k j : ℕ) (x y P₁ P₂ : List ℕ) → k + length x ≤ e.size → j + length y ≤ e.size
      → P₁ ≡ pasted (e.size * s + k) x P → P₂ ≡ pasted (e.size * s + j) y P₁ → P₂ ≡ put e.size s (pasted j y (pasted k x (block e P s))) P
  unfolding put block
  two_stored k j x y P₁ P₂ hx hy e₁ e₂ =
      let a : ℕ = e.size * s in
      let b : List ℕ = part a e.size P in
      let b₁ : List ℕ = pasted k x b in
      let lb : length b ≡ e.size = part_length a e.size P fits in
      let lb₁ : length b₁ ≡ e.size = pasted_length k x b (omega arith) ∙ lb in
      let lb₂ : length (pasted j y b₁) ≡ e.size = pasted_length j y b₁ (omega arith) ∙ lb₁ in
      let q₁ : P₁ ≡ pasted a b₁ P = e₁ ∙ pasted_within a k e.size x P hx fits in
      let l₁ : length P₁ ≡ length P = ap length q₁ ∙ pasted_length a b₁ P (omega arith) in
      let m : part a e.size P₁ ≡ b₁ =
      ap (part a e.size) q₁ ∙ ap (λ (n : ℕ). part a n (pasted a b₁ P)) (sym lb₁) ∙ part_pasted a b₁ P (omega arith) in
      e₂ ∙ pasted_within a j e.size y P₁ hy (omega arith) ∙ ap (λ (z : List ℕ). pasted a (pasted j y z) P₁) m
      ∙ ap (pasted a (pasted j y b₁)) q₁ ∙ pasted_over a (pasted j y b₁) b₁ P (lb₂ ∙ sym lb₁) (omega arith)

  -- a version, then a lent stretch of the payload that came back filled
  pub stretch_stored : (v within from count : ℕ) (d P₁ ys : List ℕ) → 16 + within + count ≤ e.size → from + count ≤ length d
      → P₁ ≡ pasted (e.size * s + 8) (bytes 8 v) P
      → ys ≡ part from (length (take (e.size * s + 16 + within + count - (e.size * s + 16 + within)) (drop (e.size * s + 16 + within) P₁))) d
      → put_mid (e.size * s + 16 + within) (e.size * s + 16 + within + count - (e.size * s + 16 + within)) P₁ ys
      ≡ put e.size s (pasted (16 + within) (part from count d) (pasted 8 (bytes 8 v) (block e P s))) P
  stretch_stored v within from count d P₁ ys hw hd e₁ ey =
      let l₁ : length P₁ ≡ length P = ap length e₁ ∙ pasted_length (e.size * s + 8) (bytes 8 v) P (omega (arith, bytes_length 8 v)) in
      let k : e.size * s + 16 + within ≡ e.size * s + (16 + within) = omega arith in
      let back = copy_back (e.size * s + 16 + within) count from P₁ d ys (omega arith) hd ey in
      two_stored 8 (16 + within) (bytes 8 v) (part from count d) P₁ _ (omega (arith, bytes_length 8 v)) (omega (arith, part_length from count d hd)) e₁
      (back ∙ ap (λ (i : ℕ). pasted i (part from count d) P₁) k)
