-- Each way out of the drawing functions, with what the code has there: slots put over zeros, one behind the other, are the payload of the new cell.
use mathlib.Core.Path.{◌≡◌, refl, ap, ◌∙◌, sym}
use mathlib.Core.List.{List, [], ◌∷◌, map}
use Prim.Native.Nat.{ℕ, zero, suc, ◌+◌, ◌-◌, ◌*◌, ◌≤◌}
use native.Mathlib.Numerals.{add-one}
use native.Mathlib.Omega.{arith}
use lib.ListN.{length, get_or, replicate, length-replicate, replicate-append-replicate}
use Rattle.meaning.specs.declared.Edition.{Edition}
use Rattle.meaning.specs.Lists.{joined, bytes, padded, pasted}
use Rattle.meaning.specs.Edition.{Proper}
use Rattle.meaning.specs.Resize.{share}
use Rattle.laws.proofs.Codec.{fours_length, padded_fits}
use Rattle.laws_resize.specs.growth.Forms.{past, every, bulk, places, new_row, fresh_cell, above, new_bytes}
use Rattle.laws_resize.proofs.growth.FormsByCases.{every_length}
use Rattle.plan_slot.specs.declared.payload.Drawn.{Drawn}
use Rattle.plan_slot.specs.payload.{Draws}
use Rattle.plan_slot.proofs.payload.Rows.{over_zeros, slots_more}
use Rattle.plan_slot.proofs.payload.Cells.{drawn_inner, drawn_leaf}

-- a leaf's number of zeros, over zeros
padded_zeros : (m r : ℕ) → r ≤ m → padded m (replicate r 0) ≡ replicate m 0
padded_zeros m r h =
    let n : length (replicate {A = ℕ} r 0) ≡ r = length-replicate r 0 in
    let k : r + (m - length (replicate {A = ℕ} r 0)) ≡ m = omega arith in
    padded_fits m (replicate r 0) (omega arith) ∙ replicate-append-replicate r (m - length (replicate {A = ℕ} r 0)) 0
    ∙ ap (λ (i : ℕ). replicate {A = ℕ} i 0) k

-- children put over zeros
pub slots_first : (m at : ℕ) (new : List ℕ) → at ≡ 0 → 4 * length new ≤ m
    → pasted (4 * at) (joined (map (bytes 4) new)) (replicate m 0) ≡ padded m (joined (map (bytes 4) new))
slots_first m at new z h =
    let k : 4 * at ≡ 0 = omega arith in
    ap (λ (a : ℕ). pasted a (joined (map (bytes 4) new)) (replicate m 0)) k
    ∙ over_zeros m (joined (map (bytes 4) new)) (omega (arith, fours_length new))

module _ (e : Edition) (p : Proper e) where
  -- a new leaf
  pub fresh_leaf : (len n m : ℕ) (free x₀ x : List ℕ) (h j k r : ℕ) → length x₀ ≡ e.leaf → h ≡ 0 → x ≡ replicate (length x₀) 0
      → r ≡ share e len (n + j) → r ≤ e.leaf → Draws e (fresh_cell e.fan m (new_bytes e len n free) free h j k) (record { height = 0; count = r }) x
  unfolding fresh_cell new_bytes
  fresh_leaf len n m free x₀ x (suc h) j k r long z clear is fits = absurd (omega arith)
  fresh_leaf len n m free x₀ x zero j k r long z clear is fits =
      drawn_leaf e p r (replicate (share e len (n + j)) 0) x (is ∙ sym (length-replicate (share e len (n + j)) 0)) fits
      (clear ∙ ap (λ (i : ℕ). replicate {A = ℕ} i 0) long ∙ sym (padded_zeros e.leaf (share e len (n + j)) (omega arith)))

  -- a new inner block
  pub fresh_inner : (f : ℕ → ℕ) (m : ℕ) (free x₀ x₁ x : List ℕ) (h j k c : ℕ) → length x₀ ≡ e.leaf → x₁ ≡ replicate (length x₀) 0
      → c ≡ places e.fan m (e.fan - 0) h j → c ≤ e.fan - 0
      → x ≡ pasted (4 * 0) (joined (map (bytes 4) (every free (bulk e.fan h) c (k + 1)))) x₁
      → Draws e (fresh_cell e.fan m f free (suc h) j k) (record { height = h + 1; count = c }) x
  unfolding fresh_cell new_row
  fresh_inner f m free x₀ x₁ x h j k c long clear many fits is =
      let s = bulk e.fan h in
      let all : e.fan - 0 ≡ e.fan = omega arith in
      let n : length (every free s c (k + 1)) ≡ c = every_length free s c (k + 1) in
      let row : every free s c (k + 1) ≡ every free s (places e.fan m e.fan h j) (suc k) = rw (many, all, add-one k) refl in
      drawn_inner e p h c (every free (bulk e.fan h) (places e.fan m e.fan h j) (suc k)) x (sym n ∙ ap length row) (omega arith)
      (is ∙ ap (pasted (4 * 0) (joined (map (bytes 4) (every free s c (k + 1))))) (clear ∙ ap (λ (i : ℕ). replicate {A = ℕ} i 0) long)
      ∙ slots_first e.leaf 0 (every free s c (k + 1)) refl (omega (arith, p.fills))
      ∙ ap (λ (l : List ℕ). padded e.leaf (joined (map (bytes 4) l))) row)

  -- the same, from one lower
  pub fresh_higher : (f : ℕ → ℕ) (m : ℕ) (free x : List ℕ) (h j k : ℕ) (d : Drawn) → (h ≡ 0 → ⊥)
      → Draws e (fresh_cell e.fan m f free (suc (h - 1)) j k) d x → Draws e (fresh_cell e.fan m f free h j k) d x
  fresh_higher f m free x zero j k d tall is = absurd (tall refl)
  fresh_higher f m free x (suc h) j k d tall is = let z : suc h - 1 ≡ h = omega arith in rw z at is

  -- a root one higher
  pub above_drawn : (f : ℕ → ℕ) (m : ℕ) (free x₀ x₁ x₂ x : List ℕ) (h j b c : ℕ) → length x₀ ≡ e.leaf → x₁ ≡ replicate (length x₀) 0
      → x₂ ≡ pasted (4 * 0) (joined (map (bytes 4) (every free 0 1 b))) x₁
      → c ≡ places e.fan m (e.fan - 1) h j → c ≤ e.fan - 1
      → x ≡ pasted (4 * 1) (joined (map (bytes 4) (every free (bulk e.fan h) c (b + 1)))) x₂
      → Draws e (above e.fan m f free h j b) (record { height = h + 1; count = c + 1 }) x
  unfolding above new_row every
  above_drawn f m free x₀ x₁ x₂ x h j b c long clear one many fits is =
      let s = bulk e.fan h in
      let n : length (every free s c (b + 1)) ≡ c = every_length free s c (b + 1) in
      let row : every free s c (b + 1) ≡ every free s (places e.fan m (e.fan - 1) h j) (suc b) = rw (many, add-one b) refl in
      let first : x₂ ≡ padded e.leaf (joined (map (bytes 4) (get_or free b past ∷ []))) =
      one ∙ ap (pasted (4 * 0) (joined (map (bytes 4) (get_or free b past ∷ [])))) (clear ∙ ap (λ (i : ℕ). replicate {A = ℕ} i 0) long)
      ∙ slots_first e.leaf 0 (get_or free b past ∷ []) refl (omega (arith, p.fills, p.two)) in
      drawn_inner e p h (c + 1) (get_or free b past ∷ every free (bulk e.fan h) (places e.fan m (e.fan - 1) h j) (suc b)) x
      (add-one c ∙ ap suc (sym n ∙ ap length row)) (omega (arith, p.two))
      (is ∙ ap (λ (l : List ℕ). pasted (4 * 1) (joined (map (bytes 4) (every free s c (b + 1)))) l) first
      ∙ slots_more e.leaf (get_or free b past ∷ []) (every free s c (b + 1)) (omega (arith, p.fills, p.two))
      ∙ ap (λ (l : List ℕ). padded e.leaf (joined (map (bytes 4) (get_or free b past ∷ l)))) row)
