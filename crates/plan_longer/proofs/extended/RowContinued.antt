-- Each way out of drawing an old block with more, with what the code has there: its own row, copied, with zeros or new slots behind, is the payload
-- of the grown cell.
use mathlib.Core.Path.{◌≡◌, refl, ap, ap₂, ◌∙◌, sym}
use mathlib.Core.List.{List, [], ◌++◌, map}
use Prim.Native.Nat.{ℕ, zero, suc, ◌+◌, ◌-◌, ◌*◌, ◌≤◌}
use native.Mathlib.Omega.{arith}
use lib.ListN.{length, length-append}
use Rattle.meaning.specs.declared.Edition.{Edition}
use Rattle.meaning.specs.Lists.{part, joined, bytes, padded, pasted}
use Rattle.meaning.specs.Edition.{Proper}
use Rattle.meaning.specs.Bytes.{count_of, data_of, children_of}
use Rattle.meaning.specs.Shape.{leaves_for}
use Rattle.meaning.specs.Resize.{share}
use Rattle.laws.proofs.Numbers.{part_length, OfBytes}
use Rattle.laws.proofs.Codec.{padded_length, items_of}
use Rattle.laws_resize.specs.growth.Forms.{every, bulk, places, room, space, new_row, new_leaves, grown_row}
use Rattle.laws_resize.proofs.growth.FormsByCases.{every_length}
use Rattle.plan_slot.specs.declared.payload.Drawn.{Drawn}
use Rattle.plan_slot.specs.payload.{Draws}
use Rattle.plan_slot.proofs.payload.Rows.{slots_more, padded_twice}
use Rattle.plan_slot.proofs.payload.Cells.{drawn_inner, drawn_leaf, children_count, payload_inner}

-- what is copied is as long as what was there
pub copied_long : (m : ℕ) (x₀ x new : List ℕ) → length x₀ ≡ m → x ≡ padded (length x₀) new → length x ≡ m
copied_long m x₀ x new long is = ap length is ∙ padded_length (length x₀) new ∙ long

-- the new children beside old ones, with the numbers that code has
pub many_beside : (fan m c h n r k : ℕ) → r ≡ room fan h n → k ≡ places fan m c h r → k ≡ places fan m c h (room fan h n)
many_beside fan m c h n r k there many = cc

pub put_beside : (fan h n at s c k : ℕ) (free x₀ x : List ℕ) → s ≡ bulk fan h → k ≡ space fan h n
    → x ≡ pasted (4 * at) (joined (map (bytes 4) (every free s c k))) x₀
    → x ≡ pasted (4 * at) (joined (map (bytes 4) (every free (bulk fan h) c (space fan h n)))) x₀
put_beside fan h n at s c k free x₀ x step there is = cc

module _ (e : Edition) (p : Proper e) where
  -- an old leaf, filled with zeros
  pub grown_leaf : (long first : ℕ) (b x₀ x : List ℕ) (r count : ℕ) → length x₀ ≡ e.leaf → length b ≡ e.size → count_of b ≤ share e long first
      → r ≡ share e long first → r ≤ e.leaf → count ≡ count_of b → x ≡ padded (length x₀) (part 16 count b)
      → Draws e (record { height = 0; items = padded (share e long first) (data_of b) }) (record { height = 0; count = r }) x
  unfolding data_of
  grown_leaf long first b x₀ x r count len whole kept many fits is drawn =
      let n : length (part 16 (count_of b) b) ≡ count_of b = part_length 16 (count_of b) b (omega (arith, p.fits)) in
      drawn_leaf e p r (padded (share e long first) (part 16 (count_of b) b)) x
      (many ∙ sym (padded_length (share e long first) (part 16 (count_of b) b))) fits
      (drawn ∙ ap₂ (λ (k : ℕ) (i : ℕ). padded k (part 16 i b)) len is
      ∙ sym (padded_twice e.leaf (share e long first) [] (part 16 (count_of b) b) (omega arith) (omega arith)))

  -- an old inner block, with new children behind its own
  pub grown_inner : (len n m : ℕ) (free b x₀ x₁ x : List ℕ) (h count c r k : ℕ) → length x₀ ≡ e.leaf → length b ≡ e.size → count_of b ≤ e.fan
      → m ≡ leaves_for e.leaf len - n → count ≡ count_of b → x₁ ≡ padded (length x₀) (part 16 (4 * count) b) → OfBytes b
      → r ≡ room e.fan h n → k ≡ space e.fan h n → c ≡ places e.fan m (e.fan - count) h r → c ≤ e.fan - count
      → x ≡ pasted (4 * count) (joined (map (bytes 4) (every free (bulk e.fan h) c k))) x₁
      → Draws e (record { height = suc h; items = grown_row e len n free (suc h) 0 (children_of b) }) (record { height = h + 1; count = count + c }) x
  unfolding grown_row new_row new_leaves
  grown_inner len n m free b x₀ x₁ x h count c r k long whole full more is old small there from many fits drawn =
      let new = every free (bulk e.fan h) c (space e.fan h n) in
      let own : length (children_of b) ≡ count = children_count b (omega (arith, p.fits, p.fills)) ∙ sym is in
      let q : length new ≡ c = every_length free (bulk e.fan h) c (space e.fan h n) in
      let row : c ≡ places e.fan (leaves_for e.leaf len - n) (e.fan - length (children_of b)) h (room e.fan h n) = cc in
      let front : x₁ ≡ padded e.leaf (joined (map (bytes 4) (children_of b))) =
      old ∙ ap₂ (λ (i : ℕ) (j : ℕ). padded i (part 16 (4 * j) b)) long is
      ∙ ap (padded e.leaf) (sym (payload_inner b small (omega (arith, p.fits, p.fills)))) in
      rw (← row)
      (drawn_inner e p h (count + c) (children_of b ++ new) x (ap₂ ◌+◌ (sym own) (sym q) ∙ sym (length-append (children_of b) new)) (omega arith)
      (drawn ∙ ap (λ (i : ℕ). pasted (4 * count) (joined (map (bytes 4) (every free (bulk e.fan h) c i))) x₁) from
      ∙ ap₂ (λ (i : ℕ) (l : List ℕ). pasted (4 * i) (joined (map (bytes 4) new)) l) (sym own) front
      ∙ slots_more e.leaf (children_of b) new (omega (arith, p.fills))))

  -- the two, by height
  pub grown_lowest : (len n : ℕ) (free b x : List ℕ) (h first : ℕ) (d : Drawn) → h ≡ 0
      → Draws e (record { height = 0; items = padded (share e len first) (data_of b) }) d x
      → Draws e (record { height = h; items = grown_row e len n free h first (items_of h b) }) d x
  unfolding grown_row items_of
  grown_lowest len n free b x zero first d low is = is
  grown_lowest len n free b x (suc h) first d low is = absurd (omega arith)

  pub grown_higher : (len n : ℕ) (free b x : List ℕ) (h first : ℕ) (d : Drawn) → (h ≡ 0 → ⊥)
      → Draws e (record { height = suc (h - 1); items = grown_row e len n free (suc (h - 1)) 0 (children_of b) }) d x
      → Draws e (record { height = h; items = grown_row e len n free h first (items_of h b) }) d x
  unfolding grown_row items_of
  grown_higher len n free b x zero first d tall is = absurd (tall refl)
  grown_higher len n free b x (suc h) first d tall is = let z : suc h - 1 ≡ h = omega arith in rw z at is

  -- what the lower one asks
  pub low_share : (h c s : ℕ) → h ≡ 0 → (h ≡ 0 → c ≤ s) → c ≤ s
  low_share h c s low few = few low
