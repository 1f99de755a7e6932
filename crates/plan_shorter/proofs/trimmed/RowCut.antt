-- Each way out of drawing an old block with less, with what the code has there: the first bytes of its payload are those of the cut row.
use mathlib.Core.Path.{◌≡◌, refl, ap, ap₂, ◌∙◌, sym}
use mathlib.Core.List.{List}
use Prim.Native.Nat.{ℕ, zero, suc, ◌+◌, ◌-◌, ◌*◌, ◌^◌, ◌≤◌, min}
use native.Mathlib.Omega.{arith}
use lib.ListN.{length, take, length-take}
use Rattle.meaning.specs.declared.Edition.{Edition}
use Rattle.meaning.specs.Lists.{part, padded}
use Rattle.meaning.specs.Edition.{Proper}
use Rattle.meaning.specs.Bytes.{count_of, data_of, children_of}
use Rattle.meaning.specs.Shape.{up, leaves_for}
use Rattle.meaning.specs.Resize.{share}
use Rattle.laws.proofs.Numbers.{part_length, OfBytes}
use Rattle.laws.proofs.Codec.{items_of}
use Rattle.laws_resize.specs.growth.Cuts.{cut_row}
use Rattle.laws_resize.specs.growth.Forms.{places}
use Rattle.plan_slot.specs.declared.payload.Drawn.{Drawn}
use Rattle.plan_slot.specs.payload.{Draws}
use Rattle.plan_slot.proofs.payload.Cells.{drawn_inner, drawn_leaf, children_count}
use Rattle.plan_slot.proofs.payload.Cells as Cells

module _ (e : Edition) (p : Proper e) where
  -- an old leaf, cut
  pub cut_leaf : (short first : ℕ) (b x₀ x : List ℕ) (count s kept : ℕ) → length x₀ ≡ e.leaf → length b ≡ e.size → count_of b ≤ e.leaf
      → count ≡ count_of b → s ≡ share e short first → kept ≡ min count s → x ≡ padded (length x₀) (part 16 kept b)
      → Draws e (record { height = 0; items = cut_row e short 0 first (data_of b) }) (record { height = 0; count = kept }) x
  unfolding cut_row share
  cut_leaf short first b x₀ x count s kept len whole full is some less drawn =
      let k : kept ≡ min (count_of b) (short - e.leaf * first) = omega arith in
      let row : part 16 kept b ≡ take (short - e.leaf * first) (data_of b) =
      ap (λ (i : ℕ). part 16 i b) k ∙ sym (Cells.cut_leaf b (short - e.leaf * first)) in
      let n : length (part 16 kept b) ≡ kept = part_length 16 kept b (omega (arith, p.fits)) in
      drawn_leaf e p kept (take (short - e.leaf * first) (data_of b)) x (sym n ∙ ap length row) (omega arith)
      (drawn ∙ ap₂ padded len row)

  -- an old inner block, cut
  pub cut_inner : (leaves first h : ℕ) (b x₀ x : List ℕ) (count c : ℕ) → length x₀ ≡ e.leaf → length b ≡ e.size → count_of b ≤ e.fan
      → count ≡ count_of b → c ≡ places e.fan leaves count h first → x ≡ padded (length x₀) (part 16 (4 * c) b) → OfBytes b
      → Draws e (record { height = suc h; items = take (up (leaves - first) (e.fan ^ h)) (children_of b) }) (record { height = h + 1; count = c }) x
  unfolding places
  cut_inner leaves first h b x₀ x count c long whole full is many drawn small =
      let u : ℕ = up (leaves - first) (e.fan ^ h) in
      let k : c ≡ min (count_of b) u = many ∙ ap (λ (i : ℕ). min i u) is in
      let q : length (children_of b) ≡ count_of b = children_count b (omega (arith, p.fits, p.fills)) in
      let n : length (take u (children_of b)) ≡ min u (length (children_of b)) = length-take u (children_of b) in
      drawn_inner e p h c (take u (children_of b)) x (omega arith) (omega arith)
      (drawn ∙ ap₂ (λ (i : ℕ) (j : ℕ). padded i (part 16 (4 * j) b)) long k
      ∙ ap (padded e.leaf) (sym (Cells.cut_inner b u small (omega (arith, p.fits, p.fills)))))

  -- the two, by height
  pub cut_lowest : (short : ℕ) (b x : List ℕ) (h first : ℕ) (d : Drawn) → h ≡ 0
      → Draws e (record { height = 0; items = cut_row e short 0 first (data_of b) }) d x
      → Draws e (record { height = h; items = cut_row e short h first (items_of h b) }) d x
  unfolding cut_row items_of
  cut_lowest short b x zero first d low is = is
  cut_lowest short b x (suc h) first d low is = absurd (omega arith)

  pub cut_higher : (short leaves : ℕ) (b x : List ℕ) (h first : ℕ) (d : Drawn) → (h ≡ 0 → ⊥) → leaves ≡ leaves_for e.leaf short
      → Draws e (record { height = suc (h - 1); items = take (up (leaves - first) (e.fan ^ (h - 1))) (children_of b) }) d x
      → Draws e (record { height = h; items = cut_row e short h first (items_of h b) }) d x
  unfolding cut_row items_of
  cut_higher short leaves b x zero first d tall some is = absurd (tall refl)
  cut_higher short leaves b x (suc h) first d tall some is = let z : suc h - 1 ≡ h = omega arith in rw (z, some) at is
