-- The room and the space of a whole tree, without a sum over heights: a tree of height h and n leaves has room for fan ^ h - n leaves more, and
-- for as many
-- blocks as a full tree has more than it. So the new leaf and the new block with which the root begins to rise, and those of each further height, are
-- differences: fan ^ h - n, and bulk h less the block total of n.
use mathlib.Core.Path.{◌≡◌, sym, ap, ◌∙◌}
use Prim.Native.Nat.{ℕ, zero, suc, ◌+◌, ◌-◌, ◌*◌, ◌/◌, ◌%◌, ◌^◌, ◌≤◌, ◌<◌}
use native.Mathlib.Nat.{pow-zero, pow-suc, pow-succ', one-le-pow, mul_assoc, mul-suc, mul-zero, div-add-mod, mod-lt, div-lt_iff_lt-mul}
use native.Mathlib.Omega.{arith}
use Rattle.meaning.specs.declared.Edition.{Edition}
use Rattle.meaning.specs.Shape.{up, height_for, total, Shaped}
use Rattle.meaning.specs.Tree.{Blob, leaves_of}
use lib.ListN.{length}
use Rattle.laws.proofs.Totals.{up_full, by_share, total_small, total_more}
use Rattle.laws.proofs.Heights.{height_enough, height_small, height_more}
use Rattle.laws.proofs.Shapes.{shaped_height}
use Rattle.laws.proofs.Positions.{leaf_some}
use Rattle.laws.proofs.Levels.{levels, levels_zero, levels_suc, levels_none, levels_add, levels_top}
use Rattle.laws_resize.specs.growth.Forms.{bulk, last_children, room, space}
use Rattle.laws_resize.proofs.growth.Rooms.{last_children_lem}

module _ (fan : ℕ) (two : 2 ≤ fan) where
  -- a full tree's blocks, by its leaves
  bulk_next : (h : ℕ) → bulk fan (suc h) ≡ fan ^ suc h + bulk fan h
  unfolding bulk
  bulk_next zero = rw (pow-succ', pow-zero) (omega arith)
  bulk_next (suc h) = rw (pow-succ' fan (suc h)) (omega (arith, ap (λ (n : ℕ). fan * n) (bulk_next h)))

  -- row by row
  bulk_levels : (h : ℕ) → levels fan h (fan ^ h) ≡ bulk fan h
  unfolding bulk
  bulk_levels zero = levels_zero fan (fan ^ 0) ∙ pow-zero fan
  bulk_levels (suc h) =
      let u : up (fan ^ suc h) fan ≡ fan ^ h = ap (λ (n : ℕ). up n fan) (pow-succ' fan h) ∙ up_full fan (fan ^ h) (omega arith) in
      levels_suc fan h (fan ^ suc h) ∙ rw (u, bulk_levels h) (sym (bulk_next h))

  -- and of so many side by side
  full_levels : (h a : ℕ) → levels fan h (fan ^ h * a) ≡ a * bulk fan h
  full_levels h zero = let z : fan ^ h * 0 ≡ 0 = mul-zero (fan ^ h) in rw z (omega (arith, levels_none fan h two))
  full_levels h (suc a) =
      let z : fan ^ h * suc a ≡ fan ^ h * 1 + fan ^ h * a = omega (arith, mul-suc (fan ^ h) a) in
      let y : fan ^ h * 1 ≡ fan ^ h = omega arith in
      ap (levels fan h) z ∙ levels_add fan h 1 (fan ^ h * a) two
      ∙ rw y (omega (arith, bulk_levels h, full_levels h a))

-- a tree of the least height has the block total
pub total_by_height : (fan : ℕ) → 2 ≤ fan → (n : ℕ) → levels fan (height_for fan n) n ≡ total fan n
total_by_height fan two =
    by_share (λ n. levels fan (height_for fan n) n ≡ total fan n) fan two
    (λ n few. rw (height_small fan n two few) (levels_zero fan n ∙ sym (total_small fan n few)))
    (λ n more rest. rw (height_more fan n two more, levels_suc, rest) (sym (total_more fan n two more)))

-- one of fan apart
one_less : (fan : ℕ) → 2 ≤ fan → fan ≡ suc (fan - 1)
one_less fan two = omega arith

-- trees of any edition
module _ (e : Edition) (some : 1 ≤ e.leaf) (two : 2 ≤ e.fan) where
  -- a tree with c leaves, after so many full ones
  abbrev pub Whole : ℕ → Type 0
  Whole h = (q c : ℕ) → 1 ≤ c → c ≤ e.fan ^ h → (room e.fan h (e.fan ^ h * q + c) + c ≡ e.fan ^ h)
      × (space e.fan h (e.fan ^ h * q + c) + levels e.fan h c ≡ bulk e.fan h)

  -- one height more, where a children are full and the last has d leaves
  whole_next : (h : ℕ) → Whole h → (q a d : ℕ) → a < e.fan → 1 ≤ d → d ≤ e.fan ^ h
      → (room e.fan (suc h) (e.fan ^ suc h * q + (e.fan ^ h * a + d)) + (e.fan ^ h * a + d) ≡ e.fan ^ suc h)
      × (space e.fan (suc h) (e.fan ^ suc h * q + (e.fan ^ h * a + d)) + levels e.fan (suc h) (e.fan ^ h * a + d) ≡ bulk e.fan (suc h))
  unfolding room space bulk
  whole_next h each q a d few low high =
      let f = e.fan ^ h in
      let n = e.fan ^ suc h * q + (f * a + d) in
      let p = pow-suc e.fan h in
      let pq = ap (λ (x : ℕ). x * q) p in
      let here : n ≡ f * (e.fan * q + a) + d = omega (arith, mul_assoc f e.fan q) in
      let there : n ≡ e.fan ^ suc h * q + f * a + d = omega arith in
      let l : last_children e.fan h n ≡ suc a = ap (last_children e.fan h) there ∙ last_children_lem e some two h q a d few low high in
      let i = each (e.fan * q + a) d low high in
      let r : room e.fan h n + d ≡ f = ap (λ (x : ℕ). room e.fan h x + d) here ∙ i.0 in
      let s : space e.fan h n + levels e.fan h d ≡ bulk e.fan h = ap (λ (x : ℕ). space e.fan h x + levels e.fan h d) here ∙ i.1 in
      let z : e.fan ≡ a + suc (e.fan - suc a) = omega arith in
      let zf = ap (λ (x : ℕ). x * f) z in
      let zb = ap (λ (x : ℕ). x * bulk e.fan h) z in
      let fits : f * a + d ≤ e.fan ^ suc h = omega arith in
      let top = levels_top e.fan h (f * a + d) two (omega arith) fits in (
        rw l (omega arith),
        rw l (omega (arith, levels_add e.fan h a d two, full_levels e.fan two h a)),
      )

  -- so it is at every height
  pub whole : (h : ℕ) → Whole h
  unfolding room space bulk
  whole zero q c low high = (omega (arith, pow-zero e.fan), omega (arith, pow-zero e.fan, levels_zero e.fan c))
  whole (suc h) q c low high =
      let f = e.fan ^ h in
      let a = (c - 1) / f in
      let d = suc ((c - 1) % f) in
      let one = one-le-pow h e.fan (omega arith) in
      let is : c ≡ f * a + d = omega (arith, div-add-mod (c - 1) f) in
      let few : a < e.fan = (div-lt_iff_lt-mul {k = f} {x = c - 1} {y = e.fan} one).1 (omega (arith, pow-succ' e.fan h)) in
      rw is (whole_next h (whole h) q a d few (omega arith) (omega (arith, mod-lt (c - 1) one)))

  -- of a shaped blob: the new leaf and the new block with which its root begins to rise
  module _ (b : Blob) (shaped : Shaped e b) where
    -- its room, and its block total, make a full tree
    pub blob_whole : (room e.fan b.height (length (leaves_of b)) + length (leaves_of b) ≡ e.fan ^ b.height)
        × (space e.fan b.height (length (leaves_of b)) + total e.fan (length (leaves_of b)) ≡ bulk e.fan b.height)
    blob_whole =
        let n = length (leaves_of b) in
        let tall = shaped_height e some two b shaped in
        let fits : n ≤ e.fan ^ b.height = omega (arith, height_enough e.fan n two, ap (λ (h : ℕ). e.fan ^ h) tall) in
        let w = whole b.height 0 n (leaf_some e some two b shaped) fits in
        let z : e.fan ^ b.height * 0 + n ≡ n = omega arith in
        let t : levels e.fan b.height n ≡ total e.fan n = ap (λ (h : ℕ). levels e.fan h n) tall ∙ total_by_height e.fan two n in
        let r : room e.fan b.height n + n ≡ e.fan ^ b.height = rw z at w.0 in
        let s : space e.fan b.height n + levels e.fan b.height n ≡ bulk e.fan b.height = rw z at w.1 in
        (r, rw t at s)

    pub blob_room : room e.fan b.height (length (leaves_of b)) ≡ e.fan ^ b.height - length (leaves_of b)
    blob_room = omega (arith, blob_whole.0)

    pub blob_space : space e.fan b.height (length (leaves_of b)) ≡ bulk e.fan b.height - total e.fan (length (leaves_of b))
    blob_space = omega (arith, blob_whole.1)

-- the next leaf and the next block when a full tree has got one higher
pub rise_room : (fan h n : ℕ) → 2 ≤ fan → n ≤ fan ^ h → (fan ^ h - n) + (fan - 1) * fan ^ h ≡ fan ^ suc h - n
rise_room fan h n two fits =
    let z = ap (λ (x : ℕ). x * fan ^ h) (one_less fan two) in
    omega (arith, pow-succ' fan h)

pub rise_space : (fan h t : ℕ) → 2 ≤ fan → t ≤ bulk fan h → suc (bulk fan h - t) + (fan - 1) * bulk fan h ≡ bulk fan (suc h) - t
unfolding bulk
rise_space fan h t two fits =
    let z = ap (λ (x : ℕ). x * bulk fan h) (one_less fan two) in
    omega arith
