-- What a blob that is known gives the code before it is cut: its numbers are small, its blocks lie in the pool and are not too full.
use mathlib.Core.Path.{◌≡◌, ap, ◌∙◌, sym, subst}
use mathlib.Core.List.{List, [], ◌∷◌, Memᴰ}
use Prim.Native.Nat.{ℕ, ◌+◌, ◌-◌, ◌*◌, ◌^◌, ◌≤◌, ◌<◌}
use native.Mathlib.Nat.{pow-le-pow_right, mul-le-mul_right}
use native.Mathlib.Omega.{arith}
use lib.Dec.{eqb}
use lib.ListN.{length, get_or}
use borrow.Author.Tests.{eqb-true, eqb-false}
use Rattle.meaning.specs.declared.Edition.{Edition}
use Rattle.meaning.specs.Lists.{pick}
use Rattle.meaning.specs.Edition.{Proper}
use Rattle.meaning.specs.Bytes.{Cell, block, height_of, count_of, recorded, last_version}
use Rattle.meaning.specs.Tree.{Blob, leaves_of, cells_of, length_of, just, held}
use Rattle.meaning.specs.Shape.{leaves_for, height_for, most_count}
use Rattle.meaning.specs.Change.{Change, puts}
use Rattle.meaning.specs.Resize.{resized}
use Rattle.meaning.specs.Calls.{usable, become}
use Rattle.laws.proofs.Inversions.{by_test}
use Rattle.laws.proofs.Numbers.{part_length}
use Rattle.laws.proofs.Heights.{height_least}
use Rattle.laws.proofs.Shapes.{shaped_leaves, shaped_height}
use Rattle.laws_resize.proofs.resizing.Cells.{cell_height}
use Rattle.check_blob.proofs.visit.VisitAsDefined.{slot_fits}
use Rattle.check_gate.specs.Gate.{Whole}
use Rattle.laws_resize.specs.growth.Sites.{Site, sites_of, sited, at}
use Rattle.laws_resize.specs.growth.Cuts.{height_of_length, leftmost}
use Rattle.laws_resize.proofs.growth.Changes.{held_at, cell_at}
use Rattle.laws_resize.proofs.growth.WhereBlocksStand.{left_site}
use Rattle.laws_resize.proofs.rising.Bounds.{power_within, want_some, shorter_leaves, shorter_height}
use Rattle.check_survey.specs.sites.Spelt.{blob_at, site_at}
use Rattle.check_survey.specs.sites.Known.{Known}
use Rattle.check_survey.proofs.worn.WornByHeights.{unworn_slot}
use Rattle.plan_slot.specs.change.Turns.{over}
use Rattle.plan_tree.specs.declared.cuts.Cut.{Cut}
use Rattle.plan_tree.specs.cuts.{Cuts}
use Rattle.plan_shorter.specs.Plans.{KeptBlock, Here, cut_plan}
use Rattle.plan_slot.specs.keep.{first_below}
use Rattle.call_reshape.specs.shorter.{CutStart}
use Rattle.call_reshape.proofs.shorter.LeftEdgeKnown.{left_below, left_fits}
use Rattle.plan_shorter.proofs.PlannedAsDefined.{cut_changes}

-- what a list of blocks holds in a slot stands in the list
held_listed : (cs : List (ℕ × Cell)) (s : ℕ) (x : Cell) → held cs s ≡ just x → Memᴰ (s, x) cs
unfolding held pick
held_listed [] s x q = absurd (let z : ◌≡◌ {A = ℕ} 0 1 = cc in omega arith)
held_listed (y ∷ cs) s x q =
    by_test (eqb y.0 s)
    (λ t. Memᴰ.head (pair (eqb-true y.0 s t) (let r : just y.1 ≡ just x = rw t at q in cc)))
    (λ t. Memᴰ.tail (held_listed cs s x (rw t at q)))
  where
    pair : y.0 ≡ s → y.1 ≡ x → (s, x) ≡ y
    pair a b = λ i. (sym a i, sym b i)

-- powers that are small enough
small_power : (fan leaves p : ℕ) → fan < 64 → leaves ≤ 2 ^ 32 → p ≤ fan * leaves → p ≤ 2 ^ 50
small_power fan leaves p few low le = omega (arith, mul-le-mul_right leaves few, le)

module _ (e : Edition) (p : Proper e) (n : ℕ) (P R : List ℕ) (w : Whole e n P R) (r len k : ℕ) (row hs fs : List ℕ)
    (g : Known e n P R r len k row hs fs) where
  abbrev b : Blob
  b = blob_at e P r

  fan_few : e.fan < 64
  fan_few = omega (arith, p.fills, p.byte)

  leaves_few : length (leaves_of b) ≤ e.most
  leaves_few = omega (arith, g.leaves, g.few, w.few)

  -- a block of the blob is no higher than the root, so its full tree is small
  low_site : (s : ℕ) (x : Site) → sited (sites_of b) s ≡ at x → x.height ≤ b.height
  low_site s x q = cell_height b (s, cell_at x) (held_listed (cells_of b) s (cell_at x) (held_at e p R b g.standing s x q))

  tall_power : (h : ℕ) → h ≤ b.height → e.fan ^ h ≤ 2 ^ 50
  tall_power h low =
      let m = length (leaves_of b) in
      let shaped = g.standing.shaped in
      let some : 1 ≤ m = omega (arith, shaped_leaves e p.some p.two b shaped, want_some e p (length_of b)) in
      let high : e.fan ^ h ≤ e.fan ^ b.height = pow-le-pow_right {n = e.fan} (omega (arith, p.two)) low in
      let tall : e.fan ^ b.height ≡ e.fan ^ height_for e.fan m = ap (◌^◌ e.fan) (shaped_height e p.some p.two b shaped) in
      small_power e.fan m (e.fan ^ h) fan_few (omega (arith, leaves_few, p.small))
      (omega (arith, high, tall, power_within e.fan m p.two some))

  -- what is noted of a slot
  low_noted : (s : ℕ) → get_or hs s 0 - 1 ≤ b.height
  unfolding site_at
  low_noted s =
      by_test (eqb (get_or hs s 0) 0)
      (λ t. let z = eqb-true (get_or hs s 0) 0 t in omega arith)
      (λ t. low_site s _ (g.sites.some s (eqb-false (get_or hs s 0) 0 t)))

  pub known_here : (s : ℕ) → s < n → Here e P hs fs s
  unfolding site_at
  known_here s less = record {
    place = slot_fits e.size n s P w.pool less;
    heights = omega (arith, g.heights);
    firsts = omega (arith, g.firsts);
    power = tall_power (get_or hs s 0 - 1) (low_noted s);
    most = λ noted. (g.fit s _ (g.sites.some s noted)).0.most;
  }

  -- a length that is shorter, its leaves and its height
  module _ (c : Cut) (leaves : c.leaves ≡ leaves_for e.leaf c.length) (top : c.top ≡ height_of_length e c.length)
      (short : c.length < length_of b) where
    pub known_low : c.top ≤ b.height
    known_low = omega (arith, top, shorter_height e p b g.standing.shaped c.length short)

    -- the new root is no higher than a root may be
    top_byte : c.top < 256
    unfolding height_of_length
    top_byte =
        let few : leaves_for e.leaf c.length ≤ e.fan ^ e.top =
        omega (arith, shorter_leaves e p b g.standing.shaped c.length short, leaves_few, p.room) in
        omega (arith, top, height_least e.fan (leaves_for e.leaf c.length) e.top p.two few, p.low)

    pub known_cuts : Cuts e c
    known_cuts = record {
      leaves = leaves;
      top = top;
      few = omega (arith, leaves, shorter_leaves e p b g.standing.shaped c.length short, leaves_few, p.small);
      low = top_byte;
      power = tall_power c.top known_low;
    }

    -- the left edge's block at the new root's height
    pub known_kept : (kept : List ℕ) → kept ≡ block e P (leftmost b.height (b.height - c.top) b.tree).0 → length kept ≡ e.size → KeptBlock e c kept
    known_kept kept ek size =
        let s = (leftmost b.height (b.height - c.top) b.tree).0 in
        let z : b.height - (b.height - c.top) ≡ c.top = omega (arith, known_low) in
        let f = g.fit s _ (left_site e p b g.standing.shaped g.standing.once (b.height - c.top) (omega arith)) in
        record { size = size; most = rw ek (subst (λ (h : ℕ). count_of (block e P s) ≤ most_count e h) z f.0.most) }

-- a blob that is to be cut
module _ (e : Edition) (p : Proper e) (c : Cut) (n : ℕ) (P R : List ℕ) (r : ℕ) (hs fs : List ℕ) (u : CutStart e c n P R r hs fs) where
  abbrev old : Blob
  old = blob_at e P r

  start_short : c.length < length_of old
  start_short = omega (arith, u.short, u.known.bytes)

  pub start_cuts : Cuts e c
  start_cuts = known_cuts e p n P R u.whole r u.len u.k u.row hs fs u.known c u.leaves u.top start_short

  pub start_here : (s : ℕ) → s < n → Here e P hs fs s
  start_here = known_here e p n P R u.whole r u.len u.k u.row hs fs u.known

  pub start_fresh : (s : ℕ) → s < n → (get_or hs s 0 ≡ 0 → ⊥) → recorded R s < last_version
  start_fresh = unworn_slot e n P R r u.len u.k u.row hs fs u.known u.fresh

  -- h is the height that it has
  module _ (h : ℕ) (eh : h ≡ height_of (block e P r)) where
    tall : old.height ≡ h
    unfolding blob_at
    tall = sym eh

    pub start_low : c.top ≤ h
    start_low =
        omega (arith, tall, known_low e p n P R u.whole r u.len u.k u.row hs fs u.known c u.leaves u.top start_short)

    -- the left edge down to the new root's height lies in the pool
    pub start_edge : (j : ℕ) → j ≤ h - c.top → e.size * first_below e P r j + e.size ≤ length P
    start_edge j less = left_fits e p n P R u.whole r u.len u.k u.row hs fs u.known j (omega (arith, tall))

    module _ (kept : List ℕ) (ek : kept ≡ block e P (first_below e P r (h - c.top))) where
      -- and ends with the block that the definitions take
      kept_is : kept ≡ block e P (leftmost old.height (old.height - c.top) old.tree).0
      kept_is =
          let z : old.height - c.top ≡ h - c.top = omega (arith, tall) in
          ek
          ∙ ap (λ (j : ℕ). block e P (first_below e P r j)) (sym z)
          ∙ ap (block e P) (left_below e p n P R u.whole r u.len u.k u.row hs fs u.known (old.height - c.top) (omega arith))

      kept_long : length kept ≡ e.size
      unfolding block
      kept_long = ap length ek ∙ part_length (e.size * first_below e P r (h - c.top)) e.size P (start_edge (h - c.top) (omega arith))

      pub start_kept : KeptBlock e c kept
      start_kept =
          known_kept e p n P R u.whole r u.len u.k u.row hs fs u.known c u.leaves u.top start_short kept kept_is kept_long

      -- so all changes are the definitions'
      all_changes : over (cut_plan e c hs fs kept r P R) 0 n ≡ become e n P R 1 (cells_of old) (cells_of (resized e c.length (usable e n P R) old))
      all_changes = cut_changes e p n P R r u.len u.k u.row hs fs u.known c start_cuts start_short kept kept_is

      pub start_pool : (P' : List ℕ) → P' ≡ puts e.size (λ c. c.block) (over (cut_plan e c hs fs kept r P R) 0 n) P
          → P' ≡ puts e.size (λ c. c.block) (become e n P R 1 (cells_of old) (cells_of (resized e c.length (usable e n P R) old))) P
      start_pool P' ep = ep ∙ ap (λ (l : List Change). puts e.size (λ c. c.block) l P) all_changes

      pub start_records : (R' : List ℕ) → R' ≡ puts 12 (λ c. c.line) (over (cut_plan e c hs fs kept r P R) 0 n) R
          → R' ≡ puts 12 (λ c. c.line) (become e n P R 1 (cells_of old) (cells_of (resized e c.length (usable e n P R) old))) R
      start_records R' er = er ∙ ap (λ (l : List Change). puts 12 (λ c. c.line) l R) all_changes
