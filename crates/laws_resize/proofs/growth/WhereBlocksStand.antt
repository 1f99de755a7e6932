-- Where the blocks of a shaped blob stand, from the root down: the root begins with leaf 0, and so does each block of the left edge, which is what
-- first children lead to.
use mathlib.Core.Path.{◌≡◌, refl, sym, ap, ap₂, ◌∙◌}
use mathlib.Core.Logic.{◌⊎◌, inl, inr}
use mathlib.Core.Bool.{Bool, true, false}
use mathlib.Core.List.Memᴰ
use mathlib.Core.List.{List, [], ◌∷◌, map, Memᴰ}
use Prim.Native.Nat.{ℕ, zero, suc, ◌-◌, ◌≤◌, ◌<◌}
use native.Mathlib.Nat.{sub-zero}
use native.Mathlib.Omega.{arith}
use lib.Dec.{eqb}
use lib.ListN.{length, get_or}
use borrow.Author.Tests.{eqb-true, eq-eqb, ne_eqb}
use Rattle.meaning.specs.declared.Edition.{Edition}
use Rattle.meaning.specs.Lists.{pick}
use Rattle.meaning.specs.Edition.{Proper}
use Rattle.meaning.specs.Tree.{Tree, Blob, slot_of, root_of, slots_of}
use Rattle.meaning.specs.Shape.{InRow, ShapedTree, Shaped}
use Rattle.laws.proofs.Inversions.{by_test}
use Rattle.laws_resize.proofs.resizing.Ends.{some_child}
use Rattle.laws_resize.specs.growth.Room.{count}
use Rattle.laws_resize.specs.growth.Sites.{Site, counting, sites, sites_of, top_row, root_row, at, sited, Lacks, Once}
use Rattle.laws_resize.specs.growth.Cuts.{of_first, leftmost}
use Rattle.laws_resize.specs.growth.Forms.{past}
use Rattle.laws_resize.proofs.growth.Sites.{site_slots}

-- a slot that is another's than these is not found among them
lacks_other : (l : List (ℕ × Site)) (s t : ℕ) (x : Site) → Lacks (map (λ y. y.0) l) t → Memᴰ (s, x) l → t ≡ s → ⊥
lacks_other [] s t x n m q = Memᴰ.not-nil m
lacks_other (y ∷ l) s t x n m q = by (lacks_other l s t x n.1) (Memᴰ.cases_cons m)
  where
    by : (Memᴰ (s, x) l → t ≡ s → ⊥) → ((s, x) ≡ y) ⊎ Memᴰ (s, x) l → ⊥
    by rest (inl r) = n.0 (sym (ap (λ z. z.0) r) ∙ sym q)
    by rest (inr i) = rest i q

-- a site that is listed is that of its slot
listed_sited : (l : List (ℕ × Site)) (s : ℕ) (x : Site) → Once (map (λ y. y.0) l) → Memᴰ (s, x) l → sited l s ≡ at x
unfolding sited pick
listed_sited [] s x o m = absurd (Memᴰ.not-nil m)
listed_sited (y ∷ l) s x o m = by (listed_sited l s x o.1) (Memᴰ.cases_cons m)
  where
    by : (Memᴰ (s, x) l → sited l s ≡ at x) → ((s, x) ≡ y) ⊎ Memᴰ (s, x) l → pick (eqb y.0 s) (at y.1) (sited l s) ≡ at x
    by rest (inl r) = rw (eq-eqb y.0 s (sym (ap (λ z. z.0) r))) (ap (λ z. at z.1) (sym r))
    by rest (inr i) = rw (ne_eqb y.0 s (λ q. lacks_other l s y.0 x o.0 i q)) (rest i)

-- and the site of a slot is listed
pub sited_listed : (l : List (ℕ × Site)) (s : ℕ) (x : Site) → sited l s ≡ at x → Memᴰ (s, x) l
unfolding sited pick
sited_listed [] s x q = absurd (let z : ◌≡◌ {A = ℕ} 0 1 = cc in omega arith)
sited_listed (y ∷ l) s x q =
    by_test (eqb y.0 s)
    (λ t. let same : y.0 ≡ s = eqb-true y.0 s t in
    let r : at y.1 ≡ at x = rw t at q in
    Memᴰ.head (pair same (cc)))
    (λ t. Memᴰ.tail (sited_listed l s x (rw t at q)))
  where
    pair : y.0 ≡ s → y.1 ≡ x → (s, x) ≡ y
    pair p q = ap₂ (λ (a : ℕ) (z : Site). (a, z)) (sym p) (sym q)

-- a tree's own site comes first
pub own_site : (h i : ℕ) (t : Tree h) → Memᴰ (slot_of h t, record { height = h; first = i; items = top_row h t }) (sites h i t)
unfolding sites slot_of top_row
own_site zero i t = Memᴰ.head refl
own_site (suc h) i t = Memᴰ.head refl

-- no step down the left edge leads to the top
left_slot : (h : ℕ) (t : Tree h) → (leftmost h 0 t).0 ≡ slot_of h t
unfolding leftmost slot_of
left_slot zero t = refl
left_slot (suc h) t = refl

pub left_row : (h : ℕ) (t : Tree h) → (leftmost h 0 t).1 ≡ top_row h t
unfolding leftmost top_row
left_row zero t = refl
left_row (suc h) t = refl

module _ (e : Edition) (some : 1 ≤ e.leaf) (two : 2 ≤ e.fan) where
  -- the left edge: the first child of the first child .., k times
  left_listed : (h i k : ℕ) (root edge : Bool) (t : Tree h) → ShapedTree e h root edge t → k ≤ h
      → Memᴰ ((leftmost h k t).0, record { height = h - k; first = i; items = (leftmost h k t).1 }) (sites h i t)
  unfolding ShapedTree leftmost sites of_first counting InRow
  left_listed zero i zero root edge t sh low = Memᴰ.head refl
  left_listed zero i (suc k) root edge t sh low = absurd (omega arith)
  left_listed (suc h) i zero root edge t sh low = rw (sub-zero (suc h)) (Memᴰ.head refl)
  left_listed (suc h) i (suc k) root edge t sh low =
      Memᴰ.tail (first (left_listed h) edge t.1 (some_child e two h edge root _ sh.0) sh.2)
    where
      z : suc h - suc k ≡ h - k
      z = omega arith

      first : ((i k : ℕ) (root edge : Bool) (t : Tree h) → ShapedTree e h root edge t → k ≤ h
          → Memᴰ ((leftmost h k t).0, record { height = h - k; first = i; items = (leftmost h k t).1 }) (sites h i t))
          → (edge : Bool) (ts : List (Tree h)) → 1 ≤ length ts → InRow (ShapedTree e h false) edge ts
          → Memᴰ ((of_first (0, []) (leftmost h k) ts).0, record { height = suc h - suc k; first = i; items = (of_first (0, []) (leftmost h k) ts).1 })
          (counting (count h) (sites h) i ts)
      first each edge [] some r = absurd (omega arith)
      first each edge (u ∷ []) some r = rw z (Memᴰ.append_left _ (each i k false edge u r (omega arith)))
      first each edge (u ∷ (v ∷ vs)) some r = rw z (Memᴰ.append_left _ (each i k false false u r.0 (omega arith)))

  -- the next one is its first child
  left_next : (h k : ℕ) (root edge : Bool) (t : Tree h) → ShapedTree e h root edge t → k < h → (leftmost h (suc k) t).0
      ≡ get_or (leftmost h k t).1 0 past
  unfolding ShapedTree leftmost of_first InRow
  left_next zero k root edge t sh low = absurd (omega arith)
  left_next (suc h) zero root edge t sh low = first t.1 (some_child e two h edge root _ sh.0)
    where
      first : (ts : List (Tree h)) → 1 ≤ length ts → (of_first (0, []) (leftmost h 0) ts).0 ≡ get_or (map (slot_of h) ts) 0 past
      first [] some = absurd (omega arith)
      first (u ∷ us) some = left_slot h u
  left_next (suc h) (suc k) root edge t sh low = first (left_next h k) edge t.1 (some_child e two h edge root _ sh.0) sh.2
    where
      first : ((root edge : Bool) (t : Tree h) → ShapedTree e h root edge t → k < h → (leftmost h (suc k) t).0 ≡ get_or (leftmost h k t).1 0 past)
          → (edge : Bool) (ts : List (Tree h)) → 1 ≤ length ts → InRow (ShapedTree e h false) edge ts
          → (of_first (0, []) (leftmost h (suc k)) ts).0 ≡ get_or (of_first (0, []) (leftmost h k) ts).1 0 past
      first each edge [] some r = absurd (omega arith)
      first each edge (u ∷ []) some r = each false edge u r (omega arith)
      first each edge (u ∷ (v ∷ vs)) some r = each false false u r.0 (omega arith)

-- a shaped blob, no slot of which stands twice
module _ (e : Edition) (p : Proper e) (b : Blob) (shaped : Shaped e b) (once : Once (slots_of b)) where
  -- the root stands at the blob's height, and begins with leaf 0
  pub root_site : sited (sites_of b) (root_of b) ≡ at (record { height = b.height; first = 0; items = root_row b })
  unfolding sites_of root_of root_row
  root_site = listed_sited (sites_of b) (root_of b) _ (rw (site_slots b) once) (own_site b.height 0 b.tree)

  -- where the left edge's block stands, k steps below the root
  pub left_site : (k : ℕ) → k ≤ b.height → sited (sites_of b) (leftmost b.height k b.tree).0
      ≡ at (record { height = b.height - k; first = 0; items = (leftmost b.height k b.tree).1 })
  unfolding sites_of Shaped
  left_site k low = listed_sited (sites_of b) _ _ (rw (site_slots b) once)
      (left_listed e p.some p.two b.height 0 k true true b.tree shaped low)

  -- so it is found from the root by first children
  pub left_root : ((leftmost b.height 0 b.tree).0 ≡ root_of b) × ((leftmost b.height 0 b.tree).1 ≡ root_row b)
  unfolding root_of root_row
  left_root = (left_slot b.height b.tree, left_row b.height b.tree)

  pub left_step : (k : ℕ) → k < b.height → (leftmost b.height (suc k) b.tree).0 ≡ get_or (leftmost b.height k b.tree).1 0 past
  unfolding Shaped
  left_step k low = left_next e p.some p.two b.height k true true b.tree shaped low
