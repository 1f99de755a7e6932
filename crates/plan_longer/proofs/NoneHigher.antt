-- No block of a blob is higher than its root.
use mathlib.Core.Path.{◌≡◌, ap}
use mathlib.Core.Logic.{◌⊎◌, inl, inr}
use mathlib.Core.List.Memᴰ
use mathlib.Core.List.{List, [], ◌∷◌, map, Memᴰ}
use Prim.Native.Nat.{ℕ, zero, suc, ◌+◌, ◌≤◌}
use native.Mathlib.Omega.{arith}
use Rattle.meaning.specs.Tree.{Tree, Blob, slot_of}
use Rattle.laws_resize.specs.growth.Room.{count}
use Rattle.laws_resize.specs.growth.Sites.{Site, counting, sites, sites_of, at, sited}
use Rattle.laws_resize.proofs.growth.WhereBlocksStand.{sited_listed}

-- the blocks of a row of trees, if it is so of each tree
row_low : (h : ℕ) → ((i : ℕ) (t : Tree h) (s : ℕ) (x : Site) → Memᴰ (s, x) (sites h i t) → x.height ≤ h)
    → (i : ℕ) (ts : List (Tree h)) (s : ℕ) (x : Site) → Memᴰ (s, x) (counting (count h) (sites h) i ts) → x.height ≤ h
unfolding counting
row_low h each i [] s x m = absurd (Memᴰ.not-nil m)
row_low h each i (t ∷ ts) s x m = by (row_low h each (i + count h t) ts s x) (Memᴰ.append_cases (sites h i t) m)
  where
    by : (Memᴰ (s, x) (counting (count h) (sites h) (i + count h t) ts) → x.height ≤ h)
        → Memᴰ (s, x) (sites h i t) ⊎ Memᴰ (s, x) (counting (count h) (sites h) (i + count h t) ts) → x.height ≤ h
    by rest (inl a) = each i t s x a
    by rest (inr a) = rest a

-- the blocks of a tree
tree_low : (h i : ℕ) (t : Tree h) (s : ℕ) (x : Site) → Memᴰ (s, x) (sites h i t) → x.height ≤ h
unfolding sites
tree_low zero i t s x m = omega (arith, ap (λ z. z.1.height) (Memᴰ.eq_of_singleton m))
tree_low (suc h) i t s x m = by (row_low h (tree_low h) i t.1 s x) (Memᴰ.cases_cons m)
  where
    by : (Memᴰ (s, x) (counting (count h) (sites h) i t.1) → x.height ≤ h)
        → (◌≡◌ {A = ℕ × Site} (s, x) (t.0, record { height = suc h; first = i; items = map (slot_of h) t.1 }))
        ⊎ Memᴰ (s, x) (counting (count h) (sites h) i t.1) → x.height ≤ suc h
    by rest (inl q) = omega (arith, ap (λ z. z.1.height) q)
    by rest (inr a) = omega (arith, rest a)

-- the block of a slot
pub site_low : (b : Blob) (s : ℕ) (x : Site) → sited (sites_of b) s ≡ at x → x.height ≤ b.height
unfolding sites_of
site_low b s x found = tree_low b.height 0 b.tree s x (sited_listed (sites_of b) s x found)
