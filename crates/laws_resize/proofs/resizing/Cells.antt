-- What the cells of a blob hold: heights up to the blob's, child slots that are the blob's own, and no more bytes or children than the most.
use mathlib.Core.Path.{◌≡◌, refl}
use mathlib.Core.Logic.{◌⊎◌, inl, inr}
use mathlib.Core.Bool.{Bool, true, false}
use mathlib.Core.List.Memᴰ
use mathlib.Core.List.{List, [], ◌∷◌, map, Memᴰ}
use Prim.Native.Nat.{ℕ, zero, suc, ◌≤◌}
use native.Mathlib.Omega.{arith}
use lib.ListN.{length, length-map}
use Rattle.meaning.specs.declared.Edition.{Edition}
use Rattle.meaning.specs.Lists.{joined}
use Rattle.meaning.specs.Bytes.{Cell}
use Rattle.meaning.specs.Tree.{Tree, Blob, slot_of, cells, cells_of, slots_of}
use Rattle.meaning.specs.Shape.{most_count, InRow, ShapedTree, Shaped}
use Rattle.laws.proofs.TreeSlots.{slots, slots_inner, own_slots, blob_slots}

-- what is in lists joined is in one of them
in_joined : {A B : Type 0} (f : A → List B) {b : B} (l : List A) → Memᴰ b (joined (map f l)) → (a : A) × Memᴰ a l × Memᴰ b (f a)
unfolding joined
in_joined f [] m = absurd (Memᴰ.not-nil m)
in_joined {A} f {b} (x ∷ l) m = by (in_joined f l) (Memᴰ.append_cases (f x) m)
  where
    by : (Memᴰ b (joined (map f l)) → (a : A) × Memᴰ a l × Memᴰ b (f a)) → Memᴰ b (f x) ⊎ Memᴰ b (joined (map f l))
        → (a : A) × Memᴰ a (x ∷ l) × Memᴰ b (f a)
    by rest (inl here) = (x, Memᴰ.head refl, here)
    by rest (inr later) = let r = rest later in (r.0, Memᴰ.tail r.1, r.2)

-- and the other way round
joined_in : {A B : Type 0} (f : A → List B) {b : B} {a : A} {l : List A} → Memᴰ a l → Memᴰ b (f a) → Memᴰ b (joined (map f l))
unfolding joined
joined_in f {b} (Memᴰ.head {x = x} {xs = l} q) m = Memᴰ.append_left (joined (map f l)) (rw q at m)
joined_in f (Memᴰ.tail {x = x} {xs = l} i) m = Memᴰ.append_right (f x) (joined_in f i m)

-- each of a row is on the edge or off it
in_row : {A : Type 0} (on : Bool → A → Type 0) (edge : Bool) {x : A} (l : List A) → InRow on edge l → Memᴰ x l → (edge' : Bool) × on edge' x
unfolding InRow
in_row on edge [] r m = absurd (Memᴰ.not-nil m)
in_row on edge (y ∷ []) r m = (edge, rw (Memᴰ.eq_of_singleton m) r)
in_row {A} on edge {x} (y ∷ (z ∷ l)) r m = by (in_row on edge (z ∷ l) r.1) (Memᴰ.cases_cons m)
  where
    by : (Memᴰ x (z ∷ l) → (edge' : Bool) × on edge' x) → (x ≡ y) ⊎ Memᴰ x (z ∷ l) → (edge' : Bool) × on edge' x
    by rest (inl q) = (false, rw q r.0)
    by rest (inr later) = rest later

-- a claim of a tree and one of its cells: of the root's, and handed up from each child
by_cell : (P : (h : ℕ) → Tree h → ℕ × Cell → Type 0) → ((t : Tree 0) → P 0 t (t.0, record { height = 0; items = t.1 }))
    → ((h : ℕ) (t : Tree (suc h)) → P (suc h) t (t.0, record { height = suc h; items = map (slot_of h) t.1 }))
    → ((h : ℕ) (t : Tree (suc h)) (u : Tree h) (c : ℕ × Cell) → Memᴰ u t.1 → P h u c → P (suc h) t c)
    → (h : ℕ) (t : Tree h) (c : ℕ × Cell) → Memᴰ c (cells h t) → P h t c
unfolding cells
by_cell P leaf root up zero t c m = rw (Memᴰ.eq_of_singleton m) (leaf t)
by_cell P leaf root up (suc h) t c m = by (by_cell P leaf root up h) (Memᴰ.cases_cons m)
  where
    by : ((u : Tree h) (c : ℕ × Cell) → Memᴰ c (cells h u) → P h u c)
        → (c ≡ (t.0, record { height = suc h; items = map (slot_of h) t.1 })) ⊎ Memᴰ c (joined (map (cells h) t.1)) → P (suc h) t c
    by each (inl q) = rw q (root h t)
    by each (inr later) =
        let child = in_joined (cells h) t.1 later in
        up h t child.0 c child.1 (each child.0 c child.2)

-- a tree's own slot is among its slots
own_slot_lem : (h : ℕ) (t : Tree h) → Memᴰ (slot_of h t) (slots h t)
own_slot_lem h t = rw (own_slots h t) (Memᴰ.head refl)

module _ (b : Blob) (c : ℕ × Cell) (within : Memᴰ c (cells_of b)) where
  -- a cell is no higher than its blob
  pub cell_height : c.1.height ≤ b.height
  unfolding cells_of
  cell_height =
      by_cell (λ h t c. c.1.height ≤ h) (λ t. omega arith) (λ h t. omega arith) (λ h t u c i le. omega arith)
      b.height b.tree c within

  -- the child slots in it are the blob's own
  pub cell_children : (c.1.height ≡ 0 → ⊥) → (x : ℕ) → Memᴰ x c.1.items → Memᴰ x (slots_of b)
  unfolding cells_of
  cell_children =
      rw (blob_slots b)
      (by_cell (λ h t c. (c.1.height ≡ 0 → ⊥) → (x : ℕ) → Memᴰ x c.1.items → Memᴰ x (slots h t)) (λ t inner. absurd (inner refl))
      (λ h t inner x m.
      let child = Memᴰ.of_map (slot_of h) t.1 m in
      rw (slots_inner h t.0 t.1, ← child.2)
      (Memᴰ.tail (joined_in (slots h) child.1 (own_slot_lem h child.0))))
      (λ h t u c i each inner x m. rw (slots_inner h t.0 t.1) (Memᴰ.tail (joined_in (slots h) i (each inner x m))))
      b.height b.tree c within)

  -- it holds no more than its height's most: a leaf's bytes fit the payload
  pub cell_most : (e : Edition) → Shaped e b → length c.1.items ≤ most_count e c.1.height
  unfolding cells_of Shaped ShapedTree
  cell_most e s =
      by_cell (λ h t c. (root edge : Bool) → ShapedTree e h root edge t → length c.1.items ≤ most_count e c.1.height) (λ t root edge s. s.1)
      (λ h t root edge s. rw (length-map t.1 (slot_of h)) s.1)
      (λ h t u c i each root edge s. let r = in_row (ShapedTree e h false) edge t.1 s.2 i in each false r.0 r.1)
      b.height b.tree c within true true s
