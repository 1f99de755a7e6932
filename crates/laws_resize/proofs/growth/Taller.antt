-- What each slot holds after growth, in the end: of a root that gets higher and higher, and of the whole, a new block's cell or an old block's.
use mathlib.Core.Path.{◌≡◌, refl, sym, ◌∙◌}
use mathlib.Core.Bool.{Bool, true, false}
use mathlib.Core.List.{List, [], ◌∷◌, ◌++◌}
use Prim.Native.Nat.{ℕ, zero, suc, ◌-◌}
use native.Mathlib.Omega.{arith}
use lib.Dec.{eqb}
use lib.ListN.{get_or, drop}
use borrow.Author.Tests.{eqb-true, eq-eqb}
use Rattle.laws_resize.specs.growth.Forms.{past}
use Rattle.meaning.specs.Lists.{pick}
use Rattle.meaning.specs.Bytes.{Cell}
use Rattle.meaning.specs.Tree.{Tree, Blob, cells, slot_of, Held, nothing, just, held}
use Rattle.laws_resize.specs.growth.Grow.{items_of, fresh, fill, wider, higher, grow}
use Rattle.laws_resize.specs.growth.Made.{row_cells, top_of, made, kept, higher_made, grow_made}
use Rattle.laws_resize.proofs.growth.Held.{or_else, or_else_nothing, nothing_or, none_left, none_right, held_cons, held_append, held_none}
use Rattle.laws_resize.proofs.growth.Held.{held_new, held_old, below, top_cells, wider_cells}

-- a blob's blocks
abbrev pub blob_cells : Blob → List (ℕ × Cell)
blob_cells b = cells b.height b.tree

-- no slot twice
abbrev pub Distinct : List (ℕ × Cell) → Type 0
Distinct [] = Unit {0}
Distinct (c ∷ cs) = (held cs c.0 ≡ nothing) × Distinct cs

-- so it is of the second of two lists
distinct_right : (a b : List (ℕ × Cell)) → Distinct (a ++ b) → Distinct b
distinct_right [] b d = d
distinct_right (c ∷ cs) b d = distinct_right cs b d.1

-- what is in the first is not in the second
distinct_apart : (s : ℕ) (a b : List (ℕ × Cell)) → Distinct (a ++ b) → (held a s ≡ nothing → ⊥) → held b s ≡ nothing
unfolding held pick
distinct_apart s [] b d n = absurd (n refl)
distinct_apart s (c ∷ cs) b d n = go (eqb c.0 s) refl (distinct_apart s cs b d.1)
  where
    go : (q : Bool) → eqb c.0 s ≡ q → ((held cs s ≡ nothing → ⊥) → held b s ≡ nothing) → held b s ≡ nothing
    go true e ih = none_right (held cs s) (held b s) (sym (held_append s cs b) ∙ (rw (eqb-true c.0 s e) at d.0))
    go false e ih = ih (λ m. n (rw e m))

module _ (fan : ℕ) where
  -- the new children of a wider root, and the new blocks after them
  abbrev pub wider_new : (lens free : List ℕ) (h : ℕ) → List (ℕ × Cell)
  wider_new lens free h = row_cells h (items_of (fresh fan h) (fan - 1) lens (drop 1 free)).0

  abbrev pub wider_more : (k : ℕ) (lens free : List ℕ) (h : ℕ) → Tree h → List (ℕ × Cell)
  wider_more k lens free h t = higher_made fan k (wider fan h lens free t).1 (wider fan h lens free t).2 (suc h) (wider fan h lens free t).0

  -- the new blocks of a root that gets higher
  pub higher_made_lem : (k l : ℕ) (ls free : List ℕ) (h : ℕ) (t : Tree h)
      → higher_made fan (suc k) (l ∷ ls) free h t ≡ (get_or free 0 past, top_of h t) ∷ wider_new (l ∷ ls) free h ++ wider_more k (l ∷ ls) free h t
  unfolding higher_made wider
  higher_made_lem k l ls free h t = refl

  -- filling leaves a tree's slot
  pub fill_slot : (h : ℕ) (lens free : List ℕ) (t : Tree h) → slot_of h (fill fan h lens free t).0 ≡ slot_of h t
  unfolding fill slot_of
  fill_slot zero lens free t = refl
  fill_slot (suc h) lens free t = refl

module _ (s fan : ℕ) where
  -- what a slot holds of them
  held_made : (k l : ℕ) (ls free : List ℕ) (h : ℕ) (t : Tree h) → held (higher_made fan (suc k) (l ∷ ls) free h t) s
      ≡ or_else (held ((get_or free 0 past, top_of h t) ∷ []) s)
      (or_else (held (wider_new fan (l ∷ ls) free h) s) (held (wider_more fan k (l ∷ ls) free h t) s))
  held_made k l ls free h t = rw (higher_made_lem fan k l ls free h t) (held_cons s _ _ ∙ rw (held_append s (wider_new fan (l ∷ ls) free h)))

  -- a slot that is not the root is not the wider root
  root_stays : (h : ℕ) (lens free : List ℕ) (t : Tree h) → held ((slot_of h t, top_of h t) ∷ []) s ≡ nothing
      → held ((slot_of (suc h) (wider fan h lens free t).0, top_of (suc h) (wider fan h lens free t).0) ∷ []) s ≡ nothing
  unfolding slot_of wider
  root_stays h lens free t r = held_none s (slot_of h t) _ _ r

  -- a slot that is no new block's nor the root
  higher_old : (k : ℕ) (lens free : List ℕ) (h : ℕ) (t : Tree h) → held ((slot_of h t, top_of h t) ∷ []) s ≡ nothing
      → held (higher_made fan k lens free h t) s ≡ nothing → held (blob_cells (higher fan k lens free h t)) s ≡ held (cells h t) s
  unfolding higher
  higher_old zero lens free h t r e = refl
  higher_old (suc k) [] free h t r e = refl
  higher_old (suc k) (l ∷ ls) free h t r e =
      let e₀ = sym (held_made k l ls free h t) ∙ e in
      let e₁ = none_right _ _ e₀ in
      let a : held ((get_or free 0 past, top_of h t) ∷ []) s ≡ nothing = none_left _ _ e₀ in
      let b : held (wider_new fan (l ∷ ls) free h) s ≡ nothing = none_left _ _ e₁ in
      higher_old k _ _ (suc h) _ (root_stays h (l ∷ ls) free t r) (none_right _ _ e₁)
      ∙ rw (wider_cells s fan h (l ∷ ls) free t r, a, nothing_or, b, or_else_nothing)

  -- a slot that the tree has not is not its root
  root_not : (h : ℕ) (t : Tree h) → held (cells h t) s ≡ nothing → held ((slot_of h t, top_of h t) ∷ []) s ≡ nothing
  root_not h t e = none_left _ (held (below h t) s) (sym (held_cons s _ _) ∙ (rw (top_cells h t) at e))

  -- such a slot, of a wider root
  wider_new_lem : (h : ℕ) (lens free : List ℕ) (t : Tree h) → held (cells h t) s ≡ nothing
      → held (cells (suc h) (wider fan h lens free t).0) s ≡ held ((get_or free 0 past, top_of h t) ∷ wider_new fan lens free h) s
  wider_new_lem h lens free t e = wider_cells s fan h lens free t (root_not h t e) ∙ rw (e, nothing_or) (sym (held_cons s _ _))

  -- a slot that the tree has not
  abbrev HigherNew : ℕ → Type 0
  HigherNew k = (lens free : List ℕ) (h : ℕ) (t : Tree h) → held (cells h t) s ≡ nothing → Distinct (higher_made fan k lens free h t)
      → held (blob_cells (higher fan k lens free h t)) s ≡ held (higher_made fan k lens free h t) s

  -- one height more
  new_step : (k : ℕ) → HigherNew k → (l : ℕ) (ls free : List ℕ) (h : ℕ) (t : Tree h) → held (cells h t) s ≡ nothing
      → Distinct (((get_or free 0 past, top_of h t) ∷ wider_new fan (l ∷ ls) free h) ++ wider_more fan k (l ∷ ls) free h t)
      → (v : Held) → held ((get_or free 0 past, top_of h t) ∷ wider_new fan (l ∷ ls) free h) s ≡ v
      → held (blob_cells (higher fan k (wider fan h (l ∷ ls) free t).1 (wider fan h (l ∷ ls) free t).2 (suc h) (wider fan h (l ∷ ls) free t).0)) s
      ≡ held (((get_or free 0 past, top_of h t) ∷ wider_new fan (l ∷ ls) free h) ++ wider_more fan k (l ∷ ls) free h t) s
  new_step k ih l ls free h t e d nothing q =
      ih _ _ (suc h) _ (wider_new_lem h (l ∷ ls) free t e ∙ q) (distinct_right ((get_or free 0 past, top_of h t) ∷ wider_new fan (l ∷ ls) free h) _ d)
      ∙ sym (held_append s ((get_or free 0 past, top_of h t) ∷ wider_new fan (l ∷ ls) free h) _ ∙ rw (q, nothing_or))
  new_step k ih l ls free h t e d (just c) q =
      let m : held (wider_more fan k (l ∷ ls) free h t) s ≡ nothing
      = distinct_apart s ((get_or free 0 past, top_of h t) ∷ wider_new fan (l ∷ ls) free h) _ d (λ n. let z : ◌≡◌ {A = ℕ} 0 1 = cc in omega arith) in
      higher_old k _ _ (suc h) _ (root_stays h (l ∷ ls) free t (root_not h t e)) m
      ∙ wider_new_lem h (l ∷ ls) free t e
      ∙ sym (held_append s ((get_or free 0 past, top_of h t) ∷ wider_new fan (l ∷ ls) free h) _ ∙ rw (m, or_else_nothing))

  -- all heights
  higher_new : (k : ℕ) → HigherNew k
  unfolding higher higher_made held wider
  higher_new zero lens free h t e d = e
  higher_new (suc k) [] free h t e d = e
  higher_new (suc k) (l ∷ ls) free h t e d = new_step k (higher_new k) l ls free h t e d _ refl

  -- so a slot that is not the root is not the filled one
  fill_root : (h : ℕ) (lens free : List ℕ) (t : Tree h) → held ((slot_of h t, top_of h t) ∷ []) s ≡ nothing
      → held ((slot_of h (fill fan h lens free t).0, top_of h (fill fan h lens free t).0) ∷ []) s ≡ nothing
  fill_root h lens free t r = rw (fill_slot fan h lens free t) (held_none s (slot_of h t) _ _ r)

  -- the whole: a slot that is neither the root nor a new block's
  pub grow_old : (k : ℕ) (lens free : List ℕ) (h : ℕ) (t : Tree h) → held ((slot_of h t, top_of h t) ∷ []) s ≡ nothing
      → held (grow_made fan k lens free h t) s ≡ nothing → held (blob_cells (grow fan k lens free h t)) s ≡ held (kept fan h lens free t) s
  unfolding grow grow_made
  grow_old k lens free h t r e =
      let e₀ = sym (held_append s (made fan h lens free t) _) ∙ e in
      higher_old k _ _ h _ (fill_root h lens free t r) (none_right _ _ e₀) ∙ held_old s fan h lens free t (none_left _ _ e₀)

  -- a slot that the old tree has not
  pub grow_new : (k : ℕ) (lens free : List ℕ) (h : ℕ) (t : Tree h) → held (cells h t) s ≡ nothing → Distinct (grow_made fan k lens free h t)
      → held (blob_cells (grow fan k lens free h t)) s ≡ held (grow_made fan k lens free h t) s
  unfolding grow grow_made
  grow_new k lens free h t e d = go (held (made fan h lens free t) s) refl
    where
      go : (v : Held) → held (made fan h lens free t) s ≡ v → held (blob_cells (grow fan k lens free h t)) s ≡ held (grow_made fan k lens free h t) s
      go nothing q =
          higher_new k _ _ h _ (held_new s fan h lens free t e ∙ q) (distinct_right (made fan h lens free t) _ d)
          ∙ sym (held_append s (made fan h lens free t) _ ∙ rw (q, nothing_or))
      go (just c) q =
          let m = distinct_apart s (made fan h lens free t) _ d (λ n. let z : ◌≡◌ {A = ℕ} 0 1 = cc in omega arith) in
          higher_old k _ _ h _ (fill_root h lens free t (root_not h t e)) m
          ∙ held_new s fan h lens free t e
          ∙ sym (held_append s (made fan h lens free t) _ ∙ rw (m, or_else_nothing))

-- the root's slot stays, whatever it holds
wider_slot : (fan h : ℕ) (lens free : List ℕ) (t : Tree h) → slot_of (suc h) (wider fan h lens free t).0 ≡ slot_of h t
unfolding wider slot_of
wider_slot fan h lens free t = refl

-- however high it gets
higher_slot : (fan k : ℕ) (lens free : List ℕ) (h : ℕ) (t : Tree h)
    → slot_of (higher fan k lens free h t).height (higher fan k lens free h t).tree ≡ slot_of h t
unfolding higher
higher_slot fan zero lens free h t = refl
higher_slot fan (suc k) [] free h t = refl
higher_slot fan (suc k) (l ∷ ls) free h t = higher_slot fan k _ _ (suc h) _ ∙ wider_slot fan h (l ∷ ls) free t

-- what the root holds is the top of the tree in the end
pub grow_root : (fan k : ℕ) (lens free : List ℕ) (h : ℕ) (t : Tree h)
    → held (blob_cells (grow fan k lens free h t)) (slot_of h t) ≡ just (top_of (grow fan k lens free h t).height (grow fan k lens free h t).tree)
unfolding grow held pick
grow_root fan k lens free h t =
    let s : ℕ = slot_of h t in
    let b : Blob = grow fan k lens free h t in
    let e : slot_of b.height b.tree ≡ s = higher_slot fan k _ _ h _ ∙ fill_slot fan h lens free t in
    rw (top_cells b.height b.tree, eq-eqb (slot_of b.height b.tree) s e)
