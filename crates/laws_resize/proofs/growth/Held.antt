-- What each slot holds after growth: a new block's cell, an old right edge block's, or what it held.
use mathlib.Core.Path.{◌≡◌, refl, sym, ap, ◌∙◌}
use mathlib.Core.Bool.{Bool, true, false}
use mathlib.Core.List.{List, [], ◌∷◌, ◌++◌, append_assoc, append-nil, map, map-append}
use Prim.Native.Nat.{ℕ, zero, suc, ◌-◌}
use lib.Dec.{eqb}
use lib.ListN.{length, get_or, drop}
use Rattle.laws_resize.specs.growth.Forms.{past}
use Rattle.meaning.specs.Lists.{pick, joined}
use Rattle.meaning.specs.Bytes.{Cell}
use Rattle.meaning.specs.Tree.{Tree, cells, slot_of, at_slot, Held, nothing, just, held}
use Rattle.laws_resize.specs.growth.Grow.{items_of, fresh, over_last, fill, wider}
use Rattle.laws_resize.specs.growth.Made.{row_cells, up_to_last, top_of, made, kept}
use Rattle.laws_resize.proofs.growth.Grow.{Ends, none, last, ends, over_last_last}
use Rattle.laws.proofs.Positions.{joined_append}

-- the first, or else the second
unfoldable pub or_else : Held → Held → Held
or_else nothing y = y
or_else (just c) y = just c

-- nothing after it does not show
pub or_else_nothing : (x : Held) → or_else x nothing ≡ x
unfolding or_else
or_else_nothing nothing = refl
or_else_nothing (just c) = refl

-- nor nothing before it
pub nothing_or : (y : Held) → or_else nothing y ≡ y
unfolding or_else
nothing_or y = refl

-- three in a row
or_else_assoc : (x y z : Held) → or_else (or_else x y) z ≡ or_else x (or_else y z)
unfolding or_else
or_else_assoc nothing y z = refl
or_else_assoc (just c) y z = refl

-- nothing of both is nothing of the first
pub none_left : (x y : Held) → or_else x y ≡ nothing → x ≡ nothing
unfolding or_else
none_left nothing y e = refl
none_left (just c) y e = e

-- and of the second
pub none_right : (x y : Held) → or_else x y ≡ nothing → y ≡ nothing
unfolding or_else
none_right nothing y e = e
none_right (just c) y e = cc

-- f of all but the last, and g of it
pub up_to_last_last : {A B : Type 0} (f g : A → List B) (xs : List A) (x : A) → up_to_last f g (xs ++ x ∷ []) ≡ joined (map f xs) ++ g x
unfolding up_to_last joined
up_to_last_last f g [] x = refl
up_to_last_last f g (y ∷ []) x = rw append-nil
up_to_last_last f g (y ∷ (z ∷ ys)) x = ap (λ l. f y ++ l) (up_to_last_last f g (z ∷ ys) x) ∙ sym (append_assoc (f y) (joined (map f (z ∷ ys))) (g x))

-- empty lists joined
joined_none : {A B : Type 0} (xs : List A) → joined (map {B = List B} (λ x. []) xs) ≡ []
unfolding joined
joined_none [] = refl
joined_none (x ∷ xs) = joined_none xs

-- two rows' blocks
pub row_cells_append : (h : ℕ) (xs ys : List (Tree h)) → row_cells h (xs ++ ys) ≡ row_cells h xs ++ row_cells h ys
row_cells_append h xs ys = rw (map-append, joined_append)

-- a tree's cells: its top, and those below
unfoldable pub below : (h : ℕ) → Tree h → List (ℕ × Cell)
below zero t = []
below (suc h) t = row_cells h t.1

pub top_cells : (h : ℕ) (t : Tree h) → cells h t ≡ (slot_of h t, top_of h t) ∷ below h t
unfolding cells slot_of top_of below
top_cells zero t = refl
top_cells (suc h) t = refl

-- in another slot its top is there
pub moved_cells : (h k : ℕ) (t : Tree h) → cells h (at_slot h k t) ≡ (k, top_of h t) ∷ below h t
unfolding cells at_slot top_of below
moved_cells zero k t = refl
moved_cells (suc h) k t = refl

module _ (fan : ℕ) where
  -- a filled row, and its cells
  pub fill_row : (h : ℕ) (lens free : List ℕ) (k : ℕ) (xs : List (Tree h)) (x : Tree h) (new : List (Tree h))
      → (items_of (fresh fan h) (fan - length (xs ++ x ∷ [])) (fill fan h lens free x).1 (fill fan h lens free x).2).0 ≡ new
      → (fill fan (suc h) lens free (k, xs ++ x ∷ [])).0 ≡ (k, xs ++ (fill fan h lens free x).0 ∷ new)
  unfolding fill
  fill_row h lens free k xs x new e = rw (over_last_last (fill fan h) lens free xs x, e, append_assoc)

  -- its new blocks
  pub made_row : (h : ℕ) (lens free : List ℕ) (k : ℕ) (xs : List (Tree h)) (x : Tree h) (new : List (Tree h))
      → (items_of (fresh fan h) (fan - length (xs ++ x ∷ [])) (fill fan h lens free x).1 (fill fan h lens free x).2).0 ≡ new
      → made fan (suc h) lens free (k, xs ++ x ∷ []) ≡ made fan h lens free x ++ row_cells h new
  unfolding made
  made_row h lens free k xs x new e = rw (over_last_last (fill fan h) lens free xs x, e, up_to_last_last, joined_none)

  -- its old blocks
  pub kept_row : (h : ℕ) (lens free : List ℕ) (k : ℕ) (xs : List (Tree h)) (x : Tree h) (new : List (Tree h))
      → (items_of (fresh fan h) (fan - length (xs ++ x ∷ [])) (fill fan h lens free x).1 (fill fan h lens free x).2).0 ≡ new
      → kept fan (suc h) lens free (k, xs ++ x ∷ [])
      ≡ (k, top_of (suc h) (k, xs ++ (fill fan h lens free x).0 ∷ new)) ∷ row_cells h xs ++ kept fan h lens free x
  unfolding kept
  kept_row h lens free k xs x new e = rw (fill_row h lens free k xs x new e, up_to_last_last)

module _ (s : ℕ) where
  -- what a slot holds: what the first block says, or else the others
  pub held_cons : (c : ℕ × Cell) (cs : List (ℕ × Cell)) → held (c ∷ cs) s ≡ or_else (held (c ∷ []) s) (held cs s)
  unfolding held or_else pick
  held_cons c cs = go (eqb c.0 s)
    where
      go : (b : Bool) → pick b (just c.1) (held cs s) ≡ or_else (pick b (just c.1) nothing) (held cs s)
      go true = refl
      go false = refl

  -- of two lists: what the first says, or else the second
  pub held_append : (a b : List (ℕ × Cell)) → held (a ++ b) s ≡ or_else (held a s) (held b s)
  unfolding held or_else
  held_append [] b = refl
  held_append (c ∷ cs) b = held_cons c (cs ++ b) ∙ rw (held_append cs b, held_cons c cs, or_else_assoc)

  -- another cell of the same slot
  pub held_none : (k : ℕ) (a b : Cell) → held ((k, a) ∷ []) s ≡ nothing → held ((k, b) ∷ []) s ≡ nothing
  unfolding held pick
  held_none k a b = go (eqb k s)
    where
      go : (c : Bool) → pick c (just a) nothing ≡ nothing → pick c (just b) nothing ≡ nothing
      go true e = cc
      go false e = refl

  -- another slot's block does not count
  skip : (k : ℕ) (a b : Cell) (cs : List (ℕ × Cell)) → held ((k, a) ∷ []) s ≡ nothing → held ((k, b) ∷ cs) s ≡ held cs s
  skip k a b cs e = held_cons (k, b) cs ∙ rw (held_none k a b e, nothing_or)

  module _ (fan : ℕ) where
    -- what a slot holds of a row
    cells_row : (h k : ℕ) (xs : List (Tree h)) (x : Tree h) (new : List (Tree h))
        → held (cells (suc h) (k, xs ++ x ∷ new)) s
        ≡ or_else (held ((k, top_of (suc h) (k, xs ++ x ∷ new)) ∷ []) s)
        (or_else (held (row_cells h xs) s) (or_else (held (cells h x) s) (held (row_cells h new) s)))
    unfolding cells top_of joined
    cells_row h k xs x new = held_cons _ _ ∙ rw (row_cells_append h xs (x ∷ new), held_append (row_cells h xs), held_append (cells h x))

    -- a row with no block has nothing to fill
    none_new : (h : ℕ) (lens free : List ℕ) (k : ℕ) → held (cells (suc h) (k, [])) s ≡ nothing
        → held (cells (suc h) (fill fan (suc h) lens free (k, [])).0) s ≡ held (made fan (suc h) lens free (k, [])) s
    unfolding fill made over_last up_to_last cells joined or_else
    none_new h lens free k e = held_cons _ _ ∙ rw (held_none k _ _ e)

    none_old : (h : ℕ) (lens free : List ℕ) (k : ℕ) → held (made fan (suc h) lens free (k, [])) s ≡ nothing
        → held (cells (suc h) (fill fan (suc h) lens free (k, [])).0) s ≡ held (kept fan (suc h) lens free (k, [])) s
    unfolding fill made kept over_last up_to_last cells joined or_else top_of
    none_old h lens free k e = held_cons _ _ ∙ rw (e, or_else_nothing)

    -- a slot that the old tree has not: what the new blocks say
    abbrev New : ℕ → Type 0
    New h = (lens free : List ℕ) (t : Tree h) → held (cells h t) s ≡ nothing → held (cells h (fill fan h lens free t).0) s
        ≡ held (made fan h lens free t) s

    -- of a row
    new_row : (h : ℕ) → New h → (lens free : List ℕ) (k : ℕ) (l : List (Tree h)) → Ends l → held (cells (suc h) (k, l)) s ≡ nothing
        → held (cells (suc h) (fill fan (suc h) lens free (k, l)).0) s ≡ held (made fan (suc h) lens free (k, l)) s
    new_row h ih lens free k l none e = none_new h lens free k e
    new_row h ih lens free k l (last xs x) e =
        let new : List (Tree h) = (items_of (fresh fan h) (fan - length (xs ++ x ∷ [])) (fill fan h lens free x).1 (fill fan h lens free x).2).0 in
        let e₀ = sym (cells_row h k xs x []) ∙ e in
        let e₁ = none_right _ _ e₀ in
        let e₂ = none_right _ _ e₁ in
        let top : Cell = top_of (suc h) (k, xs ++ (fill fan h lens free x).0 ∷ new) in
        let a : held ((k, top) ∷ []) s ≡ nothing = held_none k _ top (none_left _ _ e₀) in
        let b : held (row_cells h xs) s ≡ nothing = none_left _ _ e₁ in
        rw (
          fill_row fan h lens free k xs x new refl,
          made_row fan h lens free k xs x new refl,
          cells_row h k xs
              (fill fan h lens free x).0 new,
          held_append (made fan h lens free x),
        )
        (rw (a, b, ih lens free x (none_left _ _ e₂)) (simp nothing_or))

    -- of a tree
    pub held_new : (h : ℕ) → New h
    unfolding fill made held
    held_new zero lens free t e = e
    held_new (suc h) lens free t e = new_row h (held_new h) lens free t.0 t.1 (ends t.1) e

    -- a slot that is no new block's: what the old blocks say, filled
    abbrev Old : ℕ → Type 0
    Old h = (lens free : List ℕ) (t : Tree h) → held (made fan h lens free t) s ≡ nothing → held (cells h (fill fan h lens free t).0) s
        ≡ held (kept fan h lens free t) s

    -- of a row
    old_row : (h : ℕ) → Old h → (lens free : List ℕ) (k : ℕ) (l : List (Tree h)) → Ends l → held (made fan (suc h) lens free (k, l)) s ≡ nothing
        → held (cells (suc h) (fill fan (suc h) lens free (k, l)).0) s ≡ held (kept fan (suc h) lens free (k, l)) s
    old_row h ih lens free k l none e = none_old h lens free k e
    old_row h ih lens free k l (last xs x) e =
        let new : List (Tree h) = (items_of (fresh fan h) (fan - length (xs ++ x ∷ [])) (fill fan h lens free x).1 (fill fan h lens free x).2).0 in
        let e₀ = sym (ap (λ l. held l s) (made_row fan h lens free k xs x new refl) ∙ held_append (made fan h lens free x) (row_cells h new)) ∙ e in
        let b : held (row_cells h new) s ≡ nothing = none_right _ _ e₀ in
        rw (
          fill_row fan h lens free k xs x new refl,
          kept_row fan h lens free k xs x new refl,
          cells_row h k xs
              (fill fan h lens free x).0 new,
          ih lens free x (none_left _ _ e₀),
        )
        (rw (b, or_else_nothing) (sym (held_cons _ _ ∙ rw (held_append (row_cells h xs)))))

    -- of a tree
    pub held_old : (h : ℕ) → Old h
    unfolding fill made kept
    held_old zero lens free t e = refl
    held_old (suc h) lens free t e = old_row h (held_old h) lens free t.0 t.1 (ends t.1) e

    -- what a wider root holds in a slot that is not the root
    pub wider_cells : (h : ℕ) (lens free : List ℕ) (t : Tree h) → held ((slot_of h t, top_of h t) ∷ []) s ≡ nothing
        → held (cells (suc h) (wider fan h lens free t).0) s
        ≡ or_else (held ((get_or free 0 past, top_of h t) ∷ []) s)
        (or_else (held (cells h t) s) (held (row_cells h (items_of (fresh fan h) (fan - 1) lens (drop 1 free)).0) s))
    unfolding cells wider joined
    wider_cells h lens free t e =
        rw (moved_cells h (get_or free 0 past) t, top_cells h t)
        (skip (slot_of h t) _ _ _ e ∙ held_cons _ _ ∙ rw (held_append (below h t), skip (slot_of h t) _ _ (below h t) e))
