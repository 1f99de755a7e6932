-- Leaf by leaf, and all at once: the same tree.
use mathlib.Core.Path.{◌≡◌, refl, sym, ◌∙◌}
use mathlib.Core.Bool.{Bool, true, false}
use mathlib.Core.List.{List, [], ◌∷◌, ◌++◌, append_assoc}
use Prim.Native.Nat.{ℕ, zero, suc, ◌-◌, ◌≤◌}
use native.Mathlib.Omega.{arith}
use native.Mathlib.Numerals.{add-one}
use lib.Dec.{ltb}
use lib.ListN.{length, get_or, drop, replicate, length-append}
use borrow.Author.Tests.{ltb-true, ltb-false, lt-ltb}
use Rattle.laws_resize.specs.growth.Forms.{past}
use Rattle.laws_resize.proofs.resizing.Ends.{of_last_snoc, on_last_snoc}
use Rattle.meaning.specs.Lists.{pick, of_last}
use Rattle.meaning.specs.Tree.{Tree}
use Rattle.meaning.specs.Resize.{lowest, chain, roomy, hang}
use Rattle.laws_resize.specs.growth.Grow.{items_of, fresh, over_last, fill}

-- a list is empty or has a last element
pub data Ends {A : Type 0} : List A → Type 0 where
  none : Ends []
  last : (xs : List A) (x : A) → Ends (xs ++ x ∷ [])

-- every list is
pub ends : {A : Type 0} (l : List A) → Ends l
ends [] = none
ends (x ∷ xs) = go (ends xs)
  where
    go : {l : List _} → Ends l → Ends (x ∷ l)
    go none = last [] x
    go (last ys y) = last (x ∷ ys) y

module _ {A : Type 0} where
  -- what over_last does to a last element
  pub over_last_last : (f : List ℕ → List ℕ → A → A × List ℕ × List ℕ) (lens free : List ℕ) (xs : List A) (x : A)
      → over_last f lens free (xs ++ x ∷ []) ≡ (xs ++ (f lens free x).0 ∷ [], (f lens free x).1, (f lens free x).2)
  unfolding over_last
  over_last_last f lens free [] x = refl
  over_last_last f lens free (y ∷ []) x = refl
  over_last_last f lens free (y ∷ (z ∷ ys)) x = rw (over_last_last f lens free (z ∷ ys) x)

  -- a row of new elements: none if no length is left, and else one more
  pub row_of_none : (f : List ℕ → List ℕ → A × List ℕ × List ℕ) (k : ℕ) (free : List ℕ) → items_of f k [] free ≡ ([], [], free)
  unfolding items_of
  row_of_none f zero free = refl
  row_of_none f (suc k) free = refl

  row_of_more : (f : List ℕ → List ℕ → A × List ℕ × List ℕ) (k l : ℕ) (ls free : List ℕ) {a : A × List ℕ × List ℕ} → f (l ∷ ls) free ≡ a
      → items_of f (suc k) (l ∷ ls) free ≡ (a.0 ∷ (items_of f k a.1 a.2).0, (items_of f k a.1 a.2).1, (items_of f k a.1 a.2).2)
  unfolding items_of
  row_of_more f k l ls free e = rw e

-- leaves hung one by one while there is room
unfoldable pub hangs : ℕ → (h : ℕ) → List ℕ → List ℕ → Tree h → Tree h × List ℕ × List ℕ
hangs fan h [] free t = (t, [], free)
hangs fan h (l ∷ ls) free t =
    let x = hang fan h (replicate l 0) free t in
    let more = hangs fan h ls x.free x.made in
    pick (roomy fan h t) more (t, l ∷ ls, free)

module _ (fan h : ℕ) where
  -- with room the first leaf is hung
  pub hangs_room : (l : ℕ) (ls free : List ℕ) (t : Tree h) → roomy fan h t ≡ true
      → hangs fan h (l ∷ ls) free t ≡ hangs fan h ls (hang fan h (replicate l 0) free t).free (hang fan h (replicate l 0) free t).made
  unfolding hangs pick
  hangs_room l ls free t e = rw e

  -- without, none is
  pub hangs_none : (l : ℕ) (ls free : List ℕ) (t : Tree h) → roomy fan h t ≡ false → hangs fan h (l ∷ ls) free t ≡ (t, l ∷ ls, free)
  unfolding hangs pick
  hangs_none l ls free t e = rw e

module _ (fan h : ℕ) where
  -- a row whose last tree is filled, and new trees beside it while there are places and lengths
  unfoldable pub row : ℕ → List (Tree h) → (Tree h × List ℕ × List ℕ) → Tree (suc h) × List ℕ × List ℕ
  row s xs a =
      let r = items_of (fresh fan h) (fan - suc (length xs)) a.1 a.2 in
      ((s, xs ++ a.0 ∷ r.0), r.1, r.2)

  -- what a chain grows to
  abbrev started : ℕ → List ℕ → List ℕ → Tree h × List ℕ × List ℕ
  started l ls free = hangs fan h ls (chain h (replicate l 0) free).free (chain h (replicate l 0) free).made

  -- the last child is filled, then new children come
  abbrev Rows : List ℕ → Type 0
  Rows ls = (free : List ℕ) (s : ℕ) (xs : List (Tree h)) (x : Tree h)
      → hangs fan (suc h) ls free (s, xs ++ x ∷ []) ≡ row s xs (hangs fan h ls free x)

  -- a leaf goes to the last child if that has room
  pub hang_deeper : (d free : List ℕ) (s : ℕ) (xs : List (Tree h)) (x : Tree h) → roomy fan h x ≡ true
      → hang fan (suc h) d free (s, xs ++ x ∷ []) ≡ record { made = (s, xs ++ (hang fan h d free x).made ∷ []); free = (hang fan h d free x).free }
  unfolding hang pick
  hang_deeper d free s xs x e = rw (of_last_snoc (roomy fan h) xs x, e, on_last_snoc)

  -- and else beside it
  pub hang_here : (d free : List ℕ) (s : ℕ) (xs : List (Tree h)) (x : Tree h) → roomy fan h x ≡ false
      → hang fan (suc h) d free (s, xs ++ x ∷ []) ≡ record { made = (s, (xs ++ x ∷ []) ++ (chain h d free).made ∷ []); free = (chain h d free).free }
  unfolding hang pick
  hang_here d free s xs x e = rw (of_last_snoc (roomy fan h) xs x, e)

  -- a row has room if it has a place, or its last tree has
  pub roomy_row : (s : ℕ) (xs : List (Tree h)) (x : Tree h) → roomy fan (suc h) (s, xs ++ x ∷ [])
      ≡ pick (ltb (suc (length xs)) fan) true (roomy fan h x)
  unfolding roomy
  roomy_row s xs x = rw (of_last_snoc (roomy fan h) xs x, length-append xs (x ∷ []), add-one (length xs))

  -- true either way
  pub pick_true : (b : Bool) → pick b true true ≡ true
  unfolding pick
  pick_true true = refl
  pick_true false = refl

  module _ (whole : (l : ℕ) (ls free : List ℕ) → fresh fan h (l ∷ ls) free ≡ started l ls free) where
    -- no place left: no new tree
    row_full : (l : ℕ) (ls free : List ℕ) (s : ℕ) (xs : List (Tree h)) (x : Tree h) → ltb (suc (length xs)) fan ≡ false
        → ((s, xs ++ x ∷ []), l ∷ ls, free) ≡ row s xs (x, l ∷ ls, free)
    unfolding row items_of
    row_full l ls free s xs x e = let z : fan - suc (length xs) ≡ 0 = omega (arith, ltb-false) in rw z

    -- a place left: a new chain is the next tree begun
    row_more : (l : ℕ) (ls free : List ℕ) (s : ℕ) (xs : List (Tree h)) (x : Tree h) → ltb (suc (length xs)) fan ≡ true
        → row s (xs ++ x ∷ []) (started l ls free) ≡ row s xs (x, l ∷ ls, free)
    unfolding row
    row_more l ls free s xs x e =
        let z : fan - suc (length xs) ≡ suc (fan - suc (length (xs ++ x ∷ []))) = simp length-append (omega (arith, ltb-true)) in
        rw (z, row_of_more (fresh fan h) (fan - suc (length (xs ++ x ∷ []))) l ls free (whole l ls free), append_assoc)

    -- one leaf more, by the three cases
    row_next : (l : ℕ) (ls : List ℕ) → Rows ls → (free : List ℕ) (s : ℕ) (xs : List (Tree h)) (x : Tree h)
        (b c : Bool) → roomy fan h x ≡ b → ltb (suc (length xs)) fan ≡ c
        → hangs fan (suc h) (l ∷ ls) free (s, xs ++ x ∷ []) ≡ row s xs (hangs fan h (l ∷ ls) free x)
    unfolding pick
    row_next l ls ih free s xs x true c eb ec =
        rw (
          hangs_room fan (suc h) l ls free (s, xs ++ x ∷ []) (roomy_row s xs x ∙ rw eb (pick_true (ltb (suc (length xs)) fan))),
          hang_deeper
              (replicate l 0) free s xs x eb,
          hangs_room fan h l ls free x eb,
        )
        (ih _ s xs _)
    row_next l ls ih free s xs x false true eb ec =
        rw (
          hangs_room fan (suc h) l ls free (s, xs ++ x ∷ []) (roomy_row s xs x ∙ rw ec),
          hang_here
              (replicate l 0) free s xs x eb,
          hangs_none fan h l ls free x eb,
        )
        (ih _ s (xs ++ x ∷ []) _ ∙ row_more l ls free s xs x ec)
    row_next l ls ih free s xs x false false eb ec =
        rw (hangs_none fan (suc h) l ls free (s, xs ++ x ∷ []) (roomy_row s xs x ∙ rw (ec, eb)), hangs_none fan h l ls free x eb)
        (row_full l ls free s xs x ec)

    -- leaf by leaf, the last child is filled and then new children come
    row_is : (ls : List ℕ) → Rows ls
    unfolding hangs row
    row_is [] free s xs x = rw (row_of_none (fresh fan h) (fan - suc (length xs)) free)
    row_is (l ∷ ls) free s xs x = row_next l ls (row_is ls) free s xs x (roomy fan h x) (ltb (suc (length xs)) fan) refl refl

-- a row that begins with a new tree
row_first : (fan h s : ℕ) (a : Tree h × List ℕ × List ℕ) {r : List (Tree h) × List ℕ × List ℕ} → items_of (fresh (suc fan) h) fan a.1 a.2 ≡ r
    → row (suc fan) h s [] a ≡ ((s, a.0 ∷ r.0), r.1, r.2)
unfolding row
row_first fan h s a e = let z : suc fan - 1 ≡ fan = omega arith in rw (z, e)

-- a chain that grows is a new subtree
pub whole : (fan h l : ℕ) (ls free : List ℕ) → fresh (suc fan) h (l ∷ ls) free ≡ started (suc fan) h l ls free
unfolding fresh hangs chain roomy pick lowest
whole fan zero l [] free = refl
whole fan zero l (k ∷ ls) free = refl
whole fan (suc h) l ls free =
    let f : List ℕ = drop 1 free in
    rw (
      row_of_more (fresh (suc fan) h) fan l ls f (whole fan h l ls f),
      row_is (suc fan) h (whole fan h) ls (chain h (replicate l 0) f).free
          (get_or free 0 past) [] (chain h (replicate l 0) f).made,
    )
    (sym (row_first fan h (get_or free 0 past) (started (suc fan) h l ls f) refl))

-- to fill is to hang while there is room
filled_none : (fan h : ℕ) (ls free : List ℕ) (s : ℕ) → fill (suc fan) (suc h) ls free (s, []) ≡ hangs (suc fan) (suc h) ls free (s, [])
unfolding fill over_last hangs roomy hang of_last pick
filled_none fan h [] free s = rw (row_of_none (fresh (suc fan) h) (suc fan - 0) free)
filled_none fan h (k ∷ ls) free s =
    let z : suc fan - 0 ≡ suc fan = omega arith in
    rw (z, row_of_more (fresh (suc fan) h) fan k ls free (whole fan h k ls free), lt-ltb 0 (suc fan) (omega arith))
    (sym (row_is (suc fan) h (whole fan h) ls (chain h (replicate k 0) free).free s [] (chain h (replicate k 0) free).made
    ∙ row_first fan h s (started (suc fan) h k ls free) refl))

-- so a row is filled by hanging
filled_row : (fan h : ℕ) → ((ls free : List ℕ) (t : Tree h) → fill (suc fan) h ls free t ≡ hangs (suc fan) h ls free t)
    → (ls free : List ℕ) (s : ℕ) (l : List (Tree h)) → Ends l → fill (suc fan) (suc h) ls free (s, l) ≡ hangs (suc fan) (suc h) ls free (s, l)
unfolding fill row
filled_row fan h ih ls free s l none = filled_none fan h ls free s
filled_row fan h ih ls free s l (last xs x) =
    let z : suc fan - length (xs ++ x ∷ []) ≡ suc fan - suc (length xs) = simp length-append (omega arith) in
    rw (over_last_last (fill (suc fan) h) ls free xs x, row_is (suc fan) h (whole fan h) ls free s xs x, ih ls free x, z, append_assoc)

-- and a tree
pub filled : (fan h : ℕ) (ls free : List ℕ) (t : Tree h) → fill (suc fan) h ls free t ≡ hangs (suc fan) h ls free t
unfolding fill hangs roomy pick
filled fan zero [] free t = refl
filled fan zero (l ∷ ls) free t = refl
filled fan (suc h) ls free t = filled_row fan h (filled fan h) ls free t.0 t.1 (ends t.1)

-- the same, for any fan-out from 1
pub filled_by : (fan h : ℕ) → 1 ≤ fan → (ls free : List ℕ) (t : Tree h) → fill fan h ls free t ≡ hangs fan h ls free t
filled_by zero h one ls free t = absurd (omega arith)
filled_by (suc fan) h one ls free t = filled fan h ls free t

pub row_by : (fan h : ℕ) → 1 ≤ fan → (ls free : List ℕ) (s : ℕ) (xs : List (Tree h)) (x : Tree h)
    → hangs fan (suc h) ls free (s, xs ++ x ∷ []) ≡ row fan h s xs (hangs fan h ls free x)
row_by zero h one ls free s xs x = absurd (omega arith)
row_by (suc fan) h one ls free s xs x = row_is (suc fan) h (whole fan h) ls free s xs x
