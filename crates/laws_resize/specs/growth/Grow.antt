-- The tree after many leaves are added, each new block made once, whole.
-- A function that takes leaf lengths and free slots gives what it made, the lengths left and the slots left.
use Rattle.std.specs.Prelude.{List, [], ◌∷◌, ◌++◌, ℕ, zero, suc, ◌-◌, length, get_or, drop, replicate}
use Rattle.laws_resize.specs.growth.Forms.{past}
use Rattle.meaning.specs.Tree.{Tree, Blob, at_slot, slot_of}

-- up to k new elements, while lengths are left
unfoldable pub items_of : {A : Type 0} → (List ℕ → List ℕ → A × List ℕ × List ℕ) → ℕ → List ℕ → List ℕ → List A × List ℕ × List ℕ
items_of f zero lens free = ([], lens, free)
items_of f (suc k) [] free = ([], [], free)
items_of f (suc k) (l ∷ ls) free =
    let x = f (l ∷ ls) free in
    let r = items_of f k x.1 x.2 in
    (x.0 ∷ r.0, r.1, r.2)

-- a new subtree of height h, with as many of the leaves as it can hold
unfoldable pub fresh : ℕ → (h : ℕ) → List ℕ → List ℕ → Tree h × List ℕ × List ℕ
fresh fan zero lens free = ((get_or free 0 past, replicate (get_or lens 0 0) 0), drop 1 lens, drop 1 free)
fresh fan (suc h) lens free =
    let r = items_of (fresh fan h) fan lens (drop 1 free) in
    ((get_or free 0 past, r.0), r.1, r.2)

-- the last element, changed; of none, nothing
unfoldable pub over_last : {A : Type 0} → (List ℕ → List ℕ → A → A × List ℕ × List ℕ) → List ℕ → List ℕ → List A → List A × List ℕ × List ℕ
over_last f lens free [] = ([], lens, free)
over_last f lens free (x ∷ []) = let a = f lens free x in (a.0 ∷ [], a.1, a.2)
over_last f lens free (x ∷ (y ∷ ys)) = let r = over_last f lens free (y ∷ ys) in (x ∷ r.0, r.1, r.2)

-- a subtree of the right edge with as many more leaves as it can hold: its last child first, then new children
unfoldable pub fill : ℕ → (h : ℕ) → List ℕ → List ℕ → Tree h → Tree h × List ℕ × List ℕ
fill fan zero lens free t = (t, lens, free)
fill fan (suc h) lens free t =
    let a = over_last (fill fan h) lens free t.1 in
    let r = items_of (fresh fan h) (fan - length t.1) a.1 a.2 in
    ((t.0, a.0 ++ r.0), r.1, r.2)

-- a full root: its content goes to the next free slot, and the root, one higher, has that child and new ones
unfoldable pub wider : ℕ → (h : ℕ) → List ℕ → List ℕ → Tree h → Tree (suc h) × List ℕ × List ℕ
wider fan h lens free t =
    let r = items_of (fresh fan h) (fan - 1) lens (drop 1 free) in
    ((slot_of h t, at_slot h (get_or free 0 past) t ∷ r.0), r.1, r.2)

-- so while leaves are left, k times at most
unfoldable pub higher : ℕ → ℕ → List ℕ → List ℕ → (h : ℕ) → Tree h → Blob
higher fan zero lens free h t = record { height = h; tree = t }
higher fan (suc k) [] free h t = record { height = h; tree = t }
higher fan (suc k) (l ∷ ls) free h t =
    let a = wider fan h (l ∷ ls) free t in
    higher fan k a.1 a.2 (suc h) a.0

-- the whole: the old right edge is filled, then the tree gets higher
unfoldable pub grow : ℕ → ℕ → List ℕ → List ℕ → (h : ℕ) → Tree h → Blob
grow fan k lens free h t = let a = fill fan h lens free t in higher fan k a.1 a.2 h a.0
