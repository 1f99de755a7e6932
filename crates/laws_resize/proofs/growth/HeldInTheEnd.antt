-- What each slot holds after growth, in the end: the facts that a loop over the slots needs.
use mathlib.Core.Path.{◌≡◌, refl, sym, ap, ◌∙◌}
use mathlib.Core.List.{List, [], ◌∷◌}
use Prim.Native.Nat.{ℕ, zero, suc, ◌+◌, ◌^◌, ◌≤◌, ◌<◌}
use native.Mathlib.Omega.{arith}
use lib.ListN.{length, get_or, drop}
use borrow.Author.Tests.{eq-eqb, ne_eqb}
use Rattle.laws_resize.specs.growth.Forms.{past, root_cell, new_cell}
use Rattle.laws_resize.specs.growth.Place.{sizes}
use Rattle.laws_resize.specs.growth.Spot.{spot, room_of, space_of, edge_cell}
use Rattle.meaning.specs.Lists.{pick}
use Rattle.meaning.specs.Bytes.{Cell}
use Rattle.meaning.specs.Tree.{Tree, cells, slot_of, nothing, just, held}
use Rattle.meaning.specs.Resize.{add_leaves}
use Rattle.laws_resize.specs.growth.Room.{Room}
use Rattle.laws_resize.specs.growth.Made.{kept, grow_made}
use Rattle.laws_resize.proofs.growth.Taller.{blob_cells, Distinct, grow_old, grow_new, grow_root}
use Rattle.laws_resize.proofs.growth.Order.{Follows, grow_follows}
use Rattle.laws_resize.proofs.growth.Higher.{grow_spot}
use Rattle.laws_resize.proofs.growth.RootAsItRises.{root_is, edge_is}
use Rattle.laws_resize.proofs.growth.PthOfSubtree.{none as no_cell}
use Rattle.laws_resize.proofs.growth.RoomAtTheRoot.{grown, blob}

-- the slots after the first
drop_at : (p : ℕ) (l : List ℕ) → get_or (drop 1 l) p past ≡ get_or l (suc p) past
drop_at p [] = refl
drop_at p (x ∷ xs) = refl

-- a slot that is none of the slots taken
follows_none : (s : ℕ) (cs : List (ℕ × Cell)) (free : List ℕ) → Follows cs free → ((p : ℕ) → p < length cs → get_or free p past ≡ s → ⊥) → held cs s
    ≡ nothing
unfolding held pick
follows_none s [] free f n = refl
follows_none s (c ∷ cs) free f n =
    rw (ne_eqb c.0 s (λ e. n 0 (omega arith) (sym f.0 ∙ e)))
    (follows_none s cs (drop 1 free) f.1 (λ p l e. n (suc p) (omega arith) (sym (drop_at p free) ∙ e)))

-- no slot twice among the first n
abbrev pub Apart : ℕ → List ℕ → Type 0
Apart n free = (p q : ℕ) → p < q → q < n → get_or free q past ≡ get_or free p past → ⊥

-- slots taken from a list that has none twice are none twice
follows_distinct : (cs : List (ℕ × Cell)) (free : List ℕ) → Follows cs free → Apart (length cs) free → Distinct cs
follows_distinct [] free f a = tt
follows_distinct (c ∷ cs) free f a = (
  follows_none c.0 cs (drop 1 free) f.1 (λ p l e. a 0 (suc p) (omega arith) (omega arith) (sym (drop_at p free) ∙ e ∙ f.0)),
  follows_distinct cs (drop 1 free) f.1 (λ p q l m e. a (suc p) (suc q) (omega arith) (omega arith) (sym (drop_at q free) ∙ e ∙ drop_at p free)),
)

-- what the slot of the p-th block holds, where no slot stands twice
distinct_at : (cs : List (ℕ × Cell)) (d : ℕ × Cell) → Distinct cs → (p : ℕ) → p < length cs → held cs (get_or cs p d).0 ≡ just (get_or cs p d).1
unfolding held pick
distinct_at [] d n p less = absurd (omega arith)
distinct_at (c ∷ cs) d n zero less = rw (eq-eqb c.0 c.0 refl)
distinct_at (c ∷ cs) d n (suc p) less =
    let ih = distinct_at cs d n.1 p (omega arith) in
    rw (ne_eqb c.0 (get_or cs p d).0 (λ e. let z : ◌≡◌ {A = ℕ} 0 1 = cc (ih, n.0, e) in omega arith)) ih

module _ (fan : ℕ) (two : 2 ≤ fan) (lens free : List ℕ) (k h : ℕ) (t : Tree h) where
  -- the blocks after, and how many are new
  abbrev pub after : List (ℕ × Cell)
  after = blob_cells (add_leaves fan lens (blob h t) free)

  abbrev pub need : ℕ
  need = length (grow_made fan k lens free h t)

  module _ (r : ℕ) (room : Room fan h t r) (fits : length lens + fan ^ h ≤ r + fan ^ (h + k)) where
    -- the p-th slot taken holds the p-th new block
    pub after_new : Apart need free → (p : ℕ) → p < need → held (cells h t) (get_or free p past) ≡ nothing
        → held after (get_or free p past) ≡ just
        (new_cell fan (length lens) (sizes lens) free k h (spot fan h t p) (room_of fan h t) (space_of fan h t) (edge_cell fan lens free h t) p)
    after_new a p less out =
        let m : List (ℕ × Cell) = grow_made fan k lens free h t in
        let d : Distinct m = follows_distinct m free (grow_follows fan k lens free h t) a in
        let g = grow_spot fan (omega arith) lens free k h t p less in
        let at = distinct_at m (no_cell fan (omega arith) lens free) d p less in
        rw (grown fan two k h lens free t r room fits, ← edge_is fan (omega arith) lens free h t)
        (grow_new (get_or free p past) fan k lens free h t out d ∙ (rw g at at))

    -- the root
    pub after_root : held after (slot_of h t)
        ≡ just (root_cell fan (length lens) (sizes lens) free k h (room_of fan h t) (space_of fan h t) (edge_cell fan lens free h t))
    after_root =
        rw (grown fan two k h lens free t r room fits, ← edge_is fan (omega arith) lens free h t)
        (grow_root fan k lens free h t ∙ ap just (root_is fan (omega arith) lens free k h t))

    -- a slot neither taken nor the root's
    pub after_old : (s : ℕ) → ((p : ℕ) → p < need → get_or free p past ≡ s → ⊥) → (slot_of h t ≡ s → ⊥) → held after s ≡ held (kept fan h lens free t) s
    unfolding held pick
    after_old s n other =
        rw (grown fan two k h lens free t r room fits)
        (grow_old s fan k lens free h t (rw (ne_eqb (slot_of h t) s other))
        (follows_none s (grow_made fan k lens free h t) free (grow_follows fan k lens free h t) n))
