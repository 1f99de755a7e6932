-- What holds of a blob's slots and of the free slots holds of the slots that the blob has after a write or a resize: a write keeps the
-- slots, a longer blob takes free ones, a shorter one gives some up. Where no free slot is left, the definitions name a number past
-- every pool, of which the claim has to hold as well.
use mathlib.Core.Path.{◌≡◌, sym, subst}
use mathlib.Core.Bool.{Bool, true, false}
use mathlib.Core.List.{List, [], ◌∷◌, ◌++◌, map}
use Prim.Native.Nat.{ℕ, zero, suc, ◌-◌, ◌^◌}
use native.Mathlib.Omega.{arith}
use borrow.Author.Tests.{eqb-true}
use lib.Dec.{leb, eqb}
use lib.ListN.{length, drop, replicate}
use Rattle.meaning.specs.declared.Edition.{Edition}
use Rattle.meaning.specs.Lists.{pick, joined, of_last, map_last, only}
use Rattle.meaning.specs.Bytes.{Cell}
use Rattle.meaning.specs.Tree.{Tree, Blob, slot_of, at_slot, leaves_of, length_of, slots_of, just, held}
use Rattle.meaning.specs.Resize.{Grown, lowest, chain, on_last, roomy, hang, raised, add_leaf, add_leaves, last_leaf, longer}
use Rattle.meaning.specs.Resize.{keep_row, keep, lower, shorter, resized, Spread, along, refill, refilled}
use Rattle.laws.proofs.Inversions.{by_test}
use Rattle.laws.proofs.Every.{Every, every_left, every_right, every_append}
use Rattle.laws.proofs.TreeSlots.{slots, blob_slots}

-- what holds either way holds of the choice
pub picked : {A : Type 0} (Z : A → Type 0) (t : Bool) (x y : A) → Z x → Z y → Z (pick t x y)
unfolding pick
picked Z true x y p q = p
picked Z false x y p q = q

-- a slot that holds a cell is the slot of one of the blocks
pub held_slot : (Q : ℕ → Type 0) (cs : List (ℕ × Cell)) (x : ℕ) (c : Cell) → held cs x ≡ just c → Every Q (map (λ d. d.0) cs) → Q x
unfolding held pick
held_slot Q [] x c p q = let z : ◌≡◌ {A = ℕ} 0 1 = cc in absurd (omega arith)
held_slot Q (d ∷ cs) x c p q =
    by_test (eqb d.0 x)
    (λ t. subst Q (eqb-true d.0 x t) q.0)
    (λ t. held_slot Q cs x c (rw t at p) q.1)

module _ (Q : ℕ → Type 0) where
  -- a row of trees each of which keeps the claim
  along_taken : {A : Type 0} (sl : A → List ℕ) (f : List ℕ → A → Spread A) → ((d : List ℕ) (x : A) → Every Q (sl x) → Every Q (sl (f d x).made))
      → (d : List ℕ) (xs : List A) → Every Q (joined (map sl xs)) → Every Q (joined (map sl (along f d xs).made))
  unfolding along joined
  along_taken sl f g d [] q = tt
  along_taken sl f g d (x ∷ xs) q =
      every_append Q (sl (f d x).made) _ (g d x (every_left Q (sl x) _ q)) (along_taken sl f g (f d x).left xs (every_right Q (sl x) _ q))

  -- the same blocks with other bytes
  refill_taken : (h : ℕ) (d : List ℕ) (t : Tree h) → Every Q (slots h t) → Every Q (slots h (refill h d t).made)
  unfolding refill slots
  refill_taken zero d t q = q
  refill_taken (suc h) d t q = (q.0, along_taken (slots h) (refill h) (refill_taken h) d t.1 q.1)

  -- from a blob's slots to its tree's
  to_tree : (b : Blob) → Every Q (slots_of b) → Every Q (slots b.height b.tree)
  to_tree b q = subst (λ (l : List ℕ). Every Q l) (blob_slots b) q

  -- and back
  to_blob : (b : Blob) → Every Q (slots b.height b.tree) → Every Q (slots_of b)
  to_blob b q = subst (λ (l : List ℕ). Every Q l) (sym (blob_slots b)) q

  -- after a write
  pub refilled_taken : (d : List ℕ) (b : Blob) → Every Q (slots_of b) → Every Q (slots_of (refilled d b))
  unfolding refilled
  refilled_taken d b q = to_blob (refilled d b) (refill_taken b.height d b.tree (to_tree b q))

  -- the tree's own slot
  own_taken : (h : ℕ) (t : Tree h) → Every Q (slots h t) → Q (slot_of h t)
  unfolding slots slot_of
  own_taken zero t q = q.0
  own_taken (suc h) t q = q.0

  -- another slot in its place
  moved_taken : (h s : ℕ) (t : Tree h) → Every Q (slots h t) → Q s → Every Q (slots h (at_slot h s t))
  unfolding slots at_slot
  moved_taken zero s t q r = (r, tt)
  moved_taken (suc h) s t q r = (r, q.1)

  -- the last of a row changed
  last_taken : {A : Type 0} (sl : A → List ℕ) (f : A → A) → ((x : A) → Every Q (sl x) → Every Q (sl (f x)))
      → (xs : List A) → Every Q (joined (map sl xs)) → Every Q (joined (map sl (map_last f xs)))
  unfolding map_last joined
  last_taken sl f g [] q = tt
  last_taken sl f g (x ∷ []) q = every_append Q (sl (f x)) [] (g x (every_left Q (sl x) [] q)) tt
  last_taken sl f g (x ∷ (y ∷ ys)) q =
      every_append Q (sl x) _ (every_left Q (sl x) _ q) (last_taken sl f g (y ∷ ys) (every_right Q (sl x) _ q))

  -- another last leaf
  leaf_taken : (h : ℕ) (d : List ℕ) (t : Tree h) → Every Q (slots h t) → Every Q (slots h (last_leaf h d t))
  unfolding last_leaf slots
  leaf_taken zero d t q = q
  leaf_taken (suc h) d t q = (q.0, last_taken (slots h) (last_leaf h d) (leaf_taken h d) t.1 q.1)

  -- the first of a row
  kept_row : {A : Type 0} (sl : A → List ℕ) (count : A → ℕ) (cut : ℕ → A → A) → ((n : ℕ) (x : A) → Every Q (sl x) → Every Q (sl (cut n x)))
      → (n : ℕ) (xs : List A) → Every Q (joined (map sl xs)) → Every Q (joined (map sl (keep_row count cut n xs)))
  unfolding keep_row joined
  kept_row sl count cut f n [] q = tt
  kept_row {A} sl count cut f n (x ∷ xs) q =
      picked (λ (ys : List A). Every Q (joined (map sl ys))) (eqb n 0) [] _ tt
      (every_append Q (sl (cut n x)) _ (f n x (every_left Q (sl x) _ q)) (kept_row sl count cut f (n - count x) xs (every_right Q (sl x) _ q)))

  -- the first leaves, and the blocks above them
  kept_taken : (h n : ℕ) (t : Tree h) → Every Q (slots h t) → Every Q (slots h (keep h n t))
  unfolding keep slots
  kept_taken zero n t q = q
  kept_taken (suc h) n t q = (q.0, kept_row (slots h) _ (keep h) (kept_taken h) n t.1 q.1)

  -- a root of one child, which takes it over
  only_taken : (h s : ℕ) (b : Blob) (xs : List (Tree h)) → Every Q (slots_of b) → Q s → Every Q (joined (map (slots h) xs))
      → ((x : Tree h) → Every Q (slots h x) → Every Q (slots_of (lower h x)))
      → Every Q (slots_of (only (λ x. lower h (at_slot h s x)) b xs))
  unfolding only joined
  only_taken h s b [] q r p f = q
  only_taken h s b (x ∷ []) q r p f = f (at_slot h s x) (moved_taken h s x (every_left Q (slots h x) [] p) r)
  only_taken h s b (x ∷ (y ∷ ys)) q r p f = q

  -- as often as the root has one child
  lower_taken : (h : ℕ) (t : Tree h) → Every Q (slots h t) → Every Q (slots_of (lower h t))
  unfolding lower slots
  lower_taken zero t q = to_blob (record { height = 0; tree = t }) q
  lower_taken (suc h) t q =
      only_taken h t.0 (record { height = suc h; tree = t }) t.1 (to_blob (record { height = suc h; tree = t }) q) q.0 q.1 (lower_taken h)

  -- shorter
  pub shorter_taken : (e : Edition) (len : ℕ) (b : Blob) → Every Q (slots_of b) → Every Q (slots_of (shorter e len b))
  unfolding shorter
  shorter_taken e len b q = lower_taken b.height _ (leaf_taken b.height _ _ (kept_taken b.height _ b.tree (to_tree b q)))

  module _ (none : Q (2 ^ 32)) where
    -- the claim of both a tree's slots and the free slots left
    abbrev Both : (xs free : List ℕ) → Type 0
    Both xs free = Every Q xs × Every Q free

    pub lowest_taken : (free : List ℕ) → Every Q free → Q (lowest free)
    unfolding lowest
    lowest_taken [] q = none
    lowest_taken (x ∷ xs) q = q.0

    -- the free slots after the lowest
    rest_taken : (free : List ℕ) → Every Q free → Every Q (drop 1 free)
    rest_taken [] q = tt
    rest_taken (x ∷ xs) q = q.1

    -- a chain of new blocks
    chain_taken : (h : ℕ) (d free : List ℕ) → Every Q free → Both (slots h (chain h d free).made) (chain h d free).free
    unfolding chain slots joined
    chain_taken zero d free q = ((lowest_taken free q, tt), rest_taken free q)
    chain_taken (suc h) d free q =
        let r = chain_taken h d (drop 1 free) (rest_taken free q) in
        ((lowest_taken free q, every_append Q (slots h (chain h d (drop 1 free)).made) [] r.0 tt), r.1)

    -- the last of a row changed, with the free slots left
    on_last_taken : {A : Type 0} (sl : A → List ℕ) (f : A → Grown A) → ((x : A) → Every Q (sl x) → Both (sl (f x).made) (f x).free)
        → (xs : List A) (free : List ℕ) → Every Q (joined (map sl xs)) → Every Q free
        → Both (joined (map sl (on_last f xs free).made)) (on_last f xs free).free
    unfolding on_last joined
    on_last_taken sl f g [] free q r = (tt, r)
    on_last_taken sl f g (x ∷ []) free q r = let s = g x (every_left Q (sl x) [] q) in (every_append Q (sl (f x).made) [] s.0 tt, s.1)
    on_last_taken sl f g (x ∷ (y ∷ ys)) free q r =
        let s = on_last_taken sl f g (y ∷ ys) free (every_right Q (sl x) _ q) r in
        (every_append Q (sl x) _ (every_left Q (sl x) _ q) s.0, s.1)

    -- a row of one tree more
    more_taken : {A : Type 0} (sl : A → List ℕ) (xs : List A) (y : A) → Every Q (joined (map sl xs)) → Every Q (sl y)
        → Every Q (joined (map sl (xs ++ (y ∷ []))))
    unfolding joined
    more_taken sl [] y q r = every_append Q (sl y) [] r tt
    more_taken sl (x ∷ xs) y q r = every_append Q (sl x) _ (every_left Q (sl x) _ q) (more_taken sl xs y (every_right Q (sl x) _ q) r)

    -- a chain hung where there is room
    hang_taken : (fan h : ℕ) (d free : List ℕ) (t : Tree h) → Every Q (slots h t) → Every Q free
        → Both (slots h (hang fan h d free t).made) (hang fan h d free t).free
    unfolding hang slots
    hang_taken fan zero d free t q r = (q, r)
    hang_taken fan (suc h) d free t q r =
        let deep = on_last_taken (slots h) (hang fan h d free) (λ x q. hang_taken fan h d free x q r) t.1 free q.1 r in
        let new = chain_taken h d free r in
        picked (λ (g : Grown (Tree (suc h))). Both (slots (suc h) g.made) g.free) (of_last (roomy fan h) t.1) _ _
        ((q.0, deep.0), deep.1)
        ((q.0, more_taken (slots h) t.1 _ q.1 new.0), new.1)

    -- a root one higher
    raised_taken : (h : ℕ) (free : List ℕ) (t : Tree h) → Every Q (slots h t) → Every Q free → Every Q (slots (suc h) (raised h free t))
    unfolding raised slots joined
    raised_taken h free t q r =
        (own_taken h t q, every_append Q (slots h (at_slot h (lowest free) t)) [] (moved_taken h (lowest free) t q (lowest_taken free r)) tt)

    -- one leaf more
    one_taken : (fan : ℕ) (d : List ℕ) (b : Blob) (free : List ℕ) → Every Q (slots_of b) → Every Q free
        → Both (slots_of (add_leaf fan d b free).made) (add_leaf fan d b free).free
    unfolding add_leaf
    one_taken fan d b free q r =
        let h = b.height in
        let up = raised_taken h free b.tree (to_tree b q) r in
        let tall = hang_taken fan (suc h) d (drop 1 free) (raised h free b.tree) up (rest_taken free r) in
        let wide = hang_taken fan h d free b.tree (to_tree b q) r in
        picked (λ (g : Grown Blob). Both (slots_of g.made) g.free) (eqb (length (leaves_of b)) (fan ^ h)) _ _
        (to_blob _ tall.0, tall.1) (to_blob _ wide.0, wide.1)

    -- leaves added one by one
    added_taken : (fan : ℕ) (lens : List ℕ) (b : Blob) (free : List ℕ) → Every Q (slots_of b) → Every Q free
        → Every Q (slots_of (add_leaves fan lens b free))
    unfolding add_leaves
    added_taken fan [] b free q r = q
    added_taken fan (len ∷ lens) b free q r =
        let s = one_taken fan (replicate len 0) b free q r in
        added_taken fan lens _ _ s.0 s.1

    -- longer
    pub longer_taken : (e : Edition) (len : ℕ) (free : List ℕ) (b : Blob) → Every Q (slots_of b) → Every Q free
        → Every Q (slots_of (longer e len free b))
    unfolding longer
    longer_taken e len free b q r = added_taken e.fan _ _ free (to_blob _ (leaf_taken b.height _ b.tree (to_tree b q))) r

    -- after a resize
    pub resized_taken : (e : Edition) (len : ℕ) (free : List ℕ) (b : Blob) → Every Q (slots_of b) → Every Q free
        → Every Q (slots_of (resized e len free b))
    unfolding resized
    resized_taken e len free b q r =
        picked (λ (c : Blob). Every Q (slots_of c)) (leb (length_of b) len) _ _ (longer_taken e len free b q r) (shorter_taken e len b q)
