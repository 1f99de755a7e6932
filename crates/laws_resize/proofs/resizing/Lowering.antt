-- The root comes down: while it has one child only, it takes over that child's row. A tree on the edge becomes a blob with its shape; bytes
-- and root slot stay, no slot is taken, and it is the same whether the last leaf is cut before or after.
use mathlib.Core.Path.{◌≡◌, refl, sym, ap, ◌∙◌}
use mathlib.Core.Bool.{true, false}
use mathlib.Core.List.{List, [], ◌∷◌, append-nil}
use Prim.Native.Nat.{ℕ, zero, suc, ◌≤◌}
use native.Mathlib.Omega.{arith}
use lib.ListN.{length}
use Rattle.meaning.specs.declared.Edition.{Edition}
use Rattle.meaning.specs.Lists.{pick, joined, map_last, only}
use Rattle.meaning.specs.Tree.{Tree, Blob, slot_of, at_slot, content, root_of, content_of, slots_of}
use Rattle.meaning.specs.Shape.{least_count, most_count, InRow, ShapedTree, Shaped}
use Rattle.meaning.specs.Resize.{last_leaf, lower}
use Rattle.laws_resize.proofs.resizing.Ends.{map_last_length}
use Rattle.laws.proofs.TreeSlots.{slots, slots_inner, below, own_slots, moved_slots, moved_slot, blob_slots}
use Rattle.laws_resize.proofs.resizing.SlotCounts.{times, times_cons}
use Rattle.laws_resize.proofs.resizing.Hanging.{moved_shaped, moved_content}

-- a blob with other bytes in its last leaf
unfoldable pub last_of : List ℕ → Blob → Blob
last_of d b = record { height = b.height; tree = last_leaf b.height d b.tree }

-- a root that has not one child stays
lower_stays : (h r : ℕ) (ts : List (Tree h)) → (length ts ≡ 1 → ⊥) → lower (suc h) (r, ts) ≡ record { height = suc h; tree = (r, ts) }
unfolding lower only
lower_stays h r [] other = refl
lower_stays h r (x ∷ []) other = absurd (other refl)
lower_stays h r (x ∷ (y ∷ ys)) other = refl

-- a claim of a tree and its blob, of those whose root stays, and handed on to a root from its only child
by_lowering : (P : (h : ℕ) → Tree h → Blob → Type 0) → ((t : Tree 0) → P 0 t (record { height = 0; tree = t }))
    → ((h r : ℕ) (ts : List (Tree h)) → (length ts ≡ 1 → ⊥) → P (suc h) (r, ts) (record { height = suc h; tree = (r, ts) }))
    → ((h r : ℕ) (x : Tree h) (b : Blob) → P h (at_slot h r x) b → P (suc h) (r, x ∷ []) b)
    → (h : ℕ) (t : Tree h) → P h t (lower h t)
unfolding lower only
by_lowering P leaf stay down zero t = leaf t
by_lowering P leaf stay down (suc h) t = by (by_lowering P leaf stay down h) t.0 t.1
  where
    by : ((t : Tree h) → P h t (lower h t)) → (r : ℕ) (ts : List (Tree h)) → P (suc h) (r, ts) (lower (suc h) (r, ts))
    by each r [] = stay h r [] (λ z. omega arith)
    by each r (x ∷ []) = down h r x (lower h (at_slot h r x)) (each (at_slot h r x))
    by each r (x ∷ (y ∷ ys)) = stay h r (x ∷ (y ∷ ys)) (λ z. omega arith)

-- the bytes stay
pub lower_content : (h : ℕ) (t : Tree h) → content_of (lower h t) ≡ content h t
unfolding content_of content joined
lower_content = by_lowering (λ h t b. content_of b ≡ content h t) (λ t. refl) (λ h r ts other. refl)
    (λ h r x b is. is ∙ moved_content h r x ∙ sym (append-nil (content h x)))

-- the root stays in its slot
pub lower_root : (h : ℕ) (t : Tree h) → root_of (lower h t) ≡ slot_of h t
unfolding root_of slot_of at_slot
lower_root = by_lowering (λ h t b. root_of b ≡ slot_of h t) (λ t. refl) (λ h r ts other. refl) (λ h r x b is. is ∙ moved_slot h r x)

-- no slot is taken
pub lower_slots : (s h : ℕ) (t : Tree h) → times s (slots_of (lower h t)) ≤ times s (slots h t)
unfolding joined
lower_slots s = by_lowering (λ h t b. times s (slots_of b) ≤ times s (slots h t)) (λ t. rw blob_slots (omega arith))
    (λ h r ts other. rw blob_slots (omega arith))
    (λ h r x b le.
    rw (slots_inner h r (x ∷ []), append-nil (slots h x), times_cons s r (slots h x))
    (omega (
      arith,
      ap (times s) (moved_slots h r x),
      ap (times s) (own_slots h x),
      times_cons s r (below h x),
      times_cons s (slot_of h x) (below h x),
    )))

-- the last leaf may be cut before or after
pub lower_last : (d : List ℕ) (h : ℕ) (t : Tree h) → lower h (last_leaf h d t) ≡ last_of d (lower h t)
unfolding lower only last_leaf last_of map_last at_slot
lower_last d = by_lowering (λ h t b. lower h (last_leaf h d t) ≡ last_of d b) (λ t. refl)
    (λ h r ts other. lower_stays h r (map_last (last_leaf h d) ts) (λ z. other (sym (map_last_length (last_leaf h d) ts) ∙ z)))
    (λ h r x b is. ap (lower h) (sym (last_moved h r x)) ∙ is)
  where
    last_moved : (h s : ℕ) (t : Tree h) → last_leaf h d (at_slot h s t) ≡ at_slot h s (last_leaf h d t)
    last_moved zero s t = refl
    last_moved (suc h) s t = refl

-- a tree on the edge comes down to a blob with its shape
pub lower_shaped : (e : Edition) (h : ℕ) (t : Tree h) → ShapedTree e h false true t → Shaped e (lower h t)
unfolding ShapedTree Shaped least_count most_count pick InRow
lower_shaped e = by_lowering (λ h t b. ShapedTree e h false true t → Shaped e b) (λ t p. (omega arith, p.1))
    (λ h r ts other p. (more (length ts) other p.0, p.1, p.2))
    (λ h r x b is p. is (moved_shaped e h false true r x p.2))
  where
    more : (c : ℕ) → (c ≡ 1 → ⊥) → 1 ≤ c → 2 ≤ c
    more zero other low = absurd (omega arith)
    more (suc zero) other low = absurd (other refl)
    more (suc (suc c)) other low = omega arith
