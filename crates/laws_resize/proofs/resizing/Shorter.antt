-- Shorter: leaves go from the right, the last one left is cut, and the root comes down. The blob has the shape of its new length, the front
-- of its old bytes, its root where it was, and no slot that it did not have.
use mathlib.Core.Path.{◌≡◌, ap, ◌∙◌}
use mathlib.Core.Bool.{true}
use mathlib.Core.List.{append-nil}
use Prim.Native.Nat.{ℕ, zero, suc, ◌-◌, ◌*◌, ◌≤◌, min}
use native.Mathlib.Nat.{mul-le-mul_left}
use native.Mathlib.Omega.{arith}
use lib.ListN.{length, length-take, take}
use lib.Seq.{take-take}
use Rattle.meaning.specs.declared.Edition.{Edition}
use Rattle.meaning.specs.Tree.{Tree, Blob, root_of, content_of, leaves_of, slots_of, length_of}
use Rattle.meaning.specs.Shape.{leaves_for, ShapedTree, Shaped}
use Rattle.meaning.specs.Resize.{last_leaf, last_bytes, keep, lower, shorter}
use Rattle.laws.proofs.Totals.{leaves_zero, leaves_some, leaves_fit, leaves_tight, leaves_is}
use Rattle.laws.proofs.Shapes.{shaped_leaves}
use Rattle.laws.proofs.TreeSlots.{blob_slots}
use Rattle.laws_resize.proofs.resizing.SlotCounts.{times}
use Rattle.laws_resize.proofs.resizing.Last.{padded_is, reaches_last, into_last, tall_leaves, last_length, last_joined, last_slot, last_slots}
use Rattle.laws_resize.proofs.resizing.Last.{last_shaped, LastBytes, last_content}
use Rattle.laws_resize.proofs.resizing.Keeping.{keep_slot, keep_slots, inner_shaped, keep_shaped, KeptBytes, keep_content}
use Rattle.laws_resize.proofs.resizing.Lowering.{last_of, lower_content, lower_root, lower_slots, lower_last, lower_shaped}

-- no slot is taken
pub shorter_slots : (e : Edition) (b : Blob) (len s : ℕ) → times s (slots_of (shorter e len b)) ≤ times s (slots_of b)
unfolding shorter
shorter_slots e b len s =
    let h = b.height in
    let n = leaves_for e.leaf len in
    let d = last_bytes e len n (content_of b) in
    omega (
      arith,
      lower_slots s h (last_leaf h d (keep h n b.tree)),
      ap (times s) (last_slots h d (keep h n b.tree)),
      keep_slots s h n b.tree,
      ap (times s) (blob_slots b),
    )

-- the root stays in its slot
pub shorter_root_lem : (e : Edition) (b : Blob) (len : ℕ) → root_of (shorter e len b) ≡ root_of b
unfolding shorter
shorter_root_lem e b len =
    lower_root b.height _ ∙ last_slot b.height _ _ ∙ unfold root_of in keep_slot b.height (leaves_for e.leaf len) b.tree

module _ (e : Edition) (some : 1 ≤ e.leaf) (two : 2 ≤ e.fan) where
  -- the leaves of a length, where the bytes at hand are as many as they hold or as the longer blob has
  leaves_left : (len L : ℕ) → len ≤ L → leaves_for e.leaf (min (e.leaf * leaves_for e.leaf len) L) ≡ leaves_for e.leaf len
  leaves_left zero zero le = ap (leaves_for e.leaf) (omega arith)
  leaves_left zero (suc L) le =
      let one = leaves_zero e.leaf in
      rw one (leaves_is e.leaf (min (e.leaf * 1) (suc L)) 1 some (omega arith) (omega arith) (omega arith))
  leaves_left (suc len) L le =
      let n = leaves_for e.leaf (suc len) in
      leaves_is e.leaf (min (e.leaf * n) L) n some (leaves_some e.leaf (suc len) some) (omega arith)
      (omega (arith, leaves_tight e.leaf (suc len) some (omega arith)))

  module _ (b : Blob) (s : Shaped e b) (len : ℕ) (less : len ≤ length_of b) where
    -- how many leaves are wanted
    abbrev n : ℕ
    n = leaves_for e.leaf len

    -- they are kept, and the root comes down
    abbrev small : Blob
    small = lower b.height (keep b.height n b.tree)

    -- so much has its shape
    small_shaped : Shaped e small
    unfolding Shaped
    small_shaped = by b.height b.tree s
      where
        by : (h : ℕ) (t : Tree h) → ShapedTree e h true true t → Shaped e (lower h (keep h n t))
        by zero t s = unfold Shaped lower keep in s
        by (suc h) t s =
            lower_shaped e (suc h) (keep (suc h) n t)
            (inner_shaped e some two h (keep_shaped e some two h) true true t n s (leaves_some e.leaf len some))

    -- the bytes that these leaves have
    small_content : content_of small ≡ take (e.leaf * n) (content_of b)
    unfolding Shaped KeptBytes
    small_content =
        lower_content b.height (keep b.height n b.tree)
        ∙ unfold content_of in keep_content e some two b.height true true b.tree n s (leaves_some e.leaf len some)

    -- and their number
    small_leaves : length (leaves_of small) ≡ n
    unfolding length_of
    small_leaves =
        shaped_leaves e some two small small_shaped
        ∙ ap (leaves_for e.leaf) (ap length small_content ∙ length-take (e.leaf * n) (content_of b))
        ∙ leaves_left len (length_of b) less

    -- shorter cuts the last of them
    shorter_is : shorter e len b ≡ last_of (last_bytes e len n (content_of b)) small
    unfolding shorter
    shorter_is = lower_last (last_bytes e len n (content_of b)) b.height (keep b.height n b.tree)

    -- a shorter blob has its shape
    pub shorter_shaped : Shaped e (shorter e len b)
    unfolding Shaped last_of
    shorter_shaped =
        let l = last_length e len n (content_of b) in
        rw shorter_is
        (last_shaped e some two small.height (last_bytes e len n (content_of b))
        (λ tall.
        let many : 2 ≤ n = rw (← small_leaves) (tall_leaves e some two small small_shaped tall) in
        omega (arith, into_last e.leaf len some many))
        (omega arith) small.tree small_shaped)

    -- its bytes are the front of the old ones
    pub shorter_content : content_of (shorter e len b) ≡ take len (content_of b)
    unfolding Shaped LastBytes content_of leaves_of last_of length_of
    shorter_content =
        let C = content_of b in
        let d = last_bytes e len n C in
        let k = e.leaf * (n - 1) in
        let reach = reaches_last e.leaf len some in
        let all : min (e.leaf * n) len ≡ len = omega (arith, leaves_fit e.leaf len some) in
        let none : len - length C ≡ 0 = omega arith in
        let wide : k ≤ e.leaf * n = mul-le-mul_left e.leaf (omega arith) in
        ap content_of shorter_is ∙ last_content e some two small.height d true small.tree small_shaped
        ∙ rw (small_leaves, small_content, take-take k (e.leaf * n) C wide)
        (last_joined e len n C (leaves_some e.leaf len some) (omega arith) reach
        ∙ rw (all, padded_is len C, none) (append-nil (take len C)))
