-- Longer: the last leaf fills with zeros, then leaves are added one by one. The blob has the shape of its new length, its old bytes with
-- zeros after them, its root where it was, and as many of the first free slots as the block totals differ by.
use mathlib.Core.Path.{◌≡◌, refl, sym, ap, ◌∙◌}
use mathlib.Core.Bool.{true, false}
use mathlib.Core.List.{List, [], ◌∷◌, ◌++◌, append-nil, append_assoc}
use Prim.Native.Nat.{ℕ, zero, suc, ◌+◌, ◌-◌, ◌*◌, ◌^◌, ◌≤◌, ◌<◌, min}
use native.Mathlib.Nat.{mul-le-mul_left}
use native.Mathlib.Decide.{ℕ_discrete}
use native.Mathlib.Omega.{arith}
use lib.ListN.{length, length-append, length-replicate, replicate-append-replicate, take, drop, replicate}
use borrow.Author.Tests.{eq-eqb, ne_eqb}
use Rattle.meaning.specs.declared.Edition.{Edition}
use Rattle.meaning.specs.Lists.{pick, joined, of_last, padded}
use Rattle.meaning.specs.Tree.{Tree, Blob, slot_of, at_slot, content, leaves, root_of, content_of, leaves_of, slots_of, length_of}
use Rattle.meaning.specs.Shape.{leaves_for, total, least_count, InRow, ShapedTree, Shaped}
use Rattle.meaning.specs.Resize.{lowest, roomy, hang, raised, add_leaf, add_leaves, last_leaf, share, shares, last_bytes, longer}
use Rattle.laws.proofs.Totals.{leaves_some, leaves_fit, leaves_mono, leaves_is}
use Rattle.laws.proofs.Heights.{height_enough}
use Rattle.laws.proofs.Shapes.{shaped_leaves, shaped_height, shaped_slots}
use Rattle.laws.proofs.Codec.{padded_length, padded_fits}
use Rattle.laws.proofs.TreeSlots.{slots, slots_inner, below, own_slots, moved_slots, blob_slots}
use Rattle.laws_resize.proofs.resizing.SlotCounts.{times, slots_for, Grows, grows_none, grows_then}
use Rattle.laws_resize.proofs.resizing.Last.{before_last, reaches_last, into_last, tall_leaves, last_length, last_joined}
use Rattle.laws_resize.proofs.resizing.Last.{last_slot, last_slots, last_shaped, LastBytes, last_content}
use Rattle.laws_resize.proofs.resizing.Hanging.{moved_shaped, moved_content, moved_roomy, room_none, room_some, hang_slot}
use Rattle.laws_resize.proofs.resizing.Hanging.{Full, Told, told, Whole, whole, hung_broad, Hangs, hangs}

-- the root's row in the first free slot, under the root
raised_grows : (h : ℕ) (t : Tree h) (free : List ℕ) → Grows free (slots h t) (slots (suc h) (raised h free t)) (drop 1 free)
unfolding raised joined lowest times
raised_grows h t free = record {
  k = 1;
  more = rw (own (lowest free), own_slots h t) (omega arith);
  taken = taken free;
  left = refl;
}
  where
    own : (s : ℕ) → slots (suc h) (slot_of h t, at_slot h s t ∷ []) ≡ slot_of h t ∷ s ∷ below h t
    own s = slots_inner h (slot_of h t) (at_slot h s t ∷ []) ∙ rw (append-nil (slots h (at_slot h s t)), moved_slots h s t)

    taken : (free : List ℕ) → 1 ≤ length free → (s : ℕ)
        → times s (slots (suc h) (slot_of h t, at_slot h (lowest free) t ∷ [])) ≡ times s (slots h t) + times s (take 1 free)
    taken [] enough s = absurd (omega arith)
    taken (x ∷ free) enough s = rw (own x, own_slots h t) (omega arith)

-- one blob is another with such bytes after its own and, of the free slots, the first in its new blocks
pub record Longer (e : Edition) (d free : List ℕ) (b b' : Blob) (rest : List ℕ) : Type 0 where
  pub shaped : Shaped e b'
  pub bytes : content_of b' ≡ content_of b ++ d
  pub root : root_of b' ≡ root_of b
  pub grows : Grows free (slots_of b) (slots_of b') rest

module _ (e : Edition) (some : 1 ≤ e.leaf) (two : 2 ≤ e.fan) where
  module _ (d : List ℕ) (low : 1 ≤ length d) (high : length d ≤ e.leaf) where
    -- a leaf added under a new root row
    added_tall : (h : ℕ) (t : Tree h) (free : List ℕ) → ShapedTree e h true true t → Full e some two h t → roomy e.fan h t ≡ false
        → let new = hang e.fan (suc h) d (drop 1 free) (raised h free t) in
        Longer e d free (record { height = h; tree = t }) (record { height = suc h; tree = new.made }) new.free
    unfolding Whole Shaped root_of content_of raised content joined of_last InRow least_count pick slot_of
    added_tall h t free s f off =
        let moved = at_slot h (lowest free) t in
        let g = hung_broad e some two d (drop 1 free) low high h true (slot_of h t) (moved ∷ []) (moved_roomy e.fan h (lowest free) t ∙ off)
        (moved_shaped e h false false (lowest free) t (whole e some two h true t s off f)) two (omega arith) in
        record {
          shaped = g.shaped;
          bytes = g.bytes ∙ rw (append-nil (content h moved), moved_content h (lowest free) t);
          root = hang_slot e.fan (suc h) d (drop 1 free) (raised h free t);
          grows = rw (blob_slots _, blob_slots _) (grows_then free _ _ _ _ _ (raised_grows h t free) g.grows);
        }

    -- a leaf added to a blob whose leaves are full
    added : (b : Blob) (free : List ℕ) → Shaped e b → length_of b ≡ e.leaf * length (leaves_of b)
        → Longer e d free b (add_leaf e.fan d b free).made (add_leaf e.fan d b free).free
    unfolding add_leaf Shaped Full length_of content_of leaves_of root_of pick Told Hangs
    added b free s f = by (ℕ_discrete (length (leaves h t)) (e.fan ^ h))
      where
        h : ℕ
        h = b.height

        t : Tree h
        t = b.tree

        fits : length (leaves h t) ≤ e.fan ^ h
        fits = omega (
          arith,
          height_enough e.fan (length (leaves_of b)) two,
          ap (λ (x : ℕ). e.fan ^ x) (shaped_height e some two b s),
        )

        by : Dec (length (leaves h t) ≡ e.fan ^ h) → Longer e d free b (add_leaf e.fan d b free).made (add_leaf e.fan d b free).free
        by (yes p) = rw (eq-eqb _ _ p) (added_tall h t free s f (room_none _ _ _ (told e some two h true t s) p))
        by (no p) =
            let g = hangs e some two d free low high h true t s (room_some _ _ _ (told e some two h true t s) fits p) f in
            rw (ne_eqb _ _ p) (record {
              shaped = g.shaped;
              bytes = g.bytes;
              root = hang_slot e.fan h d free t;
              grows = rw (blob_slots _, blob_slots _) g.grows;
            })

  -- nothing added
  none_added : (b : Blob) (free : List ℕ) → Shaped e b → Longer e [] free b b free
  none_added b free s = record { shaped = s; bytes = sym (append-nil (content_of b)); root = refl; grows = grows_none free (slots_of b) }

  -- zeros added twice
  added_then : (m m' k : ℕ) (free : List ℕ) (b b' b'' : Blob) (free' : List ℕ) → k ≡ m + m' → Longer e (replicate m 0) free b b' free'
      → (rest : List ℕ) × Longer e (replicate m' 0) free' b' b'' rest → (rest : List ℕ) × Longer e (replicate k 0) free b b'' rest
  added_then m m' k free b b' b'' free' is l l' = (
    l'.0,
    record {
      shaped = l'.1.shaped;
      bytes = l'.1.bytes ∙ rw (l.bytes, is, ← replicate-append-replicate {A = ℕ} m m' 0) (append_assoc (content_of b) (replicate m 0) (replicate m' 0));
      root = l'.1.root ∙ l.root;
      grows = grows_then free (slots_of b) (slots_of b') free' (slots_of b'') l'.0 l.grows l'.1.grows;
    },
  )

  -- a blob whose bytes fill n leaves has n leaves, all full
  filled_full : (b : Blob) (n : ℕ) → Shaped e b → 1 ≤ n → length_of b ≡ e.leaf * n → length_of b ≡ e.leaf * length (leaves_of b)
  filled_full b n s has is =
      let count = shaped_leaves e some two b s ∙ ap (leaves_for e.leaf) is
      ∙ leaves_is e.leaf (e.leaf * n) n some has (omega arith) (omega arith) in
      is ∙ ap (λ (x : ℕ). e.leaf * x) (sym count)

  -- leaves of zeros added to n full ones, k of them, so that there are as many as len needs
  adds : (len k n : ℕ) (b : Blob) (free : List ℕ) → Shaped e b → 1 ≤ n → len ≤ e.leaf * (n + k)
      → (1 ≤ k → (length_of b ≡ e.leaf * n) × (e.leaf * (n + k) < len + e.leaf))
      → (rest : List ℕ) × Longer e (replicate (len - e.leaf * n) 0) free b (add_leaves e.fan (shares e len n k) b free) rest
  unfolding add_leaves shares share length_of
  adds len zero n b free s has fits more =
      let z : len - e.leaf * n ≡ 0 = omega arith in
      rw z (free, none_added b free s)
  adds len (suc k) n b free s has fits more =
      let m = min e.leaf (len - e.leaf * n) in
      let d : List ℕ = replicate m 0 in
      let now = more (omega arith) in
      let long : length d ≡ m = length-replicate m 0 in
      let below : e.leaf * n ≤ e.leaf * (n + k) = mul-le-mul_left e.leaf (omega arith) in
      let one = added d (omega (arith, now.1)) (omega arith) b free s (filled_full b n s has now.0) in
      let b' = (add_leaf e.fan d b free).made in
      let next : 1 ≤ k → (length_of b' ≡ e.leaf * suc n) × (e.leaf * (suc n + k) < len + e.leaf) =
      (λ more.
      let wide : e.leaf * suc n ≤ e.leaf * (n + k) = mul-le-mul_left e.leaf (omega arith) in
      (ap length one.bytes ∙ length-append (content_of b) d ∙ omega (arith, now.0, now.1), omega (arith, now.1))) in
      let rest = adds len k (suc n) b' (add_leaf e.fan d b free).free one.shaped (omega arith) (omega arith) next in
      added_then m (len - e.leaf * suc n) (len - e.leaf * n) free b b' _ _ (omega arith) one rest

  module _ (b : Blob) (s : Shaped e b) (len : ℕ) (more : length_of b ≤ len) (free : List ℕ) where
    -- how many leaves it has
    abbrev n : ℕ
    n = length (leaves_of b)

    -- it is the count for its length
    count : n ≡ leaves_for e.leaf (length_of b)
    count = shaped_leaves e some two b s

    -- the blob with its last leaf filled
    abbrev filled : Blob
    filled = record { height = b.height; tree = last_leaf b.height (last_bytes e len n (content_of b)) b.tree }

    -- it has its shape
    filled_shaped : Shaped e filled
    unfolding Shaped
    filled_shaped =
        let l = last_length e len n (content_of b) in
        last_shaped e some two b.height (last_bytes e len n (content_of b))
        (λ tall.
        let many = tall_leaves e some two b s tall in
        let into = rw (← count) at (into_last e.leaf (length_of b) some (rw (← count) many)) in
        omega arith)
        (omega arith) b.tree s

    -- and the bytes, with zeros as far as the leaves and the length go
    filled_content : content_of filled ≡ padded (min (e.leaf * n) len) (content_of b)
    unfolding Shaped content_of leaves_of LastBytes length_of
    filled_content =
        let reach : e.leaf * (n - 1) ≤ length_of b = rw count (reaches_last e.leaf (length_of b) some) in
        last_content e some two b.height (last_bytes e len n (content_of b)) true b.tree s
        ∙ last_joined e len n (content_of b) (rw count (leaves_some e.leaf (length_of b) some)) reach (omega arith)

    -- filled, then as many leaves added as the length needs
    lengthens : (rest : List ℕ) × Longer e (replicate (len - length_of b) 0) free b (longer e len free b) rest
    unfolding longer length_of root_of
    lengthens =
        let m = leaves_for e.leaf len in
        let L = length_of b in
        let has : 1 ≤ n = rw count (leaves_some e.leaf L some) in
        let fits : L ≤ e.leaf * n = rw count (leaves_fit e.leaf L some) in
        let all : n + (m - n) ≡ m = omega (arith, count, leaves_mono e.leaf L len some more) in
        let first : Longer e (replicate (min (e.leaf * n) len - L) 0) free b filled free =
        record {
          shaped = filled_shaped;
          bytes = filled_content ∙ padded_fits (min (e.leaf * n) len) (content_of b) (omega arith);
          root = last_slot b.height (last_bytes e len n (content_of b)) b.tree;
          grows = rw (blob_slots filled, last_slots b.height (last_bytes e len n (content_of b)) b.tree, ← blob_slots b) (grows_none free (slots_of b));
        } in
        let next : 1 ≤ m - n → (length_of filled ≡ e.leaf * n) × (e.leaf * (n + (m - n)) < len + e.leaf) =
        (λ short.
        let into = into_last e.leaf len some (omega arith) in
        let tight = before_last e.leaf m (omega arith) in
        let wide : e.leaf * n ≤ e.leaf * (m - 1) = mul-le-mul_left e.leaf (omega arith) in (
          ap length filled_content ∙ padded_length (min (e.leaf * n) len) (content_of b) ∙ omega arith,
          rw all (omega arith),
        )) in
        added_then (min (e.leaf * n) len - L) (len - e.leaf * n) (len - L) free b filled _ free (omega arith) first
        (adds len (m - n) n filled free filled_shaped has (rw all (leaves_fit e.leaf len some)) next)

    -- a longer blob has its shape
    pub longer_shaped : Shaped e (longer e len free b)
    longer_shaped = lengthens.1.shaped

    -- its bytes are the old ones, with zeros after them
    pub longer_content : content_of (longer e len free b) ≡ content_of b ++ replicate (len - length_of b) 0
    longer_content = lengthens.1.bytes

    -- as many as was asked
    pub longer_length : length_of (longer e len free b) ≡ len
    unfolding length_of
    longer_length =
        let l = length-replicate {A = ℕ} (len - length_of b) 0 in
        ap length longer_content ∙ length-append (content_of b) (replicate (len - length_of b) 0) ∙ omega arith

    -- its root stays in its slot
    pub longer_root : root_of (longer e len free b) ≡ root_of b
    longer_root = lengthens.1.root

    -- its slots are the old ones and the first free ones, as many as the block totals differ by
    pub longer_slots : let k = total e.fan (leaves_for e.leaf len) - total e.fan (length (leaves_of b)) in
        k ≤ length free → (s : ℕ) → times s (slots_of (longer e len free b)) ≡ times s (slots_of b) + times s (take k free)
    longer_slots enough x =
        let g = lengthens.1.grows in
        let now = longer e len free b in
        let k : g.k ≡ total e.fan (leaves_for e.leaf len) - total e.fan n =
        omega (
          arith,
          g.more,
          shaped_slots e some two b s,
          slots_for e some two now longer_shaped,
          ap (λ (l : ℕ). total e.fan (leaves_for e.leaf l)) longer_length,
        ) in
        rw (← k) (g.taken (rw k enough) x)
