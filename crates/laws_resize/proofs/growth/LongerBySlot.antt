-- Longer, slot by slot: the new blocks, the root, and every other block, by the forms that code computes.
use mathlib.Core.Path.{◌≡◌, refl, sym, ap, ◌∙◌, fun_ext}
use mathlib.Core.Bool.{true}
use mathlib.Core.List.{List, [], map}
use Prim.Native.Nat.{ℕ, zero, suc, ◌+◌, ◌-◌, ◌*◌, ◌^◌, ◌≤◌, ◌<◌}
use native.Mathlib.Nat.{add-zero, mul-le-mul_left, min-zero}
use native.Mathlib.Omega.{arith}
use lib.Dec.{ltb}
use lib.ListN.{length, get_or, drop, length-drop, length-map, get_or-eq_default}
use lib.Seq.{take_all}
use borrow.Author.Tests.{ltb-true, ltb-false}
use Rattle.meaning.specs.declared.Edition.{Edition}
use Rattle.meaning.specs.Lists.{part, padded}
use Rattle.meaning.specs.Edition.{Proper}
use Rattle.meaning.specs.Bytes.{Cell}
use Rattle.meaning.specs.Tree.{Tree, Blob, cells, root_of, content_of, leaves_of, cells_of, slots_of, length_of, nothing, just, held}
use Rattle.meaning.specs.Shape.{leaves_for, total, Shaped}
use Rattle.meaning.specs.Resize.{share, shares, last_bytes, last_leaf, longer}
use Rattle.laws.proofs.Inversions.{by_test}
use Rattle.laws.proofs.Totals.{leaves_fit, leaves_mono}
use Rattle.laws.proofs.Shapes.{shaped_leaves, shaped_height, shaped_blocks}
use Rattle.laws.proofs.Heights.{height_enough}
use Rattle.laws.proofs.Positions.{leaf_some, leaf_at_lem, length_by_last}
use Rattle.laws_resize.proofs.resizing.Longer.{longer_shaped, longer_length}
use Rattle.laws_resize.proofs.resizing.Last.{last_slot, last_slots}
use Rattle.laws.proofs.TreeSlots.{slots_cells}
use Rattle.laws_resize.specs.growth.Sites.{root_row, sites, sites_of, sited, held_by, Once}
use Rattle.laws_resize.specs.growth.Forms.{past, room, space, seat, new_leaves, new_bytes, grown, top_cell, grown_root, grown_new}
use Rattle.laws_resize.specs.growth.Place.{sizes}
use Rattle.laws_resize.specs.growth.Spot.{room_of, space_of, spot, edge_cell}
use Rattle.laws_resize.specs.growth.Room.{Room}
use Rattle.laws_resize.specs.growth.Grow.{grow}
use Rattle.laws_resize.proofs.growth.Taller.{blob_cells}
use Rattle.laws_resize.proofs.growth.Sites.{lacks_held, held_lacks, held_ruled, site_slots}
use Rattle.laws_resize.proofs.growth.Rooms.{shaped_room, numbered}
use Rattle.laws_resize.proofs.growth.Kept.{last_row, same_room, AtEdge, top_grown, edge_kept}
use Rattle.laws_resize.proofs.growth.RoomAtTheRoot.{grown as grown-whole}
use Rattle.laws_resize.proofs.growth.HeldInTheEnd.{Apart, need, after_new, after_old, after_root}
use Rattle.laws_resize.proofs.growth.Blocks.{grow_blocks}

-- as many lengths as were asked for
length_shares : (e : Edition) (len i k : ℕ) → length (shares e len i k) ≡ k
unfolding shares
length_shares e len i zero = refl
length_shares e len i (suc k) = ap suc (length_shares e len (suc i) k)

-- the j-th of them
shares_in : (e : Edition) (len i k j : ℕ) → j < k → get_or (shares e len i k) j 0 ≡ share e len (i + j)
unfolding shares
shares_in e len i zero j less = absurd (omega arith)
shares_in e len i (suc k) zero less = rw add-zero
shares_in e len i (suc k) (suc j) less =
    let z : i + suc j ≡ suc i + j = omega arith in
    rw z (shares_in e len (suc i) k j (omega arith))

-- past them nothing is left to share
shares_past : (e : Edition) (len i : ℕ) → len ≤ e.leaf * i → share e len i ≡ 0
unfolding share
shares_past e len i late = let z : len - e.leaf * i ≡ 0 = omega arith in rw (z, min-zero)

-- so they are the shares of the new leaves
shares_at : (e : Edition) → 1 ≤ e.leaf → (len n : ℕ) (free : List ℕ) → n ≤ leaves_for e.leaf len → (j : ℕ)
    → get_or (shares e len n (leaves_for e.leaf len - n)) j 0 ≡ new_bytes e len n free j
unfolding new_bytes
shares_at e some len n free low j =
    let m = leaves_for e.leaf len - n in
    by_test (ltb j m)
    (λ t. shares_in e len n m j (ltb-true j m t))
    (λ t.
    let late : leaves_for e.leaf len ≤ n + j = omega (arith, ltb-false j m t) in
    get_or-eq_default (shares e len n m) 0 (rw (length_shares e len n m) (ltb-false j m t))
    ∙ sym (shares_past e len (n + j) (omega (arith, leaves_fit e.leaf len some, mul-le-mul_left e.leaf late))))

-- the last leaf changed, a tree has the room that it had
last_room : (fan h : ℕ) (d : List ℕ) (t : Tree h) (r : ℕ) → Room fan h t r → Room fan h (last_leaf h d t) r
last_room fan zero d t r e = e
last_room fan (suc h) d t r e =
    rw (e.split, last_row h d t.0 e.front e.end)
    (record {
      front = e.front;
      end = last_leaf h d e.end;
      left = e.left;
      split = refl;
      full = e.full;
      last = last_room fan h d e.end e.left e.last;
      fits = e.fits;
      room = e.room;
    })

-- a shaped blob that gets len bytes long; its root gets k higher at most
module _ (e : Edition) (p : Proper e) (b : Blob) (shaped : Shaped e b) (len : ℕ) (long : length_of b ≤ len) (free : List ℕ) (k : ℕ)
    (fits : leaves_for e.leaf len ≤ e.fan ^ (b.height + k)) where
  -- its leaves, and the lengths of the new ones
  abbrev pub leaf_count : ℕ
  leaf_count = length (leaves_of b)

  abbrev pub lens : List ℕ
  lens = shares e len leaf_count (leaves_for e.leaf len - leaf_count)

  -- its last leaf's new bytes, and the tree with them
  abbrev pub filling : List ℕ
  filling = last_bytes e len leaf_count (content_of b)

  abbrev pub filled : Tree b.height
  filled = last_leaf b.height filling b.tree

  -- how many new blocks there are
  abbrev pub needed : ℕ
  needed = total e.fan (leaves_for e.leaf len) - total e.fan leaf_count

  -- no leaf goes
  more_leaves : leaf_count ≤ leaves_for e.leaf len
  more_leaves = rw (shaped_leaves e p.some p.two b shaped) (leaves_mono e.leaf (length_of b) len p.some long)

  -- the new ones are as many as the forms say
  new_leaves_lem : length lens ≡ new_leaves e len leaf_count free
  unfolding new_leaves
  new_leaves_lem = length_shares e len leaf_count (leaves_for e.leaf len - leaf_count)

  -- and as long
  new_bytes_lem : sizes lens ≡ new_bytes e len leaf_count free
  new_bytes_lem = fun_ext (shares_at e p.some len leaf_count free more_leaves)

  -- the last leaf's bytes are what is left of the content
  last_data_lem : drop (e.leaf * (leaf_count - 1)) (content_of b) ≡ (get_or (leaves_of b) (leaf_count - 1) (0, [])).1
  unfolding part length_of
  last_data_lem =
      let i = leaf_count - 1 in
      let some = leaf_some e p.some p.two b shaped in
      let d = (get_or (leaves_of b) i (0, [])).1 in
      let all = length_by_last e p.some p.two b shaped i (omega arith) in
      sym (take_all (length d) (drop (e.leaf * i) (content_of b)) (rw length-drop (omega arith)))
      ∙ leaf_at_lem e p.some p.two b shaped i (omega arith)

  -- all leaves before the last are within the length
  last_begins : e.leaf * (leaf_count - 1) ≤ len
  last_begins = omega (
    arith,
    leaf_some e p.some p.two b shaped,
    length_by_last e p.some p.two b shaped (leaf_count - 1)
        (omega (arith, leaf_some e p.some p.two b shaped)),
  )

  -- the root's tree is at the right edge
  at_edge : AtEdge e p.some p.two len leaf_count free lens new_leaves_lem last_begins b.height 0 filling true b.tree
  unfolding Shaped last_bytes leaves_of
  at_edge = record {
    shaped = shaped;
    before = 0;
    begins = omega arith;
    ends = omega arith;
    bytes = ap (padded (share e len (leaf_count - 1))) last_data_lem;
  }

  -- its room
  has_room : Room e.fan b.height filled (e.fan ^ b.height - leaf_count)
  unfolding Shaped leaves_of
  has_room = last_room e.fan b.height filling b.tree _ (shaped_room e p.some p.two b.height true true b.tree shaped)

  -- there is room for all leaves, k heights further
  all_fit : length lens + e.fan ^ b.height ≤ (e.fan ^ b.height - leaf_count) + e.fan ^ (b.height + k)
  all_fit =
      let few = height_enough e.fan leaf_count p.two in
      let tall = ap (λ (h : ℕ). e.fan ^ h) (shaped_height e p.some p.two b shaped) in
      omega (arith, length_shares e len leaf_count (leaves_for e.leaf len - leaf_count), more_leaves)

  -- leaf by leaf, and all at once
  pub longer_grow : longer e len free b ≡ grow e.fan k lens free b.height filled
  unfolding longer
  longer_grow = grown-whole e.fan p.two k b.height lens free filled (e.fan ^ b.height - leaf_count) has_room all_fit

  -- every block stays in its slot when the last leaf fills
  filled_slots : map (λ c. c.0) (cells b.height filled) ≡ map (λ c. c.0) (cells_of b)
  unfolding cells_of
  filled_slots = sym (slots_cells b.height filled) ∙ last_slots b.height filling b.tree ∙ slots_cells b.height b.tree

  -- the last leaf's bytes are no new block
  filled_blocks : length (cells b.height filled) ≡ length (cells_of b)
  filled_blocks =
      sym (length-map (cells b.height filled) (λ c. c.0)) ∙ ap length filled_slots ∙ length-map (cells_of b) (λ c. c.0)

  -- as many new blocks as the block totals differ by
  need_is : need e.fan p.two lens free k b.height filled ≡ needed
  unfolding cells_of
  need_is =
      let now = longer e len free b in
      let s = longer_shaped e p.some p.two b shaped len long free in
      let n = shaped_leaves e p.some p.two now s ∙ ap (leaves_for e.leaf) (longer_length e p.some p.two b shaped len long free) in
      let after = shaped_blocks e p.some p.two now s ∙ ap (total e.fan) n in
      omega (
        arith,
        after,
        ap (λ (c : Blob). length (blob_cells c)) longer_grow,
        grow_blocks e.fan k lens free b.height filled,
        filled_blocks,
        shaped_blocks e p.some p.two b shaped,
      )

  -- what the old root holds when it is full
  top_is : edge_cell e.fan lens free b.height filled ≡ top_cell e len leaf_count free b.height (root_row b)
  unfolding top_cell root_row
  top_is = top_grown e p.some p.two len leaf_count free lens new_leaves_lem last_begins b.height 0 filling true b.tree at_edge

  -- room, space and places, by numbers
  by_numbers : (room_of e.fan b.height filled ≡ room e.fan b.height leaf_count)
      × (space_of e.fan b.height filled ≡ space e.fan b.height leaf_count)
      × ((q : ℕ) → spot e.fan b.height filled q ≡ seat e.fan b.height leaf_count q)
  unfolding Shaped leaves_of
  by_numbers =
      let same = same_room e.fan b.height filling b.tree in
      let nums = numbered e p.some p.two b.height true b.tree shaped 0 leaf_count (omega arith) in
      (same.0 ∙ nums.0, same.1 ∙ nums.1, λ q. same.2 q ∙ nums.2 q)

  -- a slot that the blob has not, the filled tree has not
  filled_lacks : (s : ℕ) → held (cells_of b) s ≡ nothing → held (cells b.height filled) s ≡ nothing
  filled_lacks s out = lacks_held s (cells b.height filled) (rw filled_slots (held_lacks s (cells_of b) out))

  -- the new block q is in the q-th usable slot
  pub longer_new : Apart needed free → (q : ℕ) → q < needed → held (cells_of b) (get_or free q past) ≡ nothing
      → held (cells_of (longer e len free b)) (get_or free q past) ≡ just (grown_new e len leaf_count free k b.height (root_row b) q)
  unfolding cells_of longer grown_new
  longer_new apart q less out =
      let n = by_numbers in
      let a = after_new e.fan p.two lens free k b.height filled (e.fan ^ b.height - leaf_count) has_room all_fit
      (rw need_is apart) q (rw need_is less) (filled_lacks (get_or free q past) out) in
      rw (n.0, n.1, n.2 q, new_leaves_lem, new_bytes_lem, top_is) at a

  -- the root
  pub longer_root : held (cells_of (longer e len free b)) (root_of b) ≡ just (grown_root e len leaf_count free k b.height (root_row b))
  unfolding cells_of longer grown_root root_of
  longer_root =
      let n = by_numbers in
      let a = after_root e.fan p.two lens free k b.height filled (e.fan ^ b.height - leaf_count) has_room all_fit in
      rw (last_slot b.height filling b.tree, n.0, n.1, new_leaves_lem, new_bytes_lem, top_is) at a

  -- every other block
  pub longer_old : Once (slots_of b) → (s : ℕ) → ((q : ℕ) → q < needed → get_or free q past ≡ s → ⊥) → (root_of b ≡ s → ⊥)
      → held (cells_of (longer e len free b)) s ≡ held_by (grown e len leaf_count free) (sited (sites_of b) s)
  unfolding cells_of longer root_of sites_of
  longer_old once s out other =
      after_old e.fan p.two lens free k b.height filled (e.fan ^ b.height - leaf_count) has_room all_fit s (rw need_is out)
      (rw (last_slot b.height filling b.tree) other)
      ∙ ap (λ (cs : List (ℕ × Cell)). held cs s)
      (edge_kept e p.some p.two len leaf_count free lens new_leaves_lem last_begins b.height 0 filling true b.tree at_edge)
      ∙ held_ruled (grown e len leaf_count free) (sites b.height 0 b.tree) s (rw (site_slots b) once)
