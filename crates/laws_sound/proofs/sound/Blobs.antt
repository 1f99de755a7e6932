-- Blobs that lie in a pool: not too high, with a root's record at the root and part's records below it, of the right shape, each of whose
-- blocks reads as its cell. The walk from a root finds such a blob, if it goes well, and goes well if there is one.
use mathlib.Core.Path.{◌≡◌, refl, ap, ◌∙◌, sym, subst}
use mathlib.Core.Bool.{true}
use mathlib.Core.List.{Memᴰ, List, map}
use Prim.Native.Nat.{ℕ, zero, suc, ◌*◌, ◌^◌, ◌≤◌, ◌<◌, min}
use native.Mathlib.Nat.{min-eq_left}
use native.Mathlib.Omega.{arith}
use borrow.Author.Tests.{ltb-true, ltb-false}
use lib.Dec.{ltb}
use lib.ListN.{get_or-eq_default, length, get_or, drop}
use Rattle.meaning.specs.declared.Edition.{Edition}
use Rattle.meaning.specs.declared.Role.TheVariants.{Root}
use Rattle.meaning.specs.Edition.{Proper}
use Rattle.meaning.specs.Bytes.{Cell, block, height_of, state}
use Rattle.meaning.specs.Tree.{Tree, Blob, slot_of, cells, root_of, cells_of, slots_of}
use Rattle.meaning.specs.Shape.{Shaped}
use Rattle.meaning.specs.Walk.{is_root, link_check, fine, from_root}
use Rattle.laws.proofs.Inversions.{by_test, fine_and_then}
use Rattle.laws.proofs.Roots.{walk_root}
use Rattle.laws.proofs.Walked.{mem_at, root_found, walk_shaped}
use Rattle.laws_resize.proofs.resizing.Cells.{cell_children, cell_most}
use Rattle.laws.proofs.TreeSlots.{blob_slots, slots}
use Rattle.laws_resize.proofs.resizing.SlotCounts.{member_times}
use Rattle.laws_sound.proofs.sound.TimesListed.{Each, Clear, marked}
use Rattle.laws.proofs.Every.{Every, mem_every}
use Rattle.laws_sound.proofs.sound.Cells.{cell_slots}
use Rattle.laws_sound.proofs.sound.Cells.{Reads, Fits}
use Rattle.laws_sound.proofs.sound.Walks.{Parts, Flags, Finds, found_so, Tells, tree_read, reads_within}

-- a blob lies in a pool
pub record Lies (e : Edition) (N : ℕ) (P R : List ℕ) (b : Blob) : Type 0 where
  pub low : b.height ≤ e.top
  pub root : state R (root_of b) ≡ 2
  pub shape : Shaped e b
  pub reads : Every (Reads e N P R) (cells_of b)
  pub parts : Parts R (drop 1 (slots_of b))

-- a tree's first cell is its own
pub cells_own : (Q : ℕ × Cell → Type 0) (h : ℕ) (t : Tree h) → Every Q (cells h t) → (c : Cell) × (c.height ≡ h) × Q (slot_of h t, c)
unfolding cells slot_of
cells_own Q zero t q = (record { height = 0; items = t.1 }, refl, q.0)
cells_own Q (suc h) t q = (record { height = suc h; items = map (slot_of h) t.1 }, refl, q.0)

module _ (e : Edition) (N : ℕ) (P R : List ℕ) where
  -- a blob that lies in the pool is found from its root
  pub lies_walk : (seen : List ℕ) (b : Blob) → Lies e N P R b → Clear seen (slots_of b)
      → from_root e N P R seen (root_of b) ≡ fine b (marked seen (slots_of b))
  unfolding from_root root_of Shaped cells_of link_check is_root Finds
  lies_walk seen b l clear =
      let h : ℕ = b.height in
      let t : Tree h = b.tree in
      let (c, q, r) = cells_own (Reads e N P R) h t l.reads in
      let high : min (height_of (block e P (slot_of h t))) e.top ≡ h = rw (r.height, q) (min-eq_left l.low) in
      let v = found_so e N P R h Root true seen t refl l.shape l.reads (rw (← blob_slots b) l.parts) (rw (← blob_slots b) clear) in
      rw (high, blob_slots) (fine_and_then _ _ t (marked seen (slots h t)) v)

  -- its slots are in the pool
  pub lies_within : (b : Blob) → Lies e N P R b → Each (λ s. s < N) (slots_of b)
  unfolding slots_of cell_slots
  lies_within b l = reads_within e N P R (cells_of b) l.reads

-- what a walk that went well found: a blob that lies in the pool, clear of the flags, and its flags
pub record WalkFound (e : Edition) (N : ℕ) (P R seen : List ℕ) (b : Blob) (seen' : List ℕ) : Type 0 where
  pub lies : Lies e N P R b
  pub clear : Clear seen (slots_of b)
  pub flags : seen' ≡ marked seen (slots_of b)

-- so it is from every root record without a flag
pub walk_found : (e : Edition) → Proper e → (N : ℕ) (P R : List ℕ) → length P ≡ e.size * N → (seen : List ℕ) (r : ℕ) {b : Blob} {seen' : List ℕ}
    → length seen ≡ N → Flags seen → r < N → state R r ≡ 2 → get_or seen r 0 ≡ 0 → from_root e N P R seen r ≡ fine b seen'
    → WalkFound e N P R seen b seen'
unfolding cells_of Tells
walk_found e p N P R whole seen r {b} {seen'} all flags low is new v =
    let (t, o, q) = root_found e N P R seen r v in
    let h : ℕ = min (height_of (block e P r)) e.top in
    let shape = walk_shaped e p N P R whole seen r v low in
    let at = walk_root e N P R seen r v in
    let f = tree_read e p N P R whole h Root true seen r t seen' low all flags new o in
    let root : state R (root_of b) ≡ 2 = rw at is in
    let blob : Blob = record { height = h; tree = t } in
    subst (λ (b : Blob). Shaped e b → state R (root_of b) ≡ 2 → WalkFound e N P R seen b seen') q
    (λ shape root. record {
      lies = record { low = omega arith; root = root; shape = shape; reads = f.reads; parts = rw (blob_slots blob) f.parts };
      clear = rw (blob_slots blob) f.clear;
      flags = f.flags ∙ ap (marked seen) (sym (blob_slots blob));
    }) shape root

-- numbers of a row, each of which is below N, have four bytes
row_small : (N : ℕ) → N ≤ 2 ^ 32 → (row : List ℕ) → ((x : ℕ) → Memᴰ x row → x < N) → (i : ℕ) → get_or row i 0 < 2 ^ 32
row_small N few row low i =
    by_test (ltb i (length row))
    (λ t. omega (arith, low (get_or row i 0) (mem_at row i 0 (ltb-true i (length row) t))))
    (λ t. rw (get_or-eq_default row 0 {n = i} (ltb-false i (length row) t)) (omega arith))

-- the cells of a blob that has its shape fit, if its slots are in the pool
pub blob_fits : (e : Edition) (N : ℕ) → N ≤ 2 ^ 32 → (b : Blob) → Shaped e b → Each (λ s. s < N) (slots_of b) → Every (λ c. Fits e c.1) (cells_of b)
blob_fits e N few b shape low =
    mem_every (λ c. Fits e c.1) (cells_of b) (λ c m. record {
      count = cell_most b c m e shape;
      small = λ inner. row_small N few c.1.items (λ x k. low x (member_times x (cell_children b c m inner x k)));
    })
