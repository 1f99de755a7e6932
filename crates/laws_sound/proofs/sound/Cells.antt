-- Cells of a tree and what lies at their slots. A block reads as a cell if it has the mark, its own slot number, its record's version, the
-- cell's height, count and row, and zeros after: what checks 2 and 3 ask besides the ranges of a count.
use mathlib.Core.Path.{◌≡◌, refl, ap}
use mathlib.Core.Bool.{Bool, true}
use mathlib.Core.List.{List, [], ◌∷◌, ◌++◌, map}
use Prim.Native.Nat.{ℕ, suc, ◌+◌, ◌^◌, ◌≤◌, ◌<◌}
use native.Mathlib.Omega.{arith}
use lib.ListN.{length, get_or, take, drop}
use Rattle.meaning.specs.declared.Edition.{Edition}
use Rattle.meaning.specs.Lists.{joined, same_list, zeros}
use Rattle.meaning.specs.Edition.{Proper}
use Rattle.meaning.specs.Bytes.{Cell, item_bytes, encoded, block, height_of, count_of, own_slot, version_of, recorded}
use Rattle.meaning.specs.Shape.{least_count, most_count}
use Rattle.meaning.specs.Tree.{Tree, cells}
use Rattle.meaning.specs.Walk.{used}
use Rattle.laws.proofs.Inversions.{Sound, same_self}
use Rattle.laws.proofs.Checks.{used_fits}
use Rattle.laws.proofs.Codec.{cell_of, items_of, item_length, mark_read, height_read, count_read, slot_read, version_read, rest_read, cell_read}
use Rattle.laws.proofs.TreeSlots.{slots, slots_inner, slots_cells}
use Rattle.laws.proofs.Every.{Every}
use Rattle.laws_resize.proofs.resizing.SlotCounts.{times, times_cons}
use Rattle.laws_sound.proofs.sound.TimesListed.{times_same, Each, each_none, each_more}

-- the slots of cells
unfoldable pub cell_slots : List (ℕ × Cell) → List ℕ
cell_slots cs = map (λ c. c.0) cs

-- and of a row of trees
unfoldable pub row_slots : (h : ℕ) → List (Tree h) → List ℕ
row_slots h ts = joined (map (slots h) ts)

-- a tree's are its cells'
pub tree_slots : (h : ℕ) (t : Tree h) → slots h t ≡ cell_slots (cells h t)
unfolding cell_slots
tree_slots = slots_cells

-- an inner block's are its own and its row's
pub slots_row : (h : ℕ) (t : Tree (suc h)) → slots (suc h) t ≡ t.0 ∷ row_slots h t.1
unfolding row_slots
slots_row h t = slots_inner h t.0 t.1

-- a row's are none
pub row_none : (h : ℕ) → row_slots h [] ≡ []
unfolding row_slots joined
row_none h = refl

-- or its first tree's and the others'
pub row_first : (h : ℕ) (t : Tree h) (ts : List (Tree h)) → row_slots h (t ∷ ts) ≡ slots h t ++ row_slots h ts
unfolding row_slots joined
row_first h t ts = refl

-- a claim of each cell's slot is one of each slot
pub every_each : (Q : ℕ → Type 0) (cs : List (ℕ × Cell)) → Every (λ c. Q c.0) cs → Each Q (cell_slots cs)
unfolding cell_slots
every_each Q [] f = each_none Q
every_each Q (c ∷ cs) f = each_more Q c.0 (cell_slots cs) f.0 (every_each Q cs f.1)

-- from a claim of each cell, another, given that the cell's slot is there
pub every_at : {Q S : ℕ × Cell → Type 0} (cs : List (ℕ × Cell)) → ((c : ℕ × Cell) → 1 ≤ times c.0 (cell_slots cs) → Q c → S c) → Every Q cs
    → Every S cs
unfolding cell_slots
every_at [] f q = tt
every_at (c ∷ cs) f q = (
  f c (omega (arith, times_cons c.0 c.0 (cell_slots cs), times_same c.0 c.0 refl)) q.0,
  every_at cs (λ d h. f d (omega (arith, times_cons d.0 c.0 (cell_slots cs)))) q.1,
)

-- what lies at a slot reads as a cell
pub record Reads (e : Edition) (N : ℕ) (P R : List ℕ) (c : ℕ × Cell) : Type 0 where
  pub within : c.0 < N
  pub mark : same_list (take 2 (block e P c.0)) e.mark ≡ true
  pub own : own_slot (block e P c.0) ≡ c.0
  pub version : version_of (block e P c.0) ≡ recorded R c.0
  pub height : height_of (block e P c.0) ≡ c.1.height
  pub count : count_of (block e P c.0) ≡ length c.1.items
  pub rest : zeros (drop (16 + used c.1.height (count_of (block e P c.0))) (take (16 + e.leaf) (block e P c.0))) ≡ true
  pub cell : cell_of c.1.height (block e P c.0) ≡ c.1

-- the row that is read is the cell's
pub reads_row : (e : Edition) (N : ℕ) (P R : List ℕ) (s h : ℕ) (r : List ℕ) → Reads e N P R (s, record { height = h; items = r })
    → items_of h (block e P s) ≡ r
unfolding cell_of
reads_row e N P R s h r f = ap (λ (c : Cell). c.items) f.cell

-- a block that reads as a cell passes checks 2 and 3 where the cell's count is in its range
pub reads_sound : (e : Edition) (N : ℕ) (P R : List ℕ) (s h : ℕ) (r : List ℕ) (root edge : Bool) → Reads e N P R (s, record { height = h; items = r })
    → least_count e h edge root ≤ length r → length r ≤ most_count e h → Sound e h root edge (recorded R s) s (block e P s)
reads_sound e N P R s h r root edge f lo hi = record {
  mark = f.mark;
  own = f.own;
  version = f.version;
  height = f.height;
  least = rw f.count lo;
  most = rw f.count hi;
  rest = f.rest;
}

-- a cell is written at its slot, at the version that the record has
pub record Written (e : Edition) (N : ℕ) (P R : List ℕ) (c : ℕ × Cell) : Type 0 where
  pub within : c.0 < N
  pub young : recorded R c.0 < 2 ^ 64
  pub bytes : block e P c.0 ≡ encoded e c.1 c.0 (recorded R c.0)

-- a cell that a block has room for: its count is in the range, and its children are slot numbers
pub record Fits (e : Edition) (c : Cell) : Type 0 where
  pub count : length c.items ≤ most_count e c.height
  pub small : (c.height ≡ 0 → ⊥) → (i : ℕ) → get_or c.items i 0 < 2 ^ 32

-- then its bytes fit the payload
pub fits_payload : (e : Edition) → Proper e → (c : Cell) → Fits e c → length (item_bytes c.height c.items) ≤ e.leaf
fits_payload e p c f = rw (item_length c.height c.items) (used_fits e p c.height (length c.items) f.count)

-- a written cell is read back
pub written_reads : (e : Edition) → Proper e → (N : ℕ) (P R : List ℕ) → N ≤ 2 ^ 32 → (c : ℕ × Cell) → Fits e c.1 → Written e N P R c
    → Reads e N P R c
written_reads e p N P R few c f w =
    let s : ℕ = c.0 in
    let v : ℕ = recorded R s in
    let fits = fits_payload e p c.1 f in
    let n = count_read e p c.1 s v fits in
    record {
      within = w.within;
      mark = rw (w.bytes, mark_read e p c.1 s v fits) (same_self e.mark);
      own = rw w.bytes (slot_read e p c.1 s v fits (omega (arith, w.within)));
      version = rw w.bytes (version_read e p c.1 s v fits w.young);
      height = rw w.bytes (height_read e p c.1 s v fits);
      count = rw w.bytes n;
      rest = rw (w.bytes, n) (rest_read e p c.1 s v fits);
      cell = rw w.bytes (cell_read e p c.1 s v fits f.small);
    }
