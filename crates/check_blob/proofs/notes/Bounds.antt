-- What keeps the walk's sums and slots small: each leaf noted is a slot newly flagged, so there are no more leaves than slots.
use Rattle.std.specs.Prelude.{Err, Ok}
use mathlib.Core.Path.{◌≡◌, ap, ◌∙◌, sym}
use mathlib.Core.Bool.{Bool}
use mathlib.Core.List.{List}
use Prim.Native.Nat.{ℕ, ◌+◌, ◌-◌, ◌*◌, ◌^◌, ◌≤◌, ◌<◌}
use native.Mathlib.Omega.{arith}
use lib.ListN.{length, set, length-set}
use mir.Syntax.{w64}
use mir.Val.{Fits}
use Rattle.meaning.specs.Refusals.{Checked}
use Rattle.meaning.specs.Edition.{Proper}
use Rattle.meaning.specs.Bytes.{block, count_of, data_of}
use Rattle.meaning.specs.Shape.{most_count}
use Rattle.meaning.specs.Walk.{is_root, link_check, one_visit}
use Rattle.meaning.specs.declared.Edition.{Edition}
use Rattle.meaning.specs.declared.Refusal.{Refusal}
use Rattle.meaning.specs.declared.Role.{Role}
use Rattle.meaning.specs.declared.Role.TheVariants.{Root, Child}
use Rattle.laws.proofs.Numbers.{part_length}
use Rattle.laws.proofs.Checks.{leaf_fits, inner_fits}
use Rattle.laws.proofs.Inversions.{Visited, fine_visited, passed_sound, passed_linked}
use Rattle.check_blob.specs.visit as visited
use Rattle.check_blob.specs.visit.{Within}
use Rattle.check_blob.proofs.visit.VisitAsDefined.{linked_within, slot_fits}
use Rattle.laws.proofs.Marks.{marks, marks_set, marks_kept, marks_some, marks_all}
use Rattle.check_blob.specs.notes.{Small, Fresh, BlockStart, RowStart, Walked}

-- one leaf more, in a slot newly flagged
leaf_marked : (n : ℕ) (R seen : List ℕ) (role : Role) (s k : ℕ) → s < length seen → Fresh role k → k ≤ marks seen
    → link_check n R seen role s ≡ Ok tt → k + 1 ≤ marks (set seen s 1)
unfolding Fresh
leaf_marked n R seen Root s k h f m q = omega (arith, marks_some seen s h)
leaf_marked n R seen (Child p) s k h f m q = omega (arith, marks_set seen s h (passed_linked n R seen p s q).unseen)

-- the block visit, behind its one visit
module _ (e : Edition) (p : Proper e) (n : ℕ) (P R seen : List ℕ) (h : ℕ) (role : Role) (edge : Bool) (s b k : ℕ)
    (start : BlockStart e n P R seen role s b k) (c : Checked) (seen₁ : List ℕ)
    (ec : visited.met c (block e P s) seen₁ ≡ one_visit e n P R h role edge seen s) (pc : c ≡ Ok tt) where
  passed : Visited e n P R h role edge seen s (block e P s) seen₁
  unfolding visited.met
  passed = fine_visited e n P R h role edge seen s (sym ec ∙ rw pc)

  inside : s < n
  inside = linked_within n R seen role s start.within passed.link

  pub block_in_pool : e.size * s + e.size ≤ length P
  block_in_pool = slot_fits e.size n s P start.sized.pool inside

  pub slot_small : s < 2 ^ 32
  slot_small = omega (arith, inside, start.few, p.small)

  leaves_room : k + 1 ≤ n
  leaves_room =
      let i = inside in
      let f = start.sized.flags in
      let m = leaf_marked n R seen role s k (omega arith) start.fresh start.counted.leaves passed.link in
      let l : length (set seen s 1) ≡ length seen = length-set seen s 1 in
      omega (arith, m, marks_all (set seen s 1))

  -- the sums fit
  pub leaves_fit : Fits w64 (k + 1)
  leaves_fit = record { fits = omega (arith, leaves_room, start.few, p.small) }

  pub bytes_fit : (m : ℕ) → m ≤ 255 → Fits w64 (b + m)
  bytes_fit m l = record { fits = omega (arith, leaves_room, start.counted.bytes, start.few, p.small) }

  count_most : count_of (block e P s) ≤ most_count e h
  count_most = (passed_sound e h (is_root role) edge _ s (block e P s) passed.sound).most

  block_long : length (block e P s) ≡ e.size
  unfolding block
  block_long = part_length (e.size * s) e.size P block_in_pool

  module _ (blk : List ℕ) (eb : blk ≡ block e P s) (m : ℕ) (em : m ≡ count_of blk) where
    count_is : m ≡ count_of (block e P s)
    count_is = em ∙ ap count_of eb

    -- a leaf's count is how many bytes it has
    pub count_data : h ≡ 0 → m ≡ length (data_of (block e P s))
    unfolding data_of
    count_data z =
        let f : count_of (block e P s) ≤ e.leaf = leaf_fits e p h (count_of (block e P s)) z count_most in
        count_is ∙ sym (part_length 16 (count_of (block e P s)) (block e P s) (omega (arith, block_long, p.fits)))

    pub leaf_small : m ≤ 255 → Small (Ok ((b + m), (k + 1))) seen₁
    unfolding Small
    leaf_small l =
        record {
          leaves = rw passed.flags (leaf_marked n R seen role s k (omega (arith, inside, start.sized.flags)) start.fresh start.counted.leaves passed.link);
          bytes = omega (arith, start.counted.bytes);
        }

    pub row_start : (h ≡ 0 → ⊥) → RowStart e n P R seen₁ s 0 m b k
    row_start z =
        let f : 4 * count_of (block e P s) ≤ e.leaf = inner_fits e p h (count_of (block e P s)) z count_most in
        let l : length seen₁ ≡ n = ap length passed.flags ∙ length-set seen s 1 ∙ start.sized.flags in
        record {
          sized = record { pool = start.sized.pool; records = start.sized.records; flags = l };
          few = start.few;
          inside = inside;
          room = omega (arith, f, count_is, p.fills);
          counted = record {
            leaves = rw passed.flags (omega (arith, marks_kept seen s, start.counted.leaves));
            bytes = start.counted.bytes;
          };
        }

-- the row visit
module _ (e : Edition) (n : ℕ) (P R seen : List ℕ) (p from m b k : ℕ) (start : RowStart e n P R seen p from (m - from) b k) where
  pub child_start : (role : Role) → role ≡ Child p → (c : ℕ) → BlockStart e n P R seen role c b k
  unfolding Within Fresh
  child_start role er c =
      rw er (record { sized = start.sized; few = start.few; within = tt; counted = start.counted; fresh = tt })

  pub row_next : from < m → (here : Walked) (sy : List ℕ) → length sy ≡ length seen → Small here sy → (b' k' : ℕ) → here ≡ Ok (b', k')
      → RowStart e n P R sy p (from + 1) (m - (from + 1)) b' k'
  unfolding Small
  row_next z here sy l m b' k' eh =
      record {
        sized = record { pool = start.sized.pool; records = start.sized.records; flags = l ∙ start.sized.flags };
        few = start.few;
        inside = start.inside;
        room = omega (arith, start.room);
        counted = rw eh at m;
      }

-- an answer's bounds
pub small_fault : (r : Refusal) (seen : List ℕ) → Small (Err r) seen
unfolding Small
small_fault r seen = tt

pub small_none : (e : Edition) (n : ℕ) (P R seen : List ℕ) (p from left b k : ℕ) → RowStart e n P R seen p from left b k → Small (Ok (b, k)) seen
unfolding Small
small_none e n P R seen p from left b k s = s.counted
