-- Document 01's numbers to try that are marked P, its whole one-slot example, a resize worked out slot by slot, and an example of each refusal; then
-- child links, the last version, and reading heads. One statement over one list of cases, which computes. A case is data, read by the function `right` alone.
use Rattle.std.specs.Prelude.{◌≡◌, refl, Bool, true, false, List, [], ◌∷◌, ◌++◌, map, ℕ, ◌-◌, ◌^◌, eqb, replicate, set, None, Option, Some}
use Rattle.meaning.specs.Lists.{pick, both, part, pasted, joined, range, filter, all, of_last, map_last, only, same_list, zeros, number, bytes, padded, fours}
use Rattle.meaning.specs.Edition.{one}
use Rattle.meaning.specs.Bytes.{same_cell, item_bytes, header, block_bytes, encoded, block, height_of, count_of, own_slot, version_of, data_of, children_of, record_with, record_of, record_at, state_of, recorded_of, state, recorded, sound_record, last_version, usable_slot}
use Rattle.meaning.specs.Tree.{slot_of, at_slot, content, leaves, cells, root_of, content_of, leaves_of, cells_of, slots_of, length_of, held}
use Rattle.meaning.specs.Shape.{up, leaves_for, total_within, total, least_count, most_count}
use Rattle.meaning.specs.Refusals.{number_of, refusal_of, at, nowhere, must, first, unless, slot_number}
use Rattle.meaning.specs.Walk.{flaw, used, formed, block_check, is_root, link_check, and_then, passing, is_empty, one_visit, visit_row, visit, from_root, blob_check, roots, closing_check, closing, pool_check}
use Rattle.meaning.specs.Change.{Store, put, puts, changed_by, freed, renewed, changed, changes}
use Rattle.meaning.specs.Resize.{lowest, chain, on_last, roomy, hang, raised, add_leaf, add_leaves, last_leaf, share, shares, last_bytes, longer, keep_row, keep, lower, shorter, resized, along, refill, refilled}
use Rattle.meaning.specs.Calls.{refuse_if, after_check, slots_in, sized, refuse_bad_record, opened, with_blob, usable, live, rooted, reading, changing, refuse_worn, refuse_past, refuse_full, become, length_on, length_in, read_on, read_in, audit_on, audit_in, create_on, create_in, new_blocks, resize_on, resize_in, write_on, write_in, length_call, read_call, audit_call, create_call, write_call, resize_call, after, free_records, wiped}
use Rattle.meaning.specs.Answers.{Said, yields, refuses, answer_of, finish_answer, read_out}
use Rattle.meaning.specs.Answers.{value_said, done_said, said_with}
use Rattle.meaning.specs.Run.{Call, create, audit, write, resize, tell_length, read, says, perform}
use Rattle.meaning.specs.Head.{Head, head_at, head_of, open_head, block_at, child_at, below, height_at, byte_at, piece, handed, handed_out, moved, pieces}

-- what is stated of a store
pub data Fact : Type 0 where
  -- slot s has this state and version in its record, and its block holds this cell at this version
  leaf : (s state version : ℕ) → List ℕ → Fact
  inner : (s state version height : ℕ) → List ℕ → Fact
  -- slot s is free at this version, its block all zeros
  free : (s version : ℕ) → Fact
  -- the whole pool and all records, byte by byte
  whole : (pool records : List ℕ) → Fact

-- a call, what it answers, and what holds after it
pub record Step : Type 0 where
  pub call : Call
  pub answer : List ℕ
  pub facts : List Fact

pub data Case : Type 0 where
  -- a blob of this length has so many blocks
  blocks : (len n : ℕ) → Case
  -- in a wiped pool of N slots, these calls
  script : (N : ℕ) → List Step → Case
  -- on this store, a call and the refusal that it gives
  refusal : Store → Call → ℕ → Option ℕ → Case
  -- on this store, a call and the values that it answers
  result : Store → Call → List ℕ → Case
  -- over this pool a head, the sizes asked of it one after the other, and the pieces that it hands out
  asked : (pool : List ℕ) → Head → (sizes : List ℕ) → (handed_out : List (List ℕ)) → Case

-- the block and the record of which a fact speaks
unfoldable pub block_in : Fact → List ℕ
block_in (leaf s st version items) = encoded one (record { height = 0; items = items }) s version
block_in (inner s st version height items) = encoded one (record { height = height; items = items }) s version
block_in (free s version) = replicate 64 0
block_in (whole pool records) = pool

unfoldable pub line_in : Fact → List ℕ
line_in (leaf s st version items) = record_of st version
line_in (inner s st version height items) = record_of st version
line_in (free s version) = record_of 0 version
line_in (whole pool records) = records

-- slot s has that block and that record
unfoldable pub holds : Store → (s : ℕ) → Fact → Bool
holds S s fact =
    both (same_list (record_at S.records s) (line_in fact)) (same_list (block one S.pool s) (block_in fact))

unfoldable pub true_of : Store → Fact → Bool
true_of S (leaf s st version items) = holds S s (leaf s st version items)
true_of S (inner s st version height items) = holds S s (inner s st version height items)
true_of S (free s version) = holds S s (free s version)
true_of S (whole pool records) = both (same_list S.pool pool) (same_list S.records records)

unfoldable pub same_said : Said → Said → Bool
same_said (yields vs) (yields ws) = same_list vs ws
same_said (yields vs) (refuses r) = false
same_said (refuses r) (yields ws) = false
same_said (refuses r) (refuses q) =
    both (eqb (number_of r.reason) (number_of q.reason)) (eqb (slot_number r.named) (slot_number q.named))

-- a refusal with that number, which names that slot or none
unfoldable pub refused_with : Said → (number : ℕ) → Option ℕ → Bool
refused_with (yields vs) n s = false
refused_with (refuses r) n s = both (eqb (number_of r.reason) n) (eqb (slot_number r.named) (slot_number s))

-- one call after the other, each with its answer and facts
unfoldable pub played : Store → List Step → Bool
played S [] = true
played S (x ∷ xs) =
    let S' = perform one S x.call in
    both (same_said (says one S x.call) (yields x.answer)) (both (all (true_of S') x.facts) (played S' xs))

unfoldable pub same_pieces : List (List ℕ) → List (List ℕ) → Bool
same_pieces [] [] = true
same_pieces [] (q ∷ qs) = false
same_pieces (p ∷ ps) [] = false
same_pieces (p ∷ ps) (q ∷ qs) = both (same_list p q) (same_pieces ps qs)

unfoldable pub right : Case → Bool
right (blocks len n) = eqb (total one.fan (leaves_for one.leaf len)) n
right (script N steps) = played (wiped one N) steps
right (refusal S call n s) = refused_with (says one S call) n s
right (result S call values) = same_said (says one S call) (yields values)
right (asked P h sizes ps) = same_pieces (pieces one P h sizes) ps

-- the cases marked P, and the blob created in a wiped one-slot pool
unfoldable pub cases : List Case
cases =
    blocks 0 1 ∷ blocks 48 1 ∷ blocks 49 3
    ∷ blocks 576 13 ∷ blocks 577 16
    ∷ blocks 6912 157 ∷ blocks 6913 161
    ∷ blocks 44976 1024 ∷ blocks 44977 1025
    ∷ script 4
    (record { call = create; answer = 0 ∷ []; facts = leaf 0 2 1 [] ∷ free 1 0 ∷ free 2 0 ∷ free 3 0 ∷ [] }
    ∷ record {
      call = resize 0 49;
      answer = [];
      facts = inner 0 2 2 1 (1 ∷ 2 ∷ []) ∷ leaf 1 1 1 (replicate 48 0) ∷ leaf 2 1 1 (0 ∷ []) ∷ free 3 0 ∷ [];
    }
    ∷ record {
      call = resize 0 48;
      answer = [];
      facts = leaf 0 2 3 (replicate 48 0) ∷ free 1 1 ∷ free 2 1 ∷ free 3 0 ∷ [];
    }
    ∷ record {
      call = create;
      answer = 1 ∷ [];
      facts = leaf 0 2 3 (replicate 48 0) ∷ leaf 1 2 2 [] ∷ free 2 1 ∷ free 3 0 ∷ [];
    }
    ∷ [])
    ∷ script 1
    (record {
      call = create;
      answer = 0 ∷ [];
      facts = whole
          (0x4c ∷ 0x31 ∷ 0 ∷ 0 ∷ 0 ∷ 0 ∷ 0 ∷ 0 ∷ 1 ∷ 0 ∷ 0 ∷ 0 ∷ 0 ∷ 0 ∷ 0 ∷ 0 ∷ replicate 48 0)
          (0x52 ∷ 0x31 ∷ 2 ∷ 0 ∷ 1 ∷ 0 ∷ 0 ∷ 0 ∷ 0 ∷ 0 ∷ 0 ∷ 0 ∷ []) ∷ [];
    }
    ∷ [])
    ∷ []

-- the bytes of a full leaf, zeros here
unfoldable pub full : List ℕ
full = replicate 48 0

-- A resize worked out, to be followed with a pencil: in 17 slots one blob gets 576 bytes, then 577, then 625, and then 48. A fact names a slot,
-- its state (2 root, 1 part), its version, of an inner block its height, and the bytes or children. Slots 1 to 12 are the same leaves until the last step:
unfoldable pub twelve : List Fact
twelve = map (λ s. leaf s 1 1 full) (range 1 12)

unfoldable pub worked : List Case
worked =
    script 17
    (record { call = create; answer = 0 ∷ []; facts = leaf 0 2 1 [] ∷ [] }
    -- 576 bytes are 12 leaves. One leaf there is, slot 0, which first fills to 48 bytes; and 1 = 12^0 at its height 0. So for the second leaf slot 1
    -- takes what the root holds, and the root becomes height 1 with the one child 1. Each further leaf takes the lowest free slot and hangs at the root.
    ∷ record {
      call = resize 0 576;
      answer = [];
      facts = inner 0 2 2 1 (1 ∷ 2 ∷ 3 ∷ 4 ∷ 5 ∷ 6 ∷ 7 ∷ 8 ∷ 9 ∷ 10 ∷ 11 ∷ 12 ∷ []) ∷ free 13 0 ∷ free 14 0 ∷ free 15 0 ∷ free 16 0 ∷ twelve;
    }
    -- 577 bytes are 13 leaves. 12 there are, and 12 = 12^1 at height 1. So first the lowest free slot, 13, takes the root's height, count and children,
    -- and the root becomes height 2 with the one child 13. On the right edge slot 13 has 12 children, the root has one: so at the root a chain hangs,
    -- top first: slot 14 of height 1, and under it slot 15, the new leaf, of one byte.
    ∷ record {
      call = resize 0 577;
      answer = [];
      facts = inner 0 2 3 2 (13 ∷ 14 ∷ [])
          ∷ inner 13 1 1 1 (1 ∷ 2 ∷ 3 ∷ 4 ∷ 5 ∷ 6 ∷ 7 ∷ 8 ∷ 9 ∷ 10 ∷ 11 ∷ 12 ∷ [])
          ∷ inner 14 1 1 1 (15 ∷ [])
          ∷ leaf 15 1 1 (0 ∷ [])
          ∷ free 16 0
          ∷ twelve;
    }
    -- 625 bytes are 14 leaves. The last leaf, slot 15, fills to 48 bytes. 13 is not 12^2, so the root stays. The lowest block of the right edge with
    -- fewer than 12 children is now slot 14: there the chain hangs, which is one leaf, slot 16. The root and slot 13 are unchanged in every byte.
    ∷ record {
      call = resize 0 625;
      answer = [];
      facts = inner 0 2 3 2 (13 ∷ 14 ∷ [])
          ∷ inner 13 1 1 1 (1 ∷ 2 ∷ 3 ∷ 4 ∷ 5 ∷ 6 ∷ 7 ∷ 8 ∷ 9 ∷ 10 ∷ 11 ∷ 12 ∷ [])
          ∷ inner 14 1 2 1 (15 ∷ 16 ∷ [])
          ∷ leaf 15 1 2 full
          ∷ leaf 16 1 1 (0 ∷ [])
          ∷ twelve;
    }
    -- 48 bytes are one leaf. The leaves 16, 15 and 12 down to 2 go; slot 14 has no child left and goes. The root has one child only, 13: it takes over
    -- height, count and children of 13, and 13 goes. It still has one child only, 1: it takes over height, count and bytes of 1, and 1 goes. The slots
    -- are free and keep their versions.
    ∷ record {
      call = resize 0 48;
      answer = [];
      facts = leaf 0 2 4 full ∷ free 13 1 ∷ free 14 2 ∷ free 15 2 ∷ free 16 1 ∷ map (λ s. free s 1) (range 1 12);
    }
    ∷ [])
    ∷ []

-- an empty leaf of slot 0 at this version
unfoldable pub empty : (version : ℕ) → List ℕ
empty version = encoded one (record { height = 0; items = [] }) 0 version

-- two slots, each with its block and its record
unfoldable pub two : (b line b' line' : List ℕ) → Store
two b line b' line' = record { pool = b ++ b'; records = line ++ line' }

-- such a block and such a record beside a free slot
unfoldable pub beside : (b line : List ℕ) → Store
beside b line = two b line (replicate 64 0) (record_of 0 0)

-- An example of each refusal, 1 to 12. A call gives the first refusal of its order that holds, so each store passes every earlier check.
unfoldable pub refusals : List Case
refusals =
    -- two slots, one record
    refusal (two (empty 1) (record_of 2 1) (replicate 64 0) []) audit 1 None
    -- a live record of version 0
    ∷ refusal (beside (empty 0) (record_of 2 0)) audit 2 (Some 0)
    -- slot 1 is free
    ∷ refusal (beside (empty 1) (record_of 2 1)) (tell_length 1) 3 None
    -- another mark
    ∷ refusal (beside (set (empty 1) 0 0x4d) (record_of 2 1)) (tell_length 0) 4 (Some 0)
    -- a block of slot 1
    ∷ refusal (beside (set (empty 1) 4 1) (record_of 2 1)) (tell_length 0) 5 (Some 0)
    -- an older copy
    ∷ refusal (beside (empty 1) (record_of 2 2)) (tell_length 0) 6 (Some 0)
    -- a newer one
    ∷ refusal (beside (empty 2) (record_of 2 1)) (tell_length 0) 7 (Some 0)
    -- a stale byte after the count
    ∷ refusal (beside (set (empty 1) 16 7) (record_of 2 1)) (tell_length 0) 8 (Some 0)
    -- an old block in a free slot
    ∷ refusal (two (empty 1) (record_of 2 1) (empty 1) (record_of 0 1)) audit 9 (Some 1)
    -- a byte past the end of an empty blob
    ∷ refusal (beside (empty 1) (record_of 2 1)) (read 0 0 1) 10 None
    -- two new blocks, one free slot
    ∷ refusal (beside (empty 1) (record_of 2 1)) (resize 0 49) 11 None
    -- a worn blob, even where nothing would be written
    ∷ refusal (beside (empty (2 ^ 64 - 1)) (record_of 2 (2 ^ 64 - 1))) (write 0 0 []) 12 None
    ∷ []

-- the store of which such facts, slot by slot, say all
unfoldable pub holding : List Fact → Store
holding facts = record { pool = joined (map block_in facts); records = joined (map line_in facts) }

-- a root in slot 0 whose row names slot 1 twice, and what is said of slot 1
unfoldable pub twice : Fact → Store
twice fact = holding (inner 0 2 1 1 (1 ∷ 1 ∷ []) ∷ fact ∷ [])

-- two blobs of 49 bytes, roots 0 and 1, that share both their leaves
unfoldable pub sharing : Store
sharing =
    holding (inner 0 2 1 1 (2 ∷ 3 ∷ []) ∷ inner 1 2 1 1 (2 ∷ 3 ∷ []) ∷ leaf 2 1 1 full ∷ leaf 3 1 1 (0 ∷ []) ∷ [])

-- Check 1, which a child slot must pass: 8 names the parent, 9 the child.
unfoldable pub links : List Case
links =
    -- no slot of the pool; the parent is a part here, so that it is not the root that is named
    refusal (holding (inner 0 2 1 2 (1 ∷ 1 ∷ []) ∷ inner 1 1 1 1 (replicate 12 2) ∷ [])) (tell_length 0) 8 (Some 1)
    -- a root
    ∷ refusal (twice (leaf 1 2 1 full)) (tell_length 0) 8 (Some 0)
    -- already visited, when the row names it again
    ∷ refusal (twice (leaf 1 1 1 full)) (tell_length 0) 8 (Some 0)
    -- free
    ∷ refusal (twice (free 1 1)) (tell_length 0) 9 (Some 1)
    -- shared parts: each blob passes its own check, and the pool check names the parent in the blob with the higher root
    ∷ result sharing (tell_length 0) (49 ∷ [])
    ∷ result sharing (tell_length 1) (49 ∷ [])
    ∷ refusal sharing audit 8 (Some 1)
    ∷ []

-- the empty blob of slot 0 at this version, beside a free slot at that one
unfoldable pub versions : (version other : ℕ) → Store
versions version other = holding (leaf 0 2 version [] ∷ free 1 other ∷ [])

-- The last version: 12 comes before 10 and 11, and a free slot that has it is not usable.
unfoldable pub worn : List Case
worn =
    -- a write past the end of a worn blob
    refusal (versions last_version 0) (write 0 1 (7 ∷ [])) 12 None
    -- two new blocks for a worn blob, one free slot
    ∷ refusal (versions last_version 0) (resize 0 49) 12 None
    -- no free slot but a worn one
    ∷ refusal (versions 1 last_version) create 11 None
    -- one version before the last
    ∷ result (versions 1 (last_version - 1)) create (1 ∷ [])
    ∷ []

-- a blob of 578 bytes, root 0: slots 1 and 2 are its inner blocks, slots 3 to 15 its leaves. Leaf s holds s in each of its 48 bytes, the last one 7 and 8.
unfoldable pub tall : List Fact
tall =
    inner 0 2 1 2 (1 ∷ 2 ∷ []) ∷ inner 1 1 1 1 (range 3 12) ∷ inner 2 1 1 1 (15 ∷ [])
    ∷ (map (λ s. leaf s 1 1 (replicate 48 s)) (range 3 12) ++ (leaf 15 1 1 (7 ∷ 8 ∷ []) ∷ []))

-- the older leaf of slot 1 beside a record that is one version further
unfoldable pub rolled_back : Store
rolled_back = record { pool = (twice (leaf 1 1 1 full)).pool; records = (twice (leaf 1 1 2 full)).records }

-- a head that is opened on root 0, and what it is asked for
unfoldable pub opened_on : Store → (sizes : List ℕ) → (handed_out : List (List ℕ)) → Case
opened_on S sizes ps = asked S.pool (open_head one S.pool S.records 0) sizes ps

-- Reading heads (request W-201).
unfoldable pub heads : List Case
heads =
    -- pieces that end within a leaf, ask for nothing, cross leaves and rows, ask for more than remains, and come after the end
    opened_on (holding tall) (50 ∷ 0 ∷ 525 ∷ 2 ∷ 9 ∷ 1 ∷ [])
    ((replicate 48 3 ++ (4 ∷ 4 ∷ []))
    ∷ []
    ∷ (replicate 46 4 ++ (joined (map (replicate 48) (range 5 9)) ++ replicate 47 14))
    ∷ (14 ∷ 7 ∷ [])
    ∷ (8 ∷ [])
    ∷ []
    ∷ [])
    -- a refused head hands out nothing
    ∷ opened_on rolled_back (1 ∷ 2 ∷ []) ([] ∷ [] ∷ [])
    -- a head that no opening made: of a slot that the pool has not, zeros; from a place behind its length on, nothing
    ∷ asked (empty 1) (head_at 1 0 3) (2 ∷ 2 ∷ []) ((0 ∷ 0 ∷ []) ∷ (0 ∷ []) ∷ [])
    ∷ asked (empty 1) (head_at 0 5 3) (2 ∷ []) ([] ∷ [])
    ∷ []

-- Bigger pools (request W-203).
unfoldable pub bigger : List Case
bigger =
    -- 1,728, 1,729, 20,736, 20,737 leaves, the last and the first of heights 3, 4, 4 and 5; 60,072 and 60,073, the most in 65,536 slots and one more
    blocks 82944 1885 ∷ blocks 82945 1890
    ∷ blocks 995328 22621 ∷ blocks 995329 22627
    ∷ blocks 2883456 65535 ∷ blocks 2883457 65537
    -- a root of height 5 passes check 3, and its first child is no block of height 4; a root of height 6 does not pass
    ∷ refusal (holding (inner 0 2 1 5 (1 ∷ 1 ∷ []) ∷ leaf 1 1 1 full ∷ [])) (tell_length 0) 8 (Some 1)
    ∷ refusal (holding (inner 0 2 1 6 (1 ∷ 1 ∷ []) ∷ leaf 1 1 1 full ∷ [])) (tell_length 0) 8 (Some 0)
    -- a slot number above 65,535
    ∷ refusal (holding (inner 0 2 1 1 (1 ∷ 65536 ∷ []) ∷ leaf 1 1 1 full ∷ [])) (tell_length 0) 8 (Some 0)
    ∷ []

pub cases_hold : all right (joined (cases ∷ worked ∷ refusals ∷ links ∷ worn ∷ heads ∷ bigger ∷ [])) ≡ true
unfolding cases worked bigger twelve refusals links worn heads tall rolled_back opened_on same_pieces head_of open_head block_at child_at below height_at byte_at piece handed handed_out moved pieces block_in line_in holding full twice sharing versions right played same_said refused_with true_of holds empty two beside one pick both part pasted joined range filter all of_last map_last only same_list zeros number bytes padded fours same_cell item_bytes header block_bytes encoded block height_of count_of own_slot version_of data_of children_of record_with record_of record_at state_of recorded_of state recorded sound_record last_version usable_slot slot_of at_slot content leaves cells root_of content_of leaves_of cells_of slots_of length_of held up leaves_for total_within total least_count most_count number_of refusal_of at nowhere must first unless flaw used formed block_check is_root link_check and_then passing is_empty one_visit visit_row visit from_root roots closing_check closing pool_check put puts changed_by freed renewed changed changes lowest chain on_last roomy hang raised add_leaf add_leaves last_leaf share shares last_bytes longer keep_row keep lower shorter resized refuse_if after_check slots_in sized refuse_bad_record opened with_blob usable rooted changing refuse_worn refuse_full become create_on create_in new_blocks resize_on resize_in create_call resize_call after free_records wiped says value_said answer_of done_said said_with finish_answer read_out perform reading blob_check length_on length_in refuse_past read_on read_in live audit_on audit_in write_on write_in length_call read_call audit_call write_call along refill refilled slot_number
cases_hold = refl
