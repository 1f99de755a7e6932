-- Demand three is not empty: a small run whose answers compute. A blob of two leaves is made, written and, beside it, another is made and deleted; a
-- reader then holds the records of one moment, and a pool in which one block is another of the run's.
use mathlib.Core.Path.{◌≡◌, refl}
use mathlib.Core.Logic.{inr}
use mathlib.Core.Bool.{Bool, true}
use mathlib.Core.List.{List, [], ◌∷◌, Memᴰ}
use Prim.Native.Nat.{ℕ, ◌<◌}
use lib.Dec.{eqb}
use lib.ListN.{get_or}
use Rattle.meaning.specs.declared.Reason.TheVariants.{Ahead, Moved, Reintroduced, RolledBack}
use Rattle.meaning.specs.Lists.{pick, both, part, pasted, joined, range, filter, all, of_last, map_last, only, same_list, zeros, number, bytes, padded, fours}
use Rattle.meaning.specs.Edition.{one}
use Rattle.meaning.specs.Bytes.{same_cell, item_bytes, header, block_bytes, encoded, block, height_of, count_of, own_slot, version_of, data_of, children_of, record_with, record_of, record_at, state_of, recorded_of, state, recorded, sound_record, last_version, usable_slot}
use Rattle.meaning.specs.Tree.{slot_of, at_slot, content, leaves, cells, root_of, content_of, leaves_of, cells_of, slots_of, length_of, held}
use Rattle.meaning.specs.Shape.{up, leaves_for, total_within, total, least_count, most_count}
use Rattle.meaning.specs.Refusals.{number_of, unless, refusal_of, at, nowhere, must, first, slot_number}
use Rattle.meaning.specs.Walk.{flaw, used, formed, block_check, is_root, link_check, and_then, passing, is_empty, one_visit, visit_row, visit, from_root, blob_check, roots, closing_check, closing, pool_check}
use Rattle.meaning.specs.Change.{Store, put, puts, changed_by, freed, renewed, changed, changes}
use Rattle.meaning.specs.Resize.{lowest, chain, on_last, roomy, hang, raised, add_leaf, add_leaves, last_leaf, share, shares, last_bytes, longer, keep_row, keep, lower, shorter, resized, along, refill, refilled}
use Rattle.meaning.specs.Calls.{delete_on, delete_in, delete_call, show_on, show_in, show_call, refuse_if, after_check, slots_in, sized, refuse_bad_record, opened, with_blob, usable, live, rooted, reading, changing, refuse_worn, refuse_past, refuse_full, become, length_on, length_in, read_on, read_in, audit_on, audit_in, create_on, create_in, new_blocks, resize_on, resize_in, write_on, write_in, length_call, read_call, audit_call, create_call, write_call, resize_call, after, free_records, wiped, after_wipe}
use Rattle.meaning.specs.Answers.{Said, yields, refuses, answer_of, finish_answer, leaf_answer, read_out, shown_part}
use Rattle.meaning.specs.Answers.{value_said, done_said, leaf_said, said_with}
use Rattle.meaning.specs.Run.{Call, create, audit, write, resize, delete, tell_length, read, show_leaf, says, perform, moments, run}
use Rattle.meaning.specs.Head.{head_of, open_head, block_at, child_at, below, height_at, byte_at, piece, handed, handed_out, moved, pieces}
use Rattle.meaning.specs.Cases.{same_said}
use Rattle.meaning.specs.declared.Edition.{Edition}
use Rattle.meaning.specs.Edition.{Proper}
use Rattle.laws.proofs.Inversions.{by_test}
use Rattle.laws.proofs.Walked.{mem_at, block_length}
use Rattle.laws.proofs.Puts.{put_same, put_other}
use Rattle.laws_history.proofs.Started.{run_settled}
use borrow.Author.Tests.{eqb-true, eqb-false}
use Rattle.promises.specs.Demands.{slots_at, reader, Filled}
use Rattle.promises.specs.Heads.{hands_out}

-- four slots, wiped
unfoldable pub start : Store
start = wiped one 4

-- a blob of two leaves, in slots 0, 1 and 2; a byte in its first leaf, so slot 1 rises to version 2; another blob in slot 3, which goes again
unfoldable pub calls : List Call
calls = create ∷ resize 0 49 ∷ write 0 0 (9 ∷ []) ∷ create ∷ delete 3 ∷ []

-- the store after i of them
unfoldable pub moment : ℕ → Store
moment i = get_or (run one start calls) i start

-- slot y as it was after i calls, put in slot x of the pool after j calls
unfoldable pub put_back : (i y x j : ℕ) → List ℕ
put_back i y x j = put 64 x (block one (moment i).pool y) (moment j).pool

-- what a reader with the records after j calls is answered on pool P*
unfoldable pub asked : (P* : List ℕ) (j : ℕ) → Call → Said
asked P* j c = says one (reader P* (moment j)) c

-- what is asked, against what is to be answered
unfoldable pub answers : List Bool
answers =
    -- undamaged
    same_said (asked (moment 3).pool 3 (read 0 0 2)) (yields (9 ∷ 0 ∷ []))
    ∷ same_said (asked (moment 3).pool 3 (show_leaf 0 1)) (yields (144 ∷ 1 ∷ 0 ∷ []))
    -- slot 1's block from before the write, in its own slot
    ∷ same_said (asked (put_back 2 1 1 3) 3 (read 0 0 2)) (refuses (at RolledBack 1))
    -- slot 1's block after the write, for a reader from before it
    ∷ same_said (asked (put_back 3 1 1 2) 2 (tell_length 0)) (refuses (at Ahead 1))
    -- slot 1's block in slot 2
    ∷ same_said (asked (put_back 3 1 2 3) 3 (tell_length 0)) (refuses (at Moved 2))
    -- slot 3's block, brought back after it went: the audit sees it, and the blob beside it is read as ever
    ∷ same_said (asked (put_back 4 3 3 5) 5 audit) (refuses (at Reintroduced 3))
    ∷ same_said (asked (put_back 4 3 3 5) 5 (tell_length 0)) (yields (49 ∷ []))
    ∷ same_said (asked (moment 5).pool 5 audit) (yields (3 ∷ []))
    -- a head, on the undamaged blob and on the one with the older block
    ∷ same_list (joined (hands_out one (reader (moment 3).pool (moment 3)) 0 (1 ∷ 1 ∷ []))) (9 ∷ 0 ∷ [])
    ∷ same_list (joined (hands_out one (reader (put_back 2 1 1 3) (moment 3)) 0 (1 ∷ 1 ∷ []))) []
    ∷ []

-- all of it computes so
pub answers_hold : all (λ b. b) answers ≡ true
unfolding head_of open_head block_at child_at below height_at byte_at piece handed handed_out moved pieces start calls moment put_back asked answers run moments after_wipe show_on show_in show_call shown_part delete_on delete_in delete_call same_said one pick both part pasted joined range filter all of_last map_last only same_list zeros number bytes padded fours same_cell item_bytes header block_bytes encoded block height_of count_of own_slot version_of data_of children_of record_with record_of record_at state_of recorded_of state recorded sound_record last_version usable_slot slot_of at_slot content leaves cells root_of content_of leaves_of cells_of slots_of length_of held up leaves_for total_within total least_count most_count refusal_of at nowhere must unless number_of first flaw used formed block_check is_root link_check and_then passing is_empty one_visit visit_row visit from_root roots closing_check closing pool_check put puts changed_by freed renewed changed changes lowest chain on_last roomy hang raised add_leaf add_leaves last_leaf share shares last_bytes longer keep_row keep lower shorter resized refuse_if after_check slots_in sized refuse_bad_record opened with_blob usable rooted changing refuse_worn refuse_full become create_on create_in new_blocks resize_on resize_in create_call resize_call after free_records wiped says value_said answer_of done_said said_with finish_answer read_out leaf_said leaf_answer perform reading blob_check length_on length_in refuse_past read_on read_in live audit_on audit_in write_on write_in length_call read_call audit_call write_call along refill refilled slot_number
answers_hold = refl

-- Such pools are those that demand three speaks of: any block of a run, in any slot of the pool of any moment of it.
pub put_filled : (e : Edition) → Proper e → (S₀ : Store) → sized e S₀.pool S₀.records ≡ true → (calls : List Call) (T U : Store)
    → Memᴰ T (run e S₀ calls) → Memᴰ U (run e S₀ calls) → (x y : ℕ) → x < slots_at e S₀ → y < slots_at e S₀
    → Filled e S₀ calls (put e.size x (block e T.pool y) U.pool)
unfolding block
put_filled e p S₀ good calls T U m n x y low high z h =
    let N : ℕ = slots_at e S₀ in
    let wide = block_length e p N T.pool (run_settled e p S₀ good calls T m).pools y high in
    let long = (run_settled e p S₀ good calls U n).pools in
    inr (by_test (eqb z x)
    (λ t. (T, y, m, high, rw (eqb-true z x t) (put_same e.size N x (block e T.pool y) U.pool wide low long)))
    (λ t. (U, z, n, h, put_other e.size N x (block e T.pool y) U.pool wide low long z (eqb-false z x t))))

-- this run starts in good lengths, these are moments of it, and a blob is alive
pub start_sized : sized one start.pool start.records ≡ true
unfolding start calls moment put_back asked answers run moments after_wipe show_on show_in show_call shown_part delete_on delete_in delete_call same_said one pick both part pasted joined range filter all of_last map_last only same_list zeros number bytes padded fours same_cell item_bytes header block_bytes encoded block height_of count_of own_slot version_of data_of children_of record_with record_of record_at state_of recorded_of state recorded sound_record last_version usable_slot slot_of at_slot content leaves cells root_of content_of leaves_of cells_of slots_of length_of held up leaves_for total_within total least_count most_count refusal_of at nowhere must unless number_of first flaw used formed block_check is_root link_check and_then passing is_empty one_visit visit_row visit from_root roots closing_check closing pool_check put puts changed_by freed renewed changed changes lowest chain on_last roomy hang raised add_leaf add_leaves last_leaf share shares last_bytes longer keep_row keep lower shorter resized refuse_if after_check slots_in sized refuse_bad_record opened with_blob usable rooted changing refuse_worn refuse_full become create_on create_in new_blocks resize_on resize_in create_call resize_call after free_records wiped says value_said answer_of done_said said_with finish_answer read_out leaf_said leaf_answer perform reading blob_check length_on length_in refuse_past read_on read_in live audit_on audit_in write_on write_in length_call read_call audit_call write_call along refill refilled slot_number
start_sized = refl

-- the store after so many calls is a moment of the run
pub is_moment : (i : ℕ) → i < 6 → Memᴰ (moment i) (run one start calls)
unfolding moment run moments calls
is_moment i h = mem_at (run one start calls) i start h

-- the blob of slot 0 is alive after three calls
pub blob_alive : state (moment 3).records 0 ≡ 2
unfolding start calls moment put_back asked answers run moments after_wipe show_on show_in show_call shown_part delete_on delete_in delete_call same_said one pick both part pasted joined range filter all of_last map_last only same_list zeros number bytes padded fours same_cell item_bytes header block_bytes encoded block height_of count_of own_slot version_of data_of children_of record_with record_of record_at state_of recorded_of state recorded sound_record last_version usable_slot slot_of at_slot content leaves cells root_of content_of leaves_of cells_of slots_of length_of held up leaves_for total_within total least_count most_count refusal_of at nowhere must unless number_of first flaw used formed block_check is_root link_check and_then passing is_empty one_visit visit_row visit from_root roots closing_check closing pool_check put puts changed_by freed renewed changed changes lowest chain on_last roomy hang raised add_leaf add_leaves last_leaf share shares last_bytes longer keep_row keep lower shorter resized refuse_if after_check slots_in sized refuse_bad_record opened with_blob usable rooted changing refuse_worn refuse_full become create_on create_in new_blocks resize_on resize_in create_call resize_call after free_records wiped says value_said answer_of done_said said_with finish_answer read_out leaf_said leaf_answer perform reading blob_check length_on length_in refuse_past read_on read_in live audit_on audit_in write_on write_in length_call read_call audit_call write_call along refill refilled slot_number
blob_alive = refl
