-- Demand one, whole: the table holds both ways, its numbers, what is left untouched, and the wipe.
use Rattle.std.specs.Prelude.{Err, Ok, Result}
use mathlib.Core.Path.{◌≡◌, refl, sym, ap, subst, ◌∙◌}
use mathlib.Core.Logic.{◌↔◌, ◌⊎◌, inl, inr}
use mathlib.Core.Bool.{Bool, true, false}
use mathlib.Core.List.{List}
use Prim.Native.Nat.{ℕ, ◌+◌, ◌≤◌, ◌<◌}
use native.Mathlib.Omega.{arith}
use borrow.Author.Tests.{lt-ltb, le-leb}
use lib.ListN.{length, replicate}
use Rattle.meaning.specs.declared.Reason.TheVariants.{BadRecord, NoRoom, OutOfRange, WornOut, WrongLengths, NotARoot}
use Rattle.meaning.specs.declared.Edition.{Edition}
use Rattle.meaning.specs.declared.Refusal.{Refusal}
use Rattle.meaning.specs.Lists.{pick}
use Rattle.meaning.specs.Edition.{Proper}
use Rattle.meaning.specs.Bytes.{record_at, record_of}
use Rattle.meaning.specs.Tree.{Blob, leaves_of, length_of}
use Rattle.meaning.specs.Refusals.{refusal_of, at, nowhere, number_of}
use Rattle.meaning.specs.Walk.{fault, fine}
use Rattle.meaning.specs.Change.{Store}
use Rattle.meaning.specs.Calls.{Outcome, after, sized, refuse_past, refuse_full, wiped, after_wipe}
use Rattle.meaning.specs.Calls.{read_on, read_in, show_on, show_in, create_on, create_in, write_on, write_in, resize_on, resize_in}
use Rattle.meaning.specs.Calls.{length_call, read_call, show_call, audit_call, create_call, write_call, resize_call, delete_call}
use Rattle.meaning.specs.Answers.{wipe_answer, Reads, read_out, Said, yields, refuses, done_said}
use Rattle.meaning.specs.Run.{Call, create, audit, write, resize, delete, tell_length, read, show_leaf, says, perform}
use Rattle.meaning.specs.declared.Reason.{Reason}
use Rattle.laws.proofs.Free.{free_record, free_length}
use Rattle.laws.proofs.OneToOne.{value_said_same, done_said_same, leaf_said_same}
use Rattle.laws_history.proofs.Started.{wipe_starts}
use Rattle.laws_sound.proofs.again.Outcomes.{sized_lengths}
use Rattle.promises.proofs.Numbers.{number_same}
use Rattle.promises.proofs.Said.{said_by, one_number, no_number, all_bytes, leaf_shown, said_refused, refused_said}
use Rattle.promises.proofs.Said.{says_create, says_audit, says_write, says_resize, says_delete, says_length, says_read, says_show}
use Rattle.promises.proofs.Stores.{reads}
use Rattle.promises.proofs.Faults.{OfWalk, blob_numbered, pool_numbered}
use Rattle.promises.proofs.Refused.{if_refused, check_passed, opened_passed, worn_refused, worn_passed}
use Rattle.promises.proofs.RefusedExactly.{chain, chain_table, chain_1, chain_2, chain_3, chain_walk, one_fault, changing_met}
use Rattle.promises.specs.Demands.{slots_at, blob_at, pool_at, free_at, new_at, walked, Opened, Met, Worn, DemandOne}
use Rattle.promises.specs.Demands.{Table, refusal_1, refusal_2, refusal_3, refusals_4_to_9, refusal_12_write, refusal_12_resize, refusal_10_write, refusal_10_read, refusal_10_show}
use Rattle.promises.specs.Demands.{refusal_11_resize, refusal_11_create}

module _ (e : Edition) (p : Proper e) (S : Store) where
  abbrev N : ℕ
  N = slots_at e S

  abbrev P : List ℕ
  P = S.pool

  abbrev R : List ℕ
  R = S.records

  -- the refusals of one call each: 12 of write
  write_worn : (r offset : ℕ) (d : List ℕ) (b : Blob) → Met e S (write r offset d) r b → Worn S b → says e S (write r offset d) ≡ refuses (nowhere WornOut)
  unfolding write_call write_in walked
  write_worn r offset d b m worn =
      says_write e S r offset d ∙ refused_said no_number _ (nowhere WornOut) (changing_met e p S (write r offset d) r b (write_on e N P R offset d) refl m
      ∙ unfold write_on in worn_refused e S _ b worn)

  -- 12 of resize
  resize_worn : (r len : ℕ) (b : Blob) → Met e S (resize r len) r b → Worn S b → says e S (resize r len) ≡ refuses (nowhere WornOut)
  unfolding resize_call resize_in walked
  resize_worn r len b m worn =
      says_resize e S r len ∙ refused_said no_number _ (nowhere WornOut) (changing_met e p S (resize r len) r b (resize_on e N P R len) refl m
      ∙ unfold resize_on in worn_refused e S _ b worn)

  -- 10 of write
  write_past : (r offset : ℕ) (d : List ℕ) (b : Blob) → Met e S (write r offset d) r b → (Worn S b → ⊥) → length_of b < offset + length d
      → says e S (write r offset d) ≡ refuses (nowhere OutOfRange)
  unfolding write_call write_in walked
  write_past r offset d b m young h =
      says_write e S r offset d ∙ refused_said no_number _ (nowhere OutOfRange) (changing_met e p S (write r offset d) r b (write_on e N P R offset d) refl m
      ∙ unfold write_on refuse_past in worn_passed e S _ b young ∙ if_refused _ OutOfRange _ (lt-ltb (length_of b) (offset + length d) h))

  -- 10 of read
  read_past : (r offset size : ℕ) (b : Blob) → Met e S (read r offset size) r b → length_of b < offset + size
      → says e S (read r offset size) ≡ refuses (nowhere OutOfRange)
  unfolding read_call read_in
  read_past r offset size b m h =
      says_read e S r offset size ∙ refused_said all_bytes _ (nowhere OutOfRange) (reads e p S r b m.finds (read_on e N P R offset size)
      ∙ unfold read_on refuse_past in if_refused _ OutOfRange _ (lt-ltb (length_of b) (offset + size) h))

  -- 10 of show
  show_past : (r k : ℕ) (b : Blob) → Met e S (show_leaf r k) r b → length (leaves_of b) ≤ k → says e S (show_leaf r k) ≡ refuses (nowhere OutOfRange)
  unfolding show_call show_in
  show_past r k b m h =
      says_show e S r k ∙ refused_said (leaf_shown e P) _ (nowhere OutOfRange) (reads e p S r b m.finds (show_on e N P R k)
      ∙ unfold show_on in if_refused _ OutOfRange _ (le-leb (length (leaves_of b)) k h))

  -- 11 of resize
  resize_full : (r len : ℕ) (b : Blob) → Met e S (resize r len) r b → (Worn S b → ⊥) → length (free_at e S) < new_at e S len b
      → says e S (resize r len) ≡ refuses (nowhere NoRoom)
  unfolding resize_call resize_in walked
  resize_full r len b m young h =
      says_resize e S r len ∙ refused_said no_number _ (nowhere NoRoom) (changing_met e p S (resize r len) r b (resize_on e N P R len) refl m
      ∙ unfold resize_on refuse_full in worn_passed e S _ b young ∙ if_refused _ NoRoom _ (lt-ltb (length (free_at e S)) (new_at e S len b) h))

  -- 11 of create
  create_full : (bs : List Blob) (seen : List ℕ) → Opened e S → pool_at e S ≡ fine bs seen → length (free_at e S) < 1
      → says e S create ≡ refuses (nowhere NoRoom)
  unfolding create_call create_in create_on refuse_full
  create_full bs seen o f h =
      says_create e S ∙ refused_said one_number _ (nowhere NoRoom) (opened_passed e S _ o ∙ check_passed (pool_at e S) (create_on e N P R) bs seen f
      ∙ if_refused _ NoRoom _ (lt-ltb (length (free_at e S)) 1 h))

  -- a refusal of another call
  other_call : (c : Call) (x : Call) (q t : Refusal) → c ≡ x → q ≡ t → says e S x ≡ refuses t → says e S c ≡ refuses q
  other_call c x q t k l h = rw (k, l) h

  -- one of the table holds: the call is refused so
  table_says : (c : Call) (q : Refusal) → Table e S c q → says e S c ≡ refuses q
  table_says c q (refusal_1 h k) = chain_1 e S c (chain e p S c) q h k
  table_says c q (refusal_2 s h low bad f k) = chain_2 e S c (chain e p S c) q s h low bad f k
  table_says c q (refusal_3 r o one bad k) = chain_3 e S c (chain e p S c) q r o one bad k
  table_says c q (refusals_4_to_9 o roots f) = chain_walk e S c (chain e p S c) q o roots f
  table_says c q (refusal_12_write r offset d b k m worn l) = other_call c _ q _ k l (write_worn r offset d b (subst (λ c. Met e S c r b) k m) worn)
  table_says c q (refusal_12_resize r len b k m worn l) = other_call c _ q _ k l (resize_worn r len b (subst (λ c. Met e S c r b) k m) worn)
  table_says c q (refusal_10_write r offset d b k m y h l) = other_call c _ q _ k l (write_past r offset d b (subst (λ c. Met e S c r b) k m) y h)
  table_says c q (refusal_10_read r offset size b k m h l) = other_call c _ q _ k l (read_past r offset size b (subst (λ c. Met e S c r b) k m) h)
  table_says c q (refusal_10_show r i b k m h l) = other_call c _ q _ k l (show_past r i b (subst (λ c. Met e S c r b) k m) h)
  table_says c q (refusal_11_resize r len b k m y h l) = other_call c _ q _ k l (resize_full r len b (subst (λ c. Met e S c r b) k m) y h)
  table_says c q (refusal_11_create bs seen k o f h l) = other_call c _ q _ k l (create_full bs seen o f h)

  -- a walk's refusals
  walk_numbered : (c : Call) (q : Refusal) → walked e S c ≡ fault q → OfWalk q
  unfolding walked
  walk_numbered create q h = pool_numbered e N P R q h
  walk_numbered audit q h = pool_numbered e N P R q h
  walk_numbered (write r offset d) q h = pool_numbered e N P R q h
  walk_numbered (resize r len) q h = pool_numbered e N P R q h
  walk_numbered (delete r) q h = pool_numbered e N P R q h
  walk_numbered (tell_length r) q h = blob_numbered e N P R r q (one_fault (blob_at e S r) q h)
  walk_numbered (read r offset size) q h = blob_numbered e N P R r q (one_fault (blob_at e S r) q h)
  walk_numbered (show_leaf r k) q h = blob_numbered e N P R r q (one_fault (blob_at e S r) q h)

  -- a number of the table
  abbrev Listed : Refusal → Type 0
  Listed q = (1 ≤ number_of q.reason) × (number_of q.reason ≤ 12)

  -- one that names no slot
  nowhere_listed : (why : Reason) (q : Refusal) → 1 ≤ number_of why → number_of why ≤ 12 → q ≡ nowhere why → Listed q
  unfolding nowhere refusal_of
  nowhere_listed why q lo hi k = rw k (lo, hi)

  -- 2
  at_listed : (s : ℕ) (q : Refusal) → q ≡ at BadRecord s → Listed q
  unfolding at refusal_of number_of
  at_listed s q k = rw k (omega arith, omega arith)

  -- every refusal of the table has one
  table_listed : (c : Call) (q : Refusal) → Table e S c q → Listed q
  unfolding number_of
  table_listed c q (refusal_1 h k) = nowhere_listed WrongLengths q (omega arith) (omega arith) k
  table_listed c q (refusal_2 s h low bad f k) = at_listed s q k
  table_listed c q (refusal_3 r o one bad k) = nowhere_listed NotARoot q (omega arith) (omega arith) k
  table_listed c q (refusals_4_to_9 o roots f) = let (lo, hi, s) = walk_numbered c q f in (omega arith, omega arith)
  table_listed c q (refusal_12_write r offset d b k m worn l) = nowhere_listed WornOut q (omega arith) (omega arith) l
  table_listed c q (refusal_12_resize r len b k m worn l) = nowhere_listed WornOut q (omega arith) (omega arith) l
  table_listed c q (refusal_10_write r offset d b k m y h l) = nowhere_listed OutOfRange q (omega arith) (omega arith) l
  table_listed c q (refusal_10_read r offset size b k m h l) = nowhere_listed OutOfRange q (omega arith) (omega arith) l
  table_listed c q (refusal_10_show r i b k m h l) = nowhere_listed OutOfRange q (omega arith) (omega arith) l
  table_listed c q (refusal_11_resize r len b k m y h l) = nowhere_listed NoRoom q (omega arith) (omega arith) l
  table_listed c q (refusal_11_create bs seen k o f h l) = nowhere_listed NoRoom q (omega arith) (omega arith) l

  -- how a call ends: with its result, or with a listed refusal
  abbrev Ended : Call → Type 0
  Ended c = ((vs : List ℕ) × (says e S c ≡ yields vs)) ⊎ ((q : Refusal) × (says e S c ≡ refuses q) × (1 ≤ number_of q.reason) × (number_of q.reason ≤ 12))

  -- so it ends
  call_ends : (c : Call) → Ended c
  call_ends c = go (says e S c) refl
    where
      go : (x : Said) → says e S c ≡ x → Ended c
      go (yields vs) h = inl (vs, h)
      go (refuses q) h = let l = table_listed c q (chain_table e S c (chain e p S c) q h) in inr (q, h, l.0, l.1)

  -- a refused outcome leaves the store
  refused_after : {A : Type 0} (values : A → List ℕ) (o : Outcome A) (q : Refusal) → said_by values o ≡ refuses q → after e S o ≡ S
  unfolding after
  refused_after values o q h = rw (said_refused values o q h)

  -- and so does a refused call
  call_untouched : (c : Call) (q : Refusal) → says e S c ≡ refuses q → perform e S c ≡ S
  unfolding perform
  call_untouched create q h = refused_after _ (create_call e P R) q (sym (says_create e S) ∙ h)
  call_untouched audit q h = refused_after _ (audit_call e P R) q (sym (says_audit e S) ∙ h)
  call_untouched (write r offset d) q h = refused_after _ (write_call e P R r offset d) q (sym (says_write e S r offset d) ∙ h)
  call_untouched (resize r len) q h = refused_after _ (resize_call e P R r len) q (sym (says_resize e S r len) ∙ h)
  call_untouched (delete r) q h = refused_after _ (delete_call e P R r) q (sym (says_delete e S r) ∙ h)
  call_untouched (tell_length r) q h = refused_after _ (length_call e P R r) q (sym (says_length e S r) ∙ h)
  call_untouched (read r offset size) q h = refused_after _ (read_call e P R r offset size) q (sym (says_read e S r offset size) ∙ h)
  call_untouched (show_leaf r k) q h = refused_after _ (show_call e P R r k) q (sym (says_show e S r k) ∙ h)

  -- nor does a refused read fill any byte
  read_unfilled : (r offset size : ℕ) (q : Refusal) → says e S (read r offset size) ≡ refuses q → (x : Result (Unit {0}) Refusal) (out out' : List ℕ)
      → Reads (read_call e P R r offset size) x out out' → out' ≡ out
  unfolding read_out
  read_unfilled r offset size q h x out out' a =
      a.output ∙ ap (λ o. read_out o out) (said_refused all_bytes (read_call e P R r offset size) q (sym (says_read e S r offset size) ∙ h))

  -- wipe
  wipe_exactly : (q : Refusal) → (done_said (wipe_answer e P R) ≡ refuses q) ↔ ((sized e P R ≡ false) × (q ≡ nowhere WrongLengths))
  unfolding wipe_answer done_said pick
  wipe_exactly q = (go (sized e P R), λ (t, k). rw (t, k))
    where
      go : (t : Bool) → done_said (pick t (Ok tt) (Err (nowhere WrongLengths))) ≡ refuses q → (t ≡ false) × (q ≡ nowhere WrongLengths)
      go true h = let z : ◌≡◌ {A = ℕ} 0 1 = cc in absurd (omega arith)
      go false h = let k : q ≡ nowhere WrongLengths = cc in (refl, k)

  -- what it leaves: zeros, and free records at version 0
  wipe_leaves : sized e P R ≡ true
      → ((after_wipe e S).pool ≡ replicate (length P) 0) × (length (after_wipe e S).records ≡ length R)
      × ((s : ℕ) → s < N → record_at (after_wipe e S).records s ≡ record_of 0 0)
  unfolding wiped
  wipe_leaves h =
      let l = sized_lengths e P R h in
      let q = wipe_starts e S h in (
        ap (λ (T : Store). T.pool) q ∙ ap (λ (n : ℕ). replicate {A = ℕ} n 0) (sym l.whole),
        ap (λ (T : Store). length T.records) q ∙ free_length N ∙ sym l.lines,
        (λ s low. ap (λ (T : Store). record_at T.records s) q ∙ free_record N s low),
      )

  -- refused, the store as it was
  wipe_untouched : sized e P R ≡ false → after_wipe e S ≡ S
  unfolding after_wipe pick
  wipe_untouched h = rw h

-- demand one
pub one : (e : Edition) → Proper e → DemandOne e
one e p = record {
  ends = call_ends e p;
  exactly = λ S c q. (chain_table e S c (chain e p S c) q, table_says e p S c q);
  walks = walk_numbered e p;
  untouched = call_untouched e p;
  unfilled = read_unfilled e p;
  wipe = wipe_exactly e p;
  wiping = wipe_leaves e p;
  unwiped = wipe_untouched e p;
  one_end = λ say o P R x y P' R' P'' R'' a b. (a.answer ∙ sym b.answer, a.pool ∙ sym b.pool, a.records ∙ sym b.records);
  one_wipe = λ P R x y P' R' P'' R'' a b. (a.answer ∙ sym b.answer, a.pool ∙ sym b.pool, a.records ∙ sym b.records);
  one_read = λ o x y out out' out'' a b. (a.answer ∙ sym b.answer, a.output ∙ sym b.output);
  one_answer = (value_said_same, done_said_same, leaf_said_same);
  numbers_differ = number_same;
}
