-- Demand 3. At any moment of any run of calls after a wipe, give a reader that moment's records and any pool of the same length each of whose
-- slots holds zeros or what some slot held at some moment of the run. Length, read and show answer as on the writer's pool exactly if every
-- block of the blob is as it was; otherwise they are refused, and the refusal names the first block, in walk order, that is not. The audit
-- passes exactly if the whole pool is as it was. Assumed of the moment: the writer's own pool check passes there.
use Rattle.std.specs.Prelude.{None, Some, Option}
use mathlib.Core.Path.{◌≡◌, refl, sym, ap, ◌∙◌}
use mathlib.Core.Bool.{Bool, true, false}
use mathlib.Core.List.{List, [], Memᴰ}
use Prim.Native.Nat.{ℕ, ◌*◌, ◌≤◌, ◌<◌}
use native.Mathlib.Omega.{arith}
use native.Mathlib.Nat.{mul-le-mul_left}
use borrow.Author.Tests.{ltb-true, ltb-false}
use lib.Dec.{ltb}
use lib.ListN.{length, drop, drop_of_length-le}
use Rattle.meaning.specs.declared.Edition.{Edition}
use Rattle.meaning.specs.declared.Refusal.{Refusal}
use Rattle.meaning.specs.Lists.{part}
use Rattle.meaning.specs.Edition.{Proper}
use Rattle.meaning.specs.Bytes.{state, state_of, record_at}
use Rattle.meaning.specs.Tree.{Blob, slots_of, length_of}
use Rattle.meaning.specs.Refusals.{refusal_of, at, nowhere}
use Rattle.meaning.specs.Walk.{fine, blob_check, pool_check}
use Rattle.meaning.specs.Change.{Change, Store}
use Rattle.meaning.specs.Calls.{Outcome, refused, done, refuse_if, after_check, slots_in, sized, opened, live, reading, refuse_past}
use Rattle.meaning.specs.Calls.{length_on, length_in, read_on, read_in, show_on, show_in}
use Rattle.meaning.specs.Calls.{length_call, read_call, show_call, audit_call}
use Rattle.meaning.specs.Answers.{shown_part}
use Rattle.meaning.specs.Run.{Call, run}
use Rattle.meaning.specs.declared.Reason.{Reason}
use Rattle.laws.proofs.Inversions.{by_test}
use Rattle.laws.proofs.Every.{Every}
use Rattle.laws_history.proofs.Local.{Same, Told}
use Rattle.laws_history.proofs.Reached.{Live, from_reach}
use Rattle.laws_history.proofs.Fewer.{pool_found}
use Rattle.laws_history.proofs.Stepped.{Settled}
use Rattle.laws.proofs.Walked.{slots_in_lem}
use Rattle.laws_history.proofs.Started.{Sized, FromRun, run_settled, run_sized, run_slots, run_blank, run_told}
use Rattle.laws_history.proofs.Answered.{Exact, reading_checks, reading_exact}
use Rattle.laws_history.proofs.Shown.{shown_same}
use Rattle.laws_history.proofs.Audited.{audit_passes, audit_only}

-- a root's record lies within the records
pub root_within : (R : List ℕ) (N r : ℕ) → length R ≡ 12 * N → state R r ≡ 2 → r < N
unfolding state record_at part state_of
root_within R N r long is =
    by_test (ltb r N)
    (λ t. ltb-true r N t)
    (λ t.
    let out : N ≤ r = ltb-false r N t in
    let m : 12 * N ≤ 12 * r = mul-le-mul_left 12 out in
    let d : drop (12 * r) R ≡ [] = drop_of_length-le R {i = 12 * r} (omega arith) in
    absurd (omega (arith, rw d at is)))

-- a refusal that names no slot, or none at all, is not one that names a slot
unnamed : {A : Type 0} (t : Bool) (m : Reason) (a : A) (cs : List Change) (n : Reason) (s : ℕ) → refuse_if t m (done a cs) ≡ refused (at n s) → ⊥
unfolding refuse_if at nowhere refusal_of
unnamed true m a cs n s h =
    let q : nowhere m ≡ at n s = cc in
    let named : ◌≡◌ {A = Option ℕ} None (Some s) = ap (λ (r : Refusal). r.named) q in
    let z : ◌≡◌ {A = ℕ} 0 1 = cc in
    omega arith
unnamed false m a cs n s h = let z : ◌≡◌ {A = ℕ} 0 1 = cc in omega arith

-- so on a blob that was found no reading call names a slot
module _ (e : Edition) (N : ℕ) (P R : List ℕ) (b : Blob) (n : Reason) (s : ℕ) where
  length_unnamed : length_on e N P R b ≡ refused (at n s) → ⊥
  unfolding length_on refuse_if
  length_unnamed h = unnamed false n (length_of b) [] n s h

  read_unnamed : (offset size : ℕ) → read_on e N P R offset size b ≡ refused (at n s) → ⊥
  unfolding read_on refuse_past
  read_unnamed offset size h = unnamed _ _ _ _ n s h

  show_unnamed : (k : ℕ) → show_on e N P R k b ≡ refused (at n s) → ⊥
  unfolding show_on
  show_unnamed k h = unnamed _ _ _ _ n s h

-- what the reading calls answer of root r, on the other pool against the writer's: r's blob b, found in the writer's pool, and each call
pub record Answers (e : Edition) (N : ℕ) (P P* R : List ℕ) (r : ℕ) : Type 0 where
  pub blob : Blob
  pub seen : List ℕ
  pub found : blob_check e N P R r ≡ fine blob seen
  pub length : Exact e P P* R blob (length_call e P R r) (length_call e P* R r)
  pub read : (offset size : ℕ) → Exact e P P* R blob (read_call e P R r offset size) (read_call e P* R r offset size)
  pub show : (k : ℕ) → Exact e P P* R blob (show_call e P R r k) (show_call e P* R r k)
  pub shown : (k : ℕ) → Every (Same e P P*) (slots_of blob) → shown_part e P* (show_call e P* R r k) ≡ shown_part e P (show_call e P R r k)

-- what the audit answers: it passes on the writer's pool, with the count of live slots; on the other pool it passes exactly if that is the writer's
pub record Audits (e : Edition) (N : ℕ) (P P* R : List ℕ) : Type 0 where
  pub writer : audit_call e P R ≡ done (length (live e N P R)) []
  pub same : P* ≡ P → audit_call e P* R ≡ done (length (live e N P R)) []
  pub only : (n : ℕ) (cs : List Change) → audit_call e P* R ≡ done n cs → P* ≡ P

module _ (e : Edition) (p : Proper e) (S₀ : Store) (good : sized e S₀.pool S₀.records ≡ true) (calls : List Call)
    (S : Store) (moment : Memᴰ S (run e S₀ calls))
    (bs : List Blob) (seen : List ℕ) (passes : pool_check e (slots_in e S₀.pool) S.pool S.records ≡ fine bs seen)
    (P* : List ℕ) (size : length P* ≡ length S.pool) (fill : FromRun e S₀ calls P*) where
  abbrev N : ℕ
  N = slots_in e S₀.pool

  abbrev P : List ℕ
  P = S.pool

  abbrev R : List ℕ
  R = S.records

  -- the moment is settled
  is : Settled e N S
  is = run_settled e p S₀ good calls S moment

  -- and of good lengths
  lengths : Sized e N P R
  lengths = run_sized e p S₀ good calls S moment

  -- what passes check 2 at a live slot is what it held
  told : (x : ℕ) → Live N R x → Told e P P* R x
  told x l = run_told e p S₀ good calls S moment P* fill x l.0 l.1

  -- the slots of a blob that the check finds are live
  blob_told : (r : ℕ) (b : Blob) (m : List ℕ) → blob_check e N P R r ≡ fine b m → r < N → state R r ≡ 2 → Every (Told e P P* R) (slots_of b)
  unfolding blob_check
  blob_told r b m found within root =
      (from_reach e N P R (Told e P P* R) (λ x l z. told x l) _ r found (within, omega arith)).1.0

  -- any call that reads the blob of root r, as a function of the number of slots
  call_exact : {A : Type 0} (r : ℕ) (b : Blob) (m : List ℕ) → blob_check e N P R r ≡ fine b m → r < N → state R r ≡ 2
      → (k : Blob → Outcome A) → ((why : Reason) (s : ℕ) → k b ≡ refused (at why s) → ⊥)
      → (inside inside* : ℕ → Outcome A) → inside N ≡ reading e N P R r k → inside* N ≡ reading e N P* R r k
      → Exact e P P* R b (opened e P R (inside (slots_in e P))) (opened e P* R (inside* (slots_in e P*)))
  call_exact r b m found within root k free inside inside* q q* =
      let n : slots_in e P ≡ N = run_slots e p S₀ good calls S moment in
      let n* : slots_in e P* ≡ N = slots_in_lem e p N P* (size ∙ is.pools) in
      rw (n, n*, q, q*) (reading_exact e p N P P* R lengths size is.sound r within root b m found (blob_told r b m found within root) k free)

  -- the bytes that show points at
  bytes_shown : (r : ℕ) (b : Blob) (m : List ℕ) → blob_check e N P R r ≡ fine b m → r < N → state R r ≡ 2
      → (k : ℕ) → show_call e P* R r k ≡ show_call e P R r k → Every (Same e P P*) (slots_of b)
      → shown_part e P* (show_call e P* R r k) ≡ shown_part e P (show_call e P R r k)
  unfolding show_call show_in after_check
  bytes_shown r b m found within root k q same =
      let here : show_call e P R r k ≡ show_on e N P R k b =
      ap (λ (n : ℕ). opened e P R (show_in e n P R r k)) (run_slots e p S₀ good calls S moment)
      ∙ reading_checks e p N P R lengths is.sound r within root (show_on e N P R k) ∙ ap (λ f. after_check f (show_on e N P R k)) found in
      ap (shown_part e P*) (q ∙ here) ∙ shown_same e p N P P* R is.pools size r within b m found same k ∙ ap (shown_part e P) (sym here)

  -- Demand 3, length, read and show: of every root
  pub reading_demand : (r : ℕ) → state R r ≡ 2 → Answers e N P P* R r
  unfolding length_call length_in length_on read_call read_in read_on refuse_past show_call show_in show_on
  reading_demand r root =
      let within = root_within R N r is.lines root in
      let (b, m, found) = pool_found e N P R bs seen passes r within root in
      let show : (k : ℕ) → Exact e P P* R b (show_call e P R r k) (show_call e P* R r k) =
      λ k. call_exact r b m found within root (show_on e N P R k) (λ i s. show_unnamed e N P R b i s k)
      (λ n. show_in e n P R r k) (λ n. show_in e n P* R r k) refl refl in
      record {
        blob = b;
        seen = m;
        found = found;
        length = call_exact r b m found within root (length_on e N P R) (λ i s. length_unnamed e N P R b i s)
            (λ n. length_in e n P R r) (λ n. length_in e n P* R r) refl refl;
        read = λ offset k. call_exact r b m found within root (read_on e N P R offset k) (λ i s. read_unnamed e N P R b i s offset k)
            (λ n. read_in e n P R r offset k) (λ n. read_in e n P* R r offset k) refl refl;
        show = show;
        shown = λ k same. bytes_shown r b m found within root k ((show k).same same) same;
      }

  -- Demand 3, the audit
  pub audit_demand : Audits e N P P* R
  audit_demand =
      let writer = audit_passes e p N P R lengths is.sound bs seen passes in
      record {
        writer = writer;
        same = λ q. ap (λ (Q : List ℕ). audit_call e Q R) q ∙ writer;
        only = audit_only e p N P P* R lengths size is.sound (run_blank e p S₀ good calls S moment) (λ x h l. told x (h, l));
      }
