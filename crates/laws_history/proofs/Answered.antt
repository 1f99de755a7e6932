-- What a reading call answers on another pool of the same size, with the same records: the same, exactly if every block of its blob is as
-- it was; otherwise a refusal that names the first block, in walk order, that is not.
use Rattle.std.specs.Prelude.{Some}
use mathlib.Core.Path.{◌≡◌, refl, sym, ap, subst, ◌∙◌}
use mathlib.Core.Logic.{◌⊎◌, inl, inr, ⊎_elim}
use mathlib.Core.Bool.{true}
use mathlib.Core.List.{List, [], ◌∷◌, ◌++◌}
use Prim.Native.Nat.{ℕ, ◌≤◌, ◌<◌}
use native.Mathlib.Omega.{arith}
use borrow.Author.Tests.{eq-eqb, lt-ltb}
use lib.ListN.{length}
use Rattle.meaning.specs.declared.Edition.{Edition}
use Rattle.meaning.specs.Lists.{pick, both, range, same_list}
use Rattle.meaning.specs.Edition.{Proper}
use Rattle.meaning.specs.Bytes.{block, record_at, state, sound_record}
use Rattle.meaning.specs.Tree.{Blob, slots_of}
use Rattle.meaning.specs.Refusals.{at, number_of}
use Rattle.meaning.specs.Walk.{fine, blob_check}
use Rattle.meaning.specs.Calls.{Outcome, refused, refuse_if, after_check, slots_in, refuse_bad_record, opened, rooted, reading}
use Rattle.meaning.specs.declared.Reason.{Reason}
use Rattle.laws.proofs.Inversions.{by_test, same_list_lem}
use Rattle.laws.proofs.Every.{Every, every_right, range_every}
use Rattle.laws_history.proofs.Local.{unlike, Same, other_flaw, other_why, why_found, Told, first_other, other_none, other_first, other_found, other_number, check_other}
use Rattle.laws.proofs.Walked.{slots_in_lem}
use Rattle.laws_history.proofs.Started.{Sized, so_sized, other_sized}

-- the first of these slots that is not as it was
pub record FirstOther (e : Edition) (P P* : List ℕ) (slots : List ℕ) : Type 0 where
  pub before : List ℕ
  pub slot : ℕ
  pub later : List ℕ
  pub split : slots ≡ before ++ (slot ∷ later)
  pub same : Every (Same e P P*) before
  pub differs : Same e P P* slot → ⊥

-- each of them is as it was, or there is a first that is not
pub each_or_first : (e : Edition) (P P* : List ℕ) (xs : List ℕ) → Every (Same e P P*) xs ⊎ FirstOther e P P* xs
each_or_first e P P* [] = inl tt
each_or_first e P P* (x ∷ xs) =
    by_test (same_list (block e P* x) (block e P x))
    (λ t.
    let s : Same e P P* x = same_list_lem (block e P* x) (block e P x) t in
    ⊎_elim
    (λ all. inl (s, all))
    (λ f. inr (record {
      before = x ∷ f.before;
      slot = f.slot;
      later = f.later;
      split = ap (λ (l : List ℕ). x ∷ l) f.split;
      same = (s, f.same);
      differs = f.differs;
    }))
    (each_or_first e P P* xs))
    (λ t.
    inr (record {
      before = [];
      slot = x;
      later = xs;
      split = refl;
      same = tt;
      differs = unlike (block e P* x) (block e P x) t;
    }))

-- a call is refused for what check 2 finds wrong with the first of these slots that is not as it was, and the refusal names that slot
pub record Stopped {A : Type 0} (e : Edition) (P P* R slots : List ℕ) (o : Outcome A) : Type 0 where
  pub first : FirstOther e P P* slots
  pub why : Reason
  pub found : Some why ≡ other_flaw e P* R first.slot
  pub low : 4 ≤ number_of why
  pub high : number_of why ≤ 7
  pub answer : o ≡ refused (at why first.slot)

-- so the reason is the one that other_why gives of that slot
pub stopped_why : {A : Type 0} (e : Edition) (P P* R slots : List ℕ) (o : Outcome A) (q : Stopped e P P* R slots o)
    → q.why ≡ other_why e P* R q.first.slot
stopped_why e P P* R slots o q = why_found (other_flaw e P* R q.first.slot) q.why q.found

-- a call on a blob, whose outcome is o, has outcome o* on the other pool
pub record Exact {A : Type 0} (e : Edition) (P P* R : List ℕ) (b : Blob) (o o* : Outcome A) : Type 0 where
  pub same : Every (Same e P P*) (slots_of b) → o* ≡ o
  pub only : o* ≡ o → Every (Same e P P*) (slots_of b)
  pub other : (Every (Same e P P*) (slots_of b) → ⊥) → Stopped e P P* R (slots_of b) o*

-- behind a check of such a blob
module _ {A : Type 0} (e : Edition) (P P* R : List ℕ) (b : Blob) (seen : List ℕ) (told : Every (Told e P P* R) (slots_of b)) (k : Blob → Outcome A)
    (unnamed : (why : Reason) (s : ℕ) → k b ≡ refused (at why s) → ⊥) where
  -- stopped at the first slot that is not as it was
  stopped : FirstOther e P P* (slots_of b) → Stopped e P P* R (slots_of b) (after_check (first_other e P P* R (slots_of b) (fine b seen)) k)
  unfolding after_check
  stopped f =
      let told_here : Every (Told e P P* R) (f.before ++ (f.slot ∷ f.later)) = subst (λ (l : List ℕ). Every (Told e P P* R) l) f.split told in
      let told_slot : Told e P P* R f.slot = (every_right (Told e P P* R) f.before (f.slot ∷ f.later) told_here).0 in
      let n = other_number e P P* R f.slot told_slot f.differs in
      let found = ap (λ (l : List ℕ). first_other e P P* R l (fine b seen)) f.split
      ∙ other_first e P P* R f.before f.slot f.later _ f.same f.differs in
      record {
        first = f;
        why = other_why e P* R f.slot;
        found = sym (other_found e P P* R f.slot told_slot f.differs);
        low = n.0;
        high = n.1;
        answer = ap (λ f. after_check f k) found;
      }

  pub check_exact : Exact e P P* R b (k b) (after_check (first_other e P P* R (slots_of b) (fine b seen)) k)
  unfolding after_check
  check_exact =
      record {
        same = λ s. ap (λ f. after_check f k) (other_none e P P* R (slots_of b) (fine b seen) s);
        only = λ q.
            ⊎_elim (λ all. all) (λ f. let s = stopped f in absurd (unnamed s.why s.first.slot (sym q ∙ s.answer)))
            (each_or_first e P P* (slots_of b));
        other = λ d. ⊎_elim (λ all. absurd (d all)) stopped (each_or_first e P P* (slots_of b));
      }

-- refusal 2 is not given where records are sound
records_pass : {A : Type 0} (R ss : List ℕ) (o : Outcome A) → Every (λ x. sound_record (record_at R x) ≡ true) ss → refuse_bad_record R ss o ≡ o
unfolding refuse_bad_record pick
records_pass R [] o q = refl
records_pass R (s ∷ ss) o q = rw q.0 (records_pass R ss o q.1)

-- refusals 1 and 2 are not given where lengths and records are good
pub opened_passes : {A : Type 0} (e : Edition) → Proper e → (N : ℕ) (P R : List ℕ) → Sized e N P R
    → ((x : ℕ) → x < N → sound_record (record_at R x) ≡ true) → (o : Outcome A) → opened e P R o ≡ o
unfolding opened refuse_if
opened_passes {A} e p N P R s sound o =
    let n : slots_in e P ≡ N = slots_in_lem e p N P s.pool in
    rw (so_sized e p N P R s, n)
    (records_pass R (range 0 N) o (range_every (λ x. sound_record (record_at R x) ≡ true) N 0 (λ x h k. sound x (omega arith))))

-- nor is refusal 3 of a root
pub rooted_passes : {A : Type 0} (e : Edition) (N : ℕ) (P R : List ℕ) (r : ℕ) → r < N → state R r ≡ 2 → (o : Outcome A) → rooted e N P R r o ≡ o
unfolding rooted refuse_if both
rooted_passes e N P R r h s o = simp (lt-ltb r N h, eq-eqb (state R r) 2 s)

-- so a reading call of a root is its blob check, then what it does on the blob
pub reading_checks : {A : Type 0} (e : Edition) → Proper e → (N : ℕ) (P R : List ℕ) → Sized e N P R
    → ((x : ℕ) → x < N → sound_record (record_at R x) ≡ true) → (r : ℕ) → r < N → state R r ≡ 2 → (k : Blob → Outcome A)
    → opened e P R (reading e N P R r k) ≡ after_check (blob_check e N P R r) k
unfolding reading
reading_checks e p N P R good sound r within root k = opened_passes e p N P R good sound _ ∙ rooted_passes e N P R r within root _

-- a reading call of a root whose blob the check finds in the first pool
pub reading_exact : {A : Type 0} (e : Edition) → Proper e → (N : ℕ) (P P* R : List ℕ) → Sized e N P R → length P* ≡ length P
    → ((x : ℕ) → x < N → sound_record (record_at R x) ≡ true) → (r : ℕ) → r < N → state R r ≡ 2
    → (b : Blob) (seen : List ℕ) → blob_check e N P R r ≡ fine b seen → Every (Told e P P* R) (slots_of b)
    → (k : Blob → Outcome A) → ((why : Reason) (s : ℕ) → k b ≡ refused (at why s) → ⊥)
    → Exact e P P* R b (opened e P R (reading e N P R r k)) (opened e P* R (reading e N P* R r k))
unfolding after_check
reading_exact e p N P P* R good size sound r within root b seen found told k unnamed =
    let here : opened e P R (reading e N P R r k) ≡ k b = reading_checks e p N P R good sound r within root k ∙ ap (λ f. after_check f k) found in
    let there : opened e P* R (reading e N P* R r k) ≡ after_check (first_other e P P* R (slots_of b) (fine b seen)) k =
    reading_checks e p N P* R (other_sized e N P P* R good size) sound r within root k
    ∙ ap (λ f. after_check f k) (check_other e P P* R N r b seen found told) in
    rw (here, there) (check_exact e P P* R b seen told k unnamed)
