-- Demand one: what each call is refused with, exactly. A call is a chain: refusals 1 and 2, refusal 3 where it names a root, its walk, and then what
-- it does with the blob that the walk found.
use mathlib.Core.Path.{◌≡◌, refl, sym, ap, subst, ◌∙◌}
use mathlib.Core.Logic.{◌⊎◌, inl, inr, ⊎_elim}
use mathlib.Core.Bool.{true, false}
use mathlib.Core.List.{List, [], ◌∷◌}
use Prim.Native.Nat.{ℕ, ◌+◌, ◌<◌}
use native.Mathlib.Omega.{arith}
use borrow.Author.Tests.{ltb-true, leb-true}
use lib.Dec.{leb, ltb}
use lib.ListN.{length}
use Rattle.meaning.specs.declared.Reason.TheVariants.{BadRecord, NotARoot, WrongLengths, NoRoom, OutOfRange}
use Rattle.meaning.specs.declared.Edition.{Edition}
use Rattle.meaning.specs.declared.Refusal.{Refusal}
use Rattle.meaning.specs.Edition.{Proper}
use Rattle.meaning.specs.Bytes.{record_at, sound_record}
use Rattle.meaning.specs.Tree.{Blob, leaves_of, length_of}
use Rattle.meaning.specs.Refusals.{at, nowhere}
use Rattle.meaning.specs.Walk.{Found, fault, fine, and_then}
use Rattle.meaning.specs.Change.{Store}
use Rattle.meaning.specs.Calls.{Outcome, refused, after_check, sized, opened, with_blob, rooted, reading, changing}
use Rattle.meaning.specs.Calls.{refuse_past, refuse_full}
use Rattle.meaning.specs.Calls.{length_on, length_in, read_on, read_in, show_on, show_in, audit_on, audit_in, create_on, create_in, write_on, write_in, resize_on, resize_in}
use Rattle.meaning.specs.Calls.{delete_on, delete_in, length_call, read_call, show_call, audit_call, create_call, write_call, resize_call, delete_call}
use Rattle.meaning.specs.Answers.{refuses}
use Rattle.meaning.specs.Run.{Call, create, audit, write, resize, delete, tell_length, read, show_leaf, says}
use Rattle.laws.proofs.Inversions.{fine_same, fine_and_then}
use Rattle.laws_sound.proofs.sound.Pools.{pool_found}
use Rattle.laws_sound.proofs.again.Outcomes.{refused_done, sized_lengths, blob_among, among_met, among_walk}
use Rattle.promises.proofs.Said.{said_by, one_number, no_number, all_bytes, leaf_shown, said_refused, refused_said}
use Rattle.promises.proofs.Said.{says_create, says_audit, says_write, says_resize, says_delete, says_length, says_read, says_show}
use Rattle.promises.proofs.Faults.{by_then}
use Rattle.promises.proofs.Refused.{by_if, by_check, check_refused, check_passed}
use Rattle.promises.proofs.Refused.{by_opened, lengths_refused, layout_refused, opened_passed, by_rooted, root_refused, root_passed}
use Rattle.promises.proofs.Refused.{by_worn}
use Rattle.promises.specs.Demands.{slots_at, blob_at, pool_at, free_at, new_at, named, walked, IsRoot, Opened, Met}
use Rattle.promises.specs.Demands.{Table, refusal_1, refusal_2, refusal_3, refusals_4_to_9, refusal_12_write, refusal_12_resize, refusal_10_write, refusal_10_read, refusal_10_show}
use Rattle.promises.specs.Demands.{refusal_11_resize, refusal_11_create}

-- a root is one
one_root : {r s : ℕ} → ◌≡◌ {A = List ℕ} (r ∷ []) (s ∷ []) → r ≡ s
one_root h = cc

-- and not none
no_root : {B : Type 0} {r : ℕ} → ◌≡◌ {A = List ℕ} [] (r ∷ []) → B
no_root h = let z : ◌≡◌ {A = ℕ} 0 1 = cc in absurd (omega arith)

-- a call as a chain
pub record Chain (e : Edition) (S : Store) (c : Call) : Type 1 where
  pub Value : Type 0
  pub values : Value → List ℕ
  -- behind refusals 1 and 2, and behind refusal 3
  pub inside : Outcome Value
  pub behind : Outcome Value
  pub is : says e S c ≡ said_by values (opened e S.pool S.records inside)
  pub roots : ((named c ≡ []) × (inside ≡ behind)) ⊎ ((r : ℕ) × (named c ≡ r ∷ []) × (inside ≡ rooted e (slots_at e S) S.pool S.records r behind))
  pub faults : (q : Refusal) → walked e S c ≡ fault q → behind ≡ refused q
  pub rest : (q : Refusal) → Opened e S → ((r : ℕ) → named c ≡ r ∷ [] → IsRoot e S r) → behind ≡ refused q → Table e S c q

-- read from left to right: why it is refused
module _ (e : Edition) (S : Store) (c : Call) (x : Chain e S c) where
  -- behind refusals 1 and 2
  behind_table : (q : Refusal) → Opened e S → x.inside ≡ refused q → Table e S c q
  behind_table q o h =
      ⊎_elim
      (λ (none, same). x.rest q o (λ r is. no_root (sym none ∙ is)) (sym same ∙ h))
      (λ (r, one, same). by_rooted e S x.behind r (Table e S c q) (sym same ∙ h)
      (λ bad q≡. refusal_3 r o one bad q≡)
      (λ is w. x.rest q o (λ s k. subst (IsRoot e S) (one_root (sym one ∙ k)) is) w))
      x.roots

  -- from the start
  pub chain_table : (q : Refusal) → says e S c ≡ refuses q → Table e S c q
  chain_table q h =
      by_opened e S x.inside (Table e S c q) (said_refused x.values _ q (sym x.is ∙ h)) refusal_1 refusal_2 (behind_table q)

  -- and back, for the refusals that all calls share
  refused_by : (q : Refusal) → opened e S.pool S.records x.inside ≡ refused q → says e S c ≡ refuses q
  refused_by q h = x.is ∙ refused_said x.values _ q h

  -- refusal 1
  pub chain_1 : (q : Refusal) → sized e S.pool S.records ≡ false → q ≡ nowhere WrongLengths → says e S c ≡ refuses q
  chain_1 q h k = refused_by q (lengths_refused e S x.inside h ∙ ap refused (sym k))

  -- refusal 2
  pub chain_2 : (q : Refusal) (s : ℕ) → sized e S.pool S.records ≡ true → s < slots_at e S → sound_record (record_at S.records s) ≡ false
      → ((t : ℕ) → t < s → sound_record (record_at S.records t) ≡ true) → q ≡ at BadRecord s → says e S c ≡ refuses q
  chain_2 q s h low bad f k = refused_by q (layout_refused e S x.inside s h low bad f ∙ ap refused (sym k))

  -- refusal 3
  pub chain_3 : (q : Refusal) (r : ℕ) → Opened e S → named c ≡ r ∷ [] → (IsRoot e S r → ⊥) → q ≡ nowhere NotARoot → says e S c ≡ refuses q
  chain_3 q r o one bad k =
      let third : x.inside ≡ refused (nowhere NotARoot) =
      ⊎_elim
      (λ (none, same). no_root (sym none ∙ one))
      (λ (s, is, same). same ∙ root_refused e S x.behind s (λ root. bad (subst (IsRoot e S) (one_root (sym is ∙ one)) root)))
      x.roots in
      refused_by q (opened_passed e S x.inside o ∙ third ∙ ap refused (sym k))

  -- refusals 4 to 9
  pub chain_walk : (q : Refusal) → Opened e S → ((r : ℕ) → named c ≡ r ∷ [] → IsRoot e S r) → walked e S c ≡ fault q → says e S c ≡ refuses q
  chain_walk q o roots f =
      let passed : x.inside ≡ x.behind =
      ⊎_elim (λ (none, same). same) (λ (s, is, same). same ∙ root_passed e S x.behind s (roots s is)) x.roots in
      refused_by q (opened_passed e S x.inside o ∙ passed ∙ x.faults q f)

-- a fault of a walk from one root
pub one_fault : (f : Found Blob) (q : Refusal) → and_then f (λ b seen. fine (b ∷ []) seen) ≡ fault q → f ≡ fault q
one_fault f q h = by_then f _ (f ≡ fault q) h (λ x. x) (λ b seen o z. let n : ◌≡◌ {A = ℕ} 0 1 = cc in absurd (omega arith))

-- and back
fault_one : (f : Found Blob) (q : Refusal) → f ≡ fault q → and_then f (λ b seen. fine (b ∷ []) seen) ≡ fault q
unfolding and_then
fault_one f q h = rw h

module _ (e : Edition) (p : Proper e) (S : Store) where
  abbrev N : ℕ
  N = slots_at e S

  abbrev P : List ℕ
  P = S.pool

  abbrev R : List ℕ
  R = S.records

  -- a call that reads the blob of root r
  reading_rest : {A : Type 0} (c : Call) (r : ℕ) (k : Blob → Outcome A) → named c ≡ r ∷ []
      → walked e S c ≡ and_then (blob_at e S r) (λ b seen. fine (b ∷ []) seen)
      → (q : Refusal) → ((b : Blob) → Met e S c r b → k b ≡ refused q → Table e S c q)
      → Opened e S → ((s : ℕ) → named c ≡ s ∷ [] → IsRoot e S s) → after_check (blob_at e S r) k ≡ refused q → Table e S c q
  reading_rest c r k one walk q then o roots h =
      by_check (blob_at e S r) k (Table e S c q) h
      (λ f. refusals_4_to_9 o roots (walk ∙ fault_one (blob_at e S r) q f))
      (λ b seen f. then b
      (record { finds = (o, roots r one, (seen, f)); passes = (b ∷ [], seen, walk ∙ fine_and_then (blob_at e S r) _ b seen f) }))

  -- one that changes it
  changing_rest : {A : Type 0} (c : Call) (r : ℕ) (k : Blob → Outcome A) → named c ≡ r ∷ [] → walked e S c ≡ pool_at e S
      → (q : Refusal) → ((b : Blob) → Met e S c r b → k b ≡ refused q → Table e S c q)
      → Opened e S → ((s : ℕ) → named c ≡ s ∷ [] → IsRoot e S s) → after_check (pool_at e S) (with_blob r k) ≡ refused q → Table e S c q
  changing_rest c r k one walk q then o roots h =
      by_check (pool_at e S) (with_blob r k) (Table e S c q) h
      (λ f. refusals_4_to_9 o roots (walk ∙ f))
      (λ bs seen f w.
      let is = roots r one in
      let m = blob_among e N P R r bs (pool_found e p N P R (sized_lengths e P R o.lengths).whole f) is.0 is.1 in
      then m.blob (record { finds = (o, is, (_, among_walk e N P R r bs m)); passes = (bs, seen, walk ∙ f) })
      (sym (among_met e N P R r bs k m) ∙ w))

  -- and back: behind all that, it is what it does with the blob
  pub changing_met : {A : Type 0} (c : Call) (r : ℕ) (b : Blob) (k : Blob → Outcome A) → walked e S c ≡ pool_at e S → Met e S c r b
      → opened e P R (changing e N P R r k) ≡ k b
  unfolding changing
  changing_met c r b k walk m =
      let (o, root, (mark, found)) = m.finds in
      let (bs, seen, f) = m.passes in
      let g : pool_at e S ≡ fine bs seen = sym walk ∙ f in
      let a = blob_among e N P R r bs (pool_found e p N P R (sized_lengths e P R o.lengths).whole g) root.0 root.1 in
      let same : a.blob ≡ b = (fine_same (sym (among_walk e N P R r bs a) ∙ found)).0 in
      opened_passed e S _ o ∙ root_passed e S _ r root ∙ check_passed (pool_at e S) (with_blob r k) bs seen g
      ∙ among_met e N P R r bs k a ∙ ap k same

  -- each call's chain
  pub chain : (c : Call) → Chain e S c
  chain create = record {
    Value = ℕ;
    values = one_number;
    inside = create_in e N P R;
    behind = create_in e N P R;
    is = unfold create_call in says_create e S;
    roots = inl (unfold named in refl, refl);
    faults = λ q f. unfold walked create_in in check_refused (pool_at e S) (create_on e N P R) q f;
    rest = λ q o roots h. unfold create_in create_on refuse_full walked in
        by_check (pool_at e S) (create_on e N P R) (Table e S create q) h
        (λ f. refusals_4_to_9 o roots f)
        (λ bs seen f w. by_if (ltb (length (free_at e S)) 1) NoRoom _ (Table e S create q) w
        (λ t k. refusal_11_create bs seen refl o f (ltb-true (length (free_at e S)) 1 t) k) (λ t z. refused_done (sym z)));
  }
  chain audit = record {
    Value = ℕ;
    values = one_number;
    inside = audit_in e N P R;
    behind = audit_in e N P R;
    is = unfold audit_call in says_audit e S;
    roots = inl (unfold named in refl, refl);
    faults = λ q f. unfold walked audit_in in check_refused (pool_at e S) (audit_on e N P R) q f;
    rest = λ q o roots h. unfold audit_in audit_on walked in
        by_check (pool_at e S) (audit_on e N P R) (Table e S audit q) h (λ f. refusals_4_to_9 o roots f) (λ bs seen f w. refused_done (sym w));
  }
  chain (delete r) = record {
    Value = Unit {0};
    values = no_number;
    inside = delete_in e N P R r;
    behind = after_check (pool_at e S) (with_blob r (delete_on e N P R));
    is = unfold delete_call in says_delete e S r;
    roots = inr (r, unfold named in refl, unfold delete_in changing in refl);
    faults = λ q f. unfold walked in check_refused (pool_at e S) _ q f;
    rest = λ q o roots h. changing_rest (delete r) r (delete_on e N P R) (unfold named in refl) (unfold walked in refl) q
        (λ b m w. unfold delete_on in refused_done (sym w)) o roots h;
  }
  chain (write r offset d) = record {
    Value = Unit {0};
    values = no_number;
    inside = write_in e N P R r offset d;
    behind = after_check (pool_at e S) (with_blob r (write_on e N P R offset d));
    is = unfold write_call in says_write e S r offset d;
    roots = inr (r, unfold named in refl, unfold write_in changing in refl);
    faults = λ q f. unfold walked in check_refused (pool_at e S) _ q f;
    rest = λ q o roots h. changing_rest (write r offset d) r (write_on e N P R offset d) (unfold named in refl) (unfold walked in refl) q
        (λ b m w. unfold write_on refuse_past in
        by_worn e S _ b (Table e S (write r offset d) q) w
        (λ worn k. refusal_12_write r offset d b refl m worn k)
        (λ young w. by_if (ltb (length_of b) (offset + length d)) OutOfRange _ (Table e S (write r offset d) q) w
        (λ t k. refusal_10_write r offset d b refl m young (ltb-true (length_of b) (offset + length d) t) k) (λ t z. refused_done (sym z)))) o roots h;
  }
  chain (resize r len) = record {
    Value = Unit {0};
    values = no_number;
    inside = resize_in e N P R r len;
    behind = after_check (pool_at e S) (with_blob r (resize_on e N P R len));
    is = unfold resize_call in says_resize e S r len;
    roots = inr (r, unfold named in refl, unfold resize_in changing in refl);
    faults = λ q f. unfold walked in check_refused (pool_at e S) _ q f;
    rest = λ q o roots h. changing_rest (resize r len) r (resize_on e N P R len) (unfold named in refl) (unfold walked in refl) q
        (λ b m w. unfold resize_on refuse_full in
        by_worn e S _ b (Table e S (resize r len) q) w
        (λ worn k. refusal_12_resize r len b refl m worn k)
        (λ young w. by_if (ltb (length (free_at e S)) (new_at e S len b)) NoRoom _ (Table e S (resize r len) q) w
        (λ t k. refusal_11_resize r len b refl m young (ltb-true (length (free_at e S)) (new_at e S len b) t) k) (λ t z. refused_done (sym z)))) o roots h;
  }
  chain (tell_length r) = record {
    Value = ℕ;
    values = one_number;
    inside = length_in e N P R r;
    behind = after_check (blob_at e S r) (length_on e N P R);
    is = unfold length_call in says_length e S r;
    roots = inr (r, unfold named in refl, unfold length_in reading in refl);
    faults = λ q f. unfold walked in check_refused (blob_at e S r) _ q (one_fault (blob_at e S r) q f);
    rest = λ q o roots h. reading_rest (tell_length r) r (length_on e N P R) (unfold named in refl) (unfold walked in refl) q
        (λ b m w. unfold length_on in refused_done (sym w)) o roots h;
  }
  chain (read r offset size) = record {
    Value = List ℕ;
    values = all_bytes;
    inside = read_in e N P R r offset size;
    behind = after_check (blob_at e S r) (read_on e N P R offset size);
    is = unfold read_call in says_read e S r offset size;
    roots = inr (r, unfold named in refl, unfold read_in reading in refl);
    faults = λ q f. unfold walked in check_refused (blob_at e S r) _ q (one_fault (blob_at e S r) q f);
    rest = λ q o roots h. reading_rest (read r offset size) r (read_on e N P R offset size) (unfold named in refl) (unfold walked in refl) q
        (λ b m w. unfold read_on refuse_past in
        by_if (ltb (length_of b) (offset + size)) OutOfRange _ (Table e S (read r offset size) q) w
        (λ t k. refusal_10_read r offset size b refl m (ltb-true (length_of b) (offset + size) t) k) (λ t z. refused_done (sym z))) o roots h;
  }
  chain (show_leaf r i) = record {
    Value = ℕ × ℕ;
    values = leaf_shown e P;
    inside = show_in e N P R r i;
    behind = after_check (blob_at e S r) (show_on e N P R i);
    is = unfold show_call in says_show e S r i;
    roots = inr (r, unfold named in refl, unfold show_in reading in refl);
    faults = λ q f. unfold walked in check_refused (blob_at e S r) _ q (one_fault (blob_at e S r) q f);
    rest = λ q o roots h. reading_rest (show_leaf r i) r (show_on e N P R i) (unfold named in refl) (unfold walked in refl) q
        (λ b m w. unfold show_on in
        by_if (leb (length (leaves_of b)) i) OutOfRange _ (Table e S (show_leaf r i) q) w
        (λ t k. refusal_10_show r i b refl m (leb-true (length (leaves_of b)) i t) k) (λ t z. refused_done (sym z))) o roots h;
  }
