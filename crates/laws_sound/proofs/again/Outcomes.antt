-- Calls that are done. A call that is done passed each of its refusals: so its store has good lengths and records that keep their layout, its
-- pool passed, and the blob that it names, if it names one, stood in the pool between others.
use mathlib.Core.Path.{◌≡◌, refl, ap, ◌∙◌, sym, subst}
use mathlib.Core.Bool.{Bool, true, false, not}
use mathlib.Core.List.{List, [], ◌∷◌, ◌++◌}
use Prim.Native.Nat.{ℕ, zero, suc, ◌+◌, ◌-◌, ◌*◌, ◌/◌, ◌%◌, ◌≤◌, ◌<◌}
use native.Mathlib.Nat.{div-add-mod}
use native.Mathlib.Omega.{arith}
use borrow.Author.Tests.{eqb-true, leb-true, ltb-true, not-false}
use lib.Dec.{eqb, leb, ltb}
use lib.ListN.{length, replicate}
use Rattle.meaning.specs.declared.Edition.{Edition}
use Rattle.meaning.specs.declared.Refusal.{Refusal}
use Rattle.meaning.specs.Lists.{pick, both, range, all}
use Rattle.meaning.specs.Edition.{Proper}
use Rattle.meaning.specs.Bytes.{record_at, state, recorded, sound_record, last_version}
use Rattle.meaning.specs.Tree.{Blob, root_of, slots_of}
use Rattle.meaning.specs.Refusals.{at}
use Rattle.meaning.specs.Walk.{Found, fault, fine, from_root, blob_check, pool_check}
use Rattle.meaning.specs.Change.{Change}
use Rattle.meaning.specs.Calls.{Outcome, refused, done, refuse_if, after_check, slots_in, sized, refuse_bad_record, opened, with_blob, rooted, changing}
use Rattle.meaning.specs.Calls.{refuse_worn}
use Rattle.meaning.specs.declared.Reason.{Reason}
use Rattle.meaning.specs.declared.Reason.TheVariants.{WrongLengths, NotARoot, WornOut}
use Rattle.laws.proofs.Inversions.{by_test, both_true}
use Rattle.laws_resize.proofs.resizing.SlotCounts.{times, times_append}
use Rattle.laws_sound.proofs.sound.TimesListed.{range_has, Each, each_none, each_more, marked, no_flag}
use Rattle.laws.proofs.Every.{every_right}
use Rattle.laws_sound.proofs.sound.Blobs.{Lies, lies_walk}
use Rattle.laws_sound.proofs.sound.Pools.{all_slots, all_append, all_cons, Pool, pool_found}
use Rattle.laws_sound.proofs.sound.Replaced.{Parted}
use Rattle.laws_sound.proofs.again.Parting.{apart_at, one_here, before_other, blob_met}

-- from an outcome that is both refused and done, anything
pub refused_done : {A B : Type 0} {r : Refusal} {a : A} {cs : List Change} → refused r ≡ done a cs → B
refused_done h = let z : ◌≡◌ {A = ℕ} 0 1 = cc in absurd (omega arith)

-- two outcomes done alike have the same value and the same changes
pub done_same : {A : Type 0} {a b : A} {x y : List Change} → done a x ≡ done b y → (a ≡ b) × (x ≡ y)
done_same h = (cc, cc)

-- behind a refusal that is not made
pub refuse_if_done : {A : Type 0} (t : Bool) (n : Reason) (o : Outcome A) {a : A} {cs : List Change} → refuse_if t n o ≡ done a cs
    → (t ≡ false) × (o ≡ done a cs)
unfolding refuse_if
refuse_if_done true n o h = refused_done h
refuse_if_done false n o h = (refl, h)

-- behind a check that went well
pub after_check_done : {A B : Type 0} (f : Found A) (k : A → Outcome B) {b : B} {cs : List Change} → after_check f k ≡ done b cs
    → (a : A) × (seen : List ℕ) × (f ≡ fine a seen) × (k a ≡ done b cs)
unfolding after_check
after_check_done (fault r) k h = refused_done h
after_check_done (fine a seen) k h = (a, seen, refl, h)

-- behind records that keep their layout
records_done : {A : Type 0} (R ss : List ℕ) (o : Outcome A) {a : A} {cs : List Change} → refuse_bad_record R ss o ≡ done a cs
    → (o ≡ done a cs) × Each (λ s. sound_record (record_at R s) ≡ true) ss
unfolding refuse_bad_record pick
records_done R [] o h = (h, each_none (λ s. sound_record (record_at R s) ≡ true))
records_done R (s ∷ ss) o h =
    by_test (sound_record (record_at R s))
    (λ t. let r = records_done R ss o (rw t at h) in (r.0, each_more (λ s. sound_record (record_at R s) ≡ true) s ss t r.1))
    (λ t. refused_done (rw t at h))

-- records that keep their layout are not refused
records_pass : {A : Type 0} (R : List ℕ) (from n : ℕ) (o : Outcome A) → ((s : ℕ) → s < from + n → sound_record (record_at R s) ≡ true)
    → refuse_bad_record R (range from n) o ≡ o
unfolding refuse_bad_record range pick
records_pass R from zero o h = refl
records_pass R from (suc n) o h = rw (h from (omega arith)) (records_pass R (suc from) n o (λ s k. h s (omega arith)))

-- the lengths of a pool of N slots and of N records
pub record Lengths (e : Edition) (P R : List ℕ) : Type 0 where
  pub whole : length P ≡ e.size * slots_in e P
  pub lines : length R ≡ 12 * slots_in e P
  pub some : 1 ≤ slots_in e P
  pub most : slots_in e P ≤ e.most

-- what refusal 1 asks
pub sized_lengths : (e : Edition) (P R : List ℕ) → sized e P R ≡ true → Lengths e P R
unfolding sized slots_in
sized_lengths e P R t =
    let a = both_true (eqb (length P % e.size) 0) _ t in
    let b = both_true (leb 1 (length P / e.size)) _ a.1 in
    let c = both_true (leb (length P / e.size) e.most) _ b.1 in
    record {
      whole = sym (omega (arith, div-add-mod (length P) e.size, eqb-true (length P % e.size) 0 a.0));
      lines = eqb-true (length R) (12 * (length P / e.size)) c.1;
      some = leb-true 1 (length P / e.size) b.0;
      most = leb-true (length P / e.size) e.most c.0;
    }

-- a store that every call but wipe opens: good lengths, and records that keep their layout
pub record Opens (e : Edition) (P R : List ℕ) : Type 0 where
  pub sized : sized e P R ≡ true
  pub sound : (s : ℕ) → s < slots_in e P → sound_record (record_at R s) ≡ true

-- a call that is done opened its store
pub opened_done : {A : Type 0} (e : Edition) (P R : List ℕ) (o : Outcome A) {a : A} {cs : List Change} → opened e P R o ≡ done a cs
    → Opens e P R × (o ≡ done a cs)
unfolding opened
opened_done e P R o h =
    let k = refuse_if_done (not (sized e P R)) WrongLengths _ h in
    let r = records_done R (range 0 (slots_in e P)) o k.1 in
    (record { sized = not-false (sized e P R) k.0; sound = λ s low. r.1 s (range_has 0 (slots_in e P) s (omega arith) (omega arith)) }, r.0)

-- a store that opens leaves the call as it is
pub opens_passes : {A : Type 0} (e : Edition) (P R : List ℕ) (o : Outcome A) → Opens e P R → opened e P R o ≡ o
unfolding opened refuse_if
opens_passes e P R o s = rw s.sized (records_pass R 0 (slots_in e P) o (λ x low. s.sound x (omega arith)))

-- a blob of a pool lies in it
pub among_lies : (e : Edition) (N : ℕ) (P R : List ℕ) (before after : List Blob) (b : Blob) → Pool e N P R (before ++ (b ∷ after)) → Lies e N P R b
among_lies e N P R before after b q = (every_right (Lies e N P R) before (b ∷ after) q.lie).0

-- and has no slot twice
pub among_once : (e : Edition) (N : ℕ) (P R : List ℕ) (before after : List Blob) (b : Blob) → Pool e N P R (before ++ (b ∷ after))
    → (s : ℕ) → times s (slots_of b) ≤ 1
among_once e N P R before after b q s =
    omega (
      arith,
      q.once s,
      ap (times s) (all_append before (b ∷ after)),
      times_append s (all_slots before) (all_slots (b ∷ after)),
      ap (times s) (all_cons b after),
      times_append s (slots_of b) (all_slots after),
    )

-- a blob of a pool, between the others
pub record Among (e : Edition) (N : ℕ) (P R : List ℕ) (r : ℕ) (bs : List Blob) : Type 0 where
  pub before : List Blob
  pub blob : Blob
  pub after : List Blob
  pub all : bs ≡ before ++ (blob ∷ after)
  pub was : Pool e N P R (before ++ (blob ∷ after))
  pub parted : Parted R r (N - suc r) before (blob ∷ []) after
  pub at : root_of blob ≡ r

-- a pool that passes has the blob of each root record
pub blob_among : (e : Edition) (N : ℕ) (P R : List ℕ) (r : ℕ) (bs : List Blob) → Pool e N P R bs → r < N → state R r ≡ 2 → Among e N P R r bs
blob_among e N P R r bs pool low root =
    let q = apart_at R N r (N - suc r) bs (omega arith) pool.heads in
    let (b, one, at) = one_here R r (N - suc r) q.before q.here q.after q.parted root in
    among q.before q.here q.after b q.all q.parted one at
  where
    among : (before here after : List Blob) (b : Blob) → bs ≡ before ++ (here ++ after) → Parted R r (N - suc r) before here after
        → here ≡ b ∷ [] → root_of b ≡ r → Among e N P R r bs
    among before here after b all parted one at =
        let all' : bs ≡ before ++ (b ∷ after) = all ∙ ap (λ (l : List Blob). before ++ (l ++ after)) one in
        record {
          before = before;
          blob = b;
          after = after;
          all = all';
          was = subst (Pool e N P R) all' pool;
          parted = subst (λ (l : List Blob). Parted R r (N - suc r) before l after) one parted;
          at = at;
        }

-- a call that names a root meets that blob
pub among_met : {A : Type 0} (e : Edition) (N : ℕ) (P R : List ℕ) (r : ℕ) (bs : List Blob) (k : Blob → Outcome A) → (m : Among e N P R r bs)
    → with_blob r k bs ≡ k m.blob
among_met e N P R r bs k m =
    ap (with_blob r k) m.all
    ∙ blob_met r k m.before m.blob m.after (before_other R r (N - suc r) m.before (m.blob ∷ []) m.after m.parted) m.at

-- the blob check finds it
pub among_walk : (e : Edition) (N : ℕ) (P R : List ℕ) (r : ℕ) (bs : List Blob) → (m : Among e N P R r bs)
    → blob_check e N P R r ≡ fine m.blob (marked (replicate N 0) (slots_of m.blob))
unfolding blob_check
among_walk e N P R r bs m =
    let once = among_once e N P R m.before m.after m.blob m.was in
    ap (from_root e N P R (replicate N 0)) (sym m.at)
    ∙ lies_walk e N P R (replicate N 0) m.blob (among_lies e N P R m.before m.after m.blob m.was)
    (λ x. omega (arith, once x, no_flag N x))

-- a changing call that is done: its blob stood in the pool between others
pub record Changing {A : Type 0} (e : Edition) (N : ℕ) (P R : List ℕ) (r : ℕ) (k : Blob → Outcome A) (a : A) (cs : List Change) : Type 0 where
  pub low : r < N
  pub root : state R r ≡ 2
  pub blobs : List Blob
  pub among : Among e N P R r blobs
  pub then : k among.blob ≡ done a cs

-- so it is
pub changing_done : {A : Type 0} (e : Edition) → Proper e → (N : ℕ) (P R : List ℕ) → length P ≡ e.size * N → (r : ℕ) (k : Blob → Outcome A)
    {a : A} {cs : List Change} → changing e N P R r k ≡ done a cs → Changing e N P R r k a cs
unfolding changing rooted
changing_done e p N P R whole r k {a} {cs} h =
    let n = refuse_if_done (not (both (ltb r N) (eqb (state R r) 2))) NotARoot _ h in
    let t = both_true (ltb r N) (eqb (state R r) 2) (not-false (both (ltb r N) (eqb (state R r) 2)) n.0) in
    let (bs, seen, o, w) = after_check_done (pool_check e N P R) _ n.1 in
    let low : r < N = ltb-true r N t.0 in
    let root : state R r ≡ 2 = eqb-true (state R r) 2 t.1 in
    let m = blob_among e N P R r bs (pool_found e p N P R whole o) low root in
    record { low = low; root = root; blobs = bs; among = m; then = sym (among_met e N P R r bs k m) ∙ w }

-- each of a blob's slots has a version left, if the call is not refused with 12
pub worn_done : {A : Type 0} (e : Edition) (N : ℕ) (P R : List ℕ) (b : Blob) (o : Outcome A) {a : A} {cs : List Change}
    → refuse_worn e N P R b o ≡ done a cs → Each (λ s. recorded R s < last_version) (slots_of b) × (o ≡ done a cs)
unfolding refuse_worn
worn_done e N P R b o h =
    let k = refuse_if_done (not (all (λ s. ltb (recorded R s) last_version) (slots_of b))) WornOut o h in
    (young (slots_of b) (not-false (all (λ s. ltb (recorded R s) last_version) (slots_of b)) k.0), k.1)
  where
    young : (l : List ℕ) → all (λ s. ltb (recorded R s) last_version) l ≡ true → Each (λ s. recorded R s < last_version) l
    young [] t = each_none (λ s. recorded R s < last_version)
    young (s ∷ l) t =
        let u = both_true (ltb (recorded R s) last_version) (all (λ s. ltb (recorded R s) last_version) l) (unfold all in t) in
        each_more (λ s. recorded R s < last_version) s l (ltb-true (recorded R s) last_version u.0) (young l u.1)
