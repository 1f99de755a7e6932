-- Every call follows the version rule. A call changes the store only by turning the blocks of a blob that the pool check found, which are
-- live, into others, whose slots are those blocks' own, none of them worn, or usable free ones; or it leaves the store as it is.
use mathlib.Core.Path.{◌≡◌, refl, sym, subst}
use mathlib.Core.Bool.{Bool, true, false, not}
use mathlib.Core.List.{List, [], ◌∷◌, map}
use Prim.Native.Nat.{ℕ, ◌^◌, ◌≤◌, ◌<◌}
use native.Mathlib.Omega.{arith}
use borrow.Author.Tests.{ltb-true, not-false}
use lib.Dec.{ltb, eqb}
use Rattle.meaning.specs.declared.Reason.TheVariants.{BadRecord, NotARoot}
use Rattle.meaning.specs.declared.Edition.{Edition}
use Rattle.meaning.specs.declared.Refusal.{Refusal}
use Rattle.meaning.specs.Lists.{pick, range, filter, all}
use Rattle.meaning.specs.Edition.{Proper}
use Rattle.meaning.specs.Bytes.{Cell, state, recorded, record_at, sound_record, last_version, usable_slot}
use Rattle.meaning.specs.Tree.{Blob, root_of, cells_of, slots_of, held}
use Rattle.meaning.specs.Refusals.{at, nowhere}
use Rattle.meaning.specs.Walk.{Found, fault, fine}
use Rattle.meaning.specs.Change.{Store, puts, changed_by}
use Rattle.meaning.specs.Resize.{lowest}
use Rattle.meaning.specs.Calls.{Outcome, refused, done, refuse_if, after_check, slots_in, refuse_bad_record, opened, with_blob, after}
use Rattle.meaning.specs.Calls.{usable, rooted, reading, changing, refuse_worn, refuse_past, refuse_full, become}
use Rattle.meaning.specs.Calls.{length_on, length_in, read_on, read_in, show_on, show_in, audit_on, audit_in, create_on, create_in, write_on, write_in}
use Rattle.meaning.specs.Calls.{resize_on, resize_in, delete_on, delete_in}
use Rattle.meaning.specs.Calls.{length_call, read_call, show_call, audit_call, create_call, write_call, resize_call, delete_call}
use Rattle.meaning.specs.Run as run
use Rattle.meaning.specs.Run.{Call, perform}
use Rattle.meaning.specs.declared.Reason.{Reason}
use Rattle.laws.proofs.Inversions.{by_test, both_true}
use Rattle.laws.proofs.Walked.{slots_in_lem}
use Rattle.laws.proofs.Every.{Every, every_weaker}
use Rattle.laws_history.proofs.Reached.{Live, pool_reach}
use Rattle.laws_history.proofs.Stepped.{same, Next, Settled, Ready, turned_next, turned_settled}
use Rattle.laws_history.proofs.Taken.{picked, held_slot, refilled_taken, resized_taken, lowest_taken}

-- what is filtered passes the test
filtered : (p : ℕ → Bool) (xs : List ℕ) → Every (λ x. p x ≡ true) (filter p xs)
unfolding filter pick
filtered p [] = tt
filtered p (x ∷ xs) = by_test (p x) (λ t. rw t (t, filtered p xs)) (λ t. rw t (filtered p xs))

-- what holds of all holds of each
each_all : (p : ℕ → Bool) (xs : List ℕ) → all p xs ≡ true → Every (λ x. p x ≡ true) xs
unfolding all
each_all p [] h = tt
each_all p (x ∷ xs) h = let t = both_true (p x) (all p xs) h in (t.0, each_all p xs t.1)

module _ (e : Edition) (N : ℕ) (small : N ≤ 2 ^ 32) (S : Store) (is : Settled e N S) where
  abbrev P : List ℕ
  P = S.pool

  abbrev R : List ℕ
  R = S.records

  -- after this outcome the store has stepped, and is settled
  abbrev pub Steps : {A : Type 0} → Outcome A → Type 0
  Steps o = Next e N S (after e S o) × Settled e N (after e S o)

  -- a refusal leaves the store
  refused_steps : (A : Type 0) (r : Refusal) → Steps {A = A} (refused r)
  unfolding after
  refused_steps A r = ((λ x h. same refl refl), is)

  -- no change leaves the store as well
  none_steps : {A : Type 0} (a : A) → Steps (done a [])
  unfolding after changed_by puts
  none_steps a = ((λ x h. same refl refl), record { pools = is.pools; lines = is.lines; sound = is.sound; small = is.small })

  -- behind a refusal
  if_steps : {A : Type 0} (t : Bool) (n : Reason) (o : Outcome A) → (t ≡ false → Steps o) → Steps (refuse_if t n o)
  unfolding refuse_if
  if_steps true n o f = refused_steps _ (nowhere n)
  if_steps false n o f = f refl

  -- behind refusal 2
  record_steps : {A : Type 0} (ss : List ℕ) (o : Outcome A) → Steps o → Steps (refuse_bad_record R ss o)
  unfolding refuse_bad_record
  record_steps [] o g = g
  record_steps {A} (s ∷ ss) o g =
      picked (λ (o : Outcome A). Steps o) (sound_record (record_at R s)) _ _ (record_steps ss o g) (refused_steps _ (at BadRecord s))

  -- behind refusals 1 and 2
  opened_steps : {A : Type 0} (o : Outcome A) → Steps o → Steps (opened e P R o)
  unfolding opened
  opened_steps o g = if_steps _ _ _ (λ t. record_steps _ o g)

  -- after a check
  check_steps : {A B : Type 0} (f : Found A) (k : A → Outcome B) → ((a : A) (seen : List ℕ) → f ≡ fine a seen → Steps (k a)) → Steps (after_check f k)
  unfolding after_check
  check_steps (fault r) k g = refused_steps _ r
  check_steps (fine a seen) k g = g a seen refl

  -- blocks that become others
  become_steps : {A : Type 0} (a : A) (taken : ℕ) (old new : List (ℕ × Cell)) → Ready N R taken (held old) (held new)
      → Steps (done a (become e N P R taken old new))
  unfolding after become
  become_steps a taken old new ready =
      (turned_next e N S is taken (held old) (held new) ready, turned_settled e N S is taken (held old) (held new) ready)

  -- a slot of the pool that may rise once more
  Young : ℕ → Type 0
  Young x = x < N → recorded R x < last_version

  -- no slot of the pool has the number that stands for none
  past_young : Young (2 ^ 32)
  unfolding Young
  past_young h = absurd (omega arith)

  -- the usable free slots may
  usable_young : Every Young (usable e N P R)
  unfolding usable usable_slot Young
  usable_young =
      every_weaker (λ x. usable_slot R x ≡ true) Young
      (λ x t h. ltb-true (recorded R x) last_version (both_true (eqb (state R x) 0) (ltb (recorded R x) last_version) t).1)
      (usable e N P R) (filtered (usable_slot R) (range 0 N))

  -- and those of a blob that is not worn
  blob_young : (b : Blob) → not (all (λ s. ltb (recorded R s) last_version) (slots_of b)) ≡ false → Every Young (slots_of b)
  unfolding Young
  blob_young b t =
      every_weaker (λ x. ltb (recorded R x) last_version ≡ true) Young (λ x u h. ltb-true (recorded R x) last_version u)
      (slots_of b) (each_all _ (slots_of b) (not-false _ t))

  -- a blob whose slots are live, and other blocks whose slots may rise
  ready_blob : (b : Blob) (new : List (ℕ × Cell)) → Every (Live N R) (slots_of b) → Every Young (map (λ c. c.0) new)
      → Ready N R 1 (held (cells_of b)) (held new)
  unfolding Young slots_of
  ready_blob b new live young =
      record {
        young = λ x c h p. held_slot Young new x c p young h;
        lives = λ x c p. (held_slot (Live N R) (cells_of b) x c p live).1;
        live = omega arith;
        known = omega arith;
      }

  -- the blob with that root
  with_steps : {A : Type 0} (r : ℕ) (k : Blob → Outcome A) (bs : List Blob) → ((b : Blob) → Every (Live N R) (slots_of b) → Steps (k b))
      → Every (λ b. Every (Live N R) (slots_of b)) bs → Steps (with_blob r k bs)
  unfolding with_blob
  with_steps r k [] g live = refused_steps _ (nowhere NotARoot)
  with_steps {A} r k (b ∷ bs) g live =
      picked (λ (o : Outcome A). Steps o) (eqb (root_of b) r) _ _ (g b live.0) (with_steps r k bs g live.1)

  -- a call that changes the blob of a root
  changing_steps : {A : Type 0} (r : ℕ) (k : Blob → Outcome A) → ((b : Blob) → Every (Live N R) (slots_of b) → Steps (k b))
      → Steps (changing e N P R r k)
  unfolding changing rooted
  changing_steps r k g =
      if_steps _ _ _ (λ t. check_steps _ _ (λ bs seen v. with_steps r k bs g (pool_reach e N P R (Live N R) (λ x l z. l) v).blobs))

  -- a call that reads it
  reading_steps : {A : Type 0} (r : ℕ) (k : Blob → Outcome A) → ((b : Blob) → Steps (k b)) → Steps (reading e N P R r k)
  unfolding reading rooted
  reading_steps r k g = if_steps _ _ _ (λ t. check_steps _ _ (λ b seen v. g b))

  -- each call, on a pool of N slots: create
  create_steps : Steps (create_in e N P R)
  unfolding create_in create_on refuse_full
  create_steps = check_steps _ _ (λ bs seen v. if_steps _ _ _ (λ t. become_steps _ 2 [] _ ready))
    where
      cell : Cell
      cell = record { height = 0; items = [] }

      ready : Ready N R 2 (held []) (held ((lowest (usable e N P R), cell) ∷ []))
      ready = unfold held Young in record {
        young = λ x c h p.
            held_slot Young ((lowest (usable e N P R), cell) ∷ []) x c p (lowest_taken Young past_young (usable e N P R) usable_young, tt) h;
        lives = λ x c p. let z : ◌≡◌ {A = ℕ} 0 1 = cc in absurd (omega arith);
        live = omega arith;
        known = omega arith;
      }

  -- write
  write_steps : (r offset : ℕ) (d : List ℕ) → Steps (write_in e N P R r offset d)
  unfolding write_in write_on refuse_worn refuse_past slots_of
  write_steps r offset d =
      changing_steps r _ (λ b live. if_steps _ _ _ (λ t. if_steps _ _ _ (λ u.
      become_steps tt 1 (cells_of b) _ (ready_blob b _ live (refilled_taken Young _ b (blob_young b t))))))

  -- resize
  resize_steps : (r len : ℕ) → Steps (resize_in e N P R r len)
  unfolding resize_in resize_on refuse_worn refuse_full slots_of
  resize_steps r len =
      changing_steps r _ (λ b live. if_steps _ _ _ (λ t. if_steps _ _ _ (λ u.
      become_steps tt 1 (cells_of b) _ (ready_blob b _ live (resized_taken Young past_young e len (usable e N P R) b (blob_young b t) usable_young)))))

  -- delete
  delete_steps : (r : ℕ) → Steps (delete_in e N P R r)
  unfolding delete_in delete_on
  delete_steps r = changing_steps r _ (λ b live. become_steps tt 1 (cells_of b) [] (ready_blob b [] live tt))

  -- length
  length_steps : (r : ℕ) → Steps (length_in e N P R r)
  unfolding length_in length_on
  length_steps r = reading_steps r _ (λ b. none_steps _)

  -- read
  read_steps : (r offset size : ℕ) → Steps (read_in e N P R r offset size)
  unfolding read_in read_on refuse_past
  read_steps r offset size = reading_steps r _ (λ b. if_steps _ _ _ (λ t. none_steps _))

  -- show a leaf
  show_steps : (r k : ℕ) → Steps (show_in e N P R r k)
  unfolding show_in show_on
  show_steps r k = reading_steps r _ (λ b. if_steps _ _ _ (λ t. none_steps _))

  -- audit
  audit_steps : Steps (audit_in e N P R)
  unfolding audit_in audit_on
  audit_steps = check_steps _ _ (λ bs seen v. none_steps _)

-- every call: each slot follows the version rule, and the store stays settled
pub call_steps : (e : Edition) → Proper e → (N : ℕ) → N ≤ e.most → (S : Store) → Settled e N S → (c : Call)
    → Next e N S (perform e S c) × Settled e N (perform e S c)
unfolding perform create_call audit_call write_call resize_call delete_call length_call read_call show_call
call_steps e p N few S is c = on c
  where
    small : N ≤ 2 ^ 32
    small = omega (arith, p.small)

    n : slots_in e S.pool ≡ N
    n = slots_in_lem e p N S.pool is.pools

    call : {A : Type 0} (inside : ℕ → Outcome A) → Steps e N small S is (inside N)
        → Steps e N small S is (opened e S.pool S.records (inside (slots_in e S.pool)))
    call inside g = opened_steps e N small S is _ (subst (λ (k : ℕ). Steps e N small S is (inside k)) (sym n) g)

    on : (c : Call) → Next e N S (perform e S c) × Settled e N (perform e S c)
    on run.create = call (λ k. create_in e k S.pool S.records) (create_steps e N small S is)
    on run.audit = call (λ k. audit_in e k S.pool S.records) (audit_steps e N small S is)
    on (run.write r offset d) = call (λ k. write_in e k S.pool S.records r offset d) (write_steps e N small S is r offset d)
    on (run.resize r len) = call (λ k. resize_in e k S.pool S.records r len) (resize_steps e N small S is r len)
    on (run.delete r) = call (λ k. delete_in e k S.pool S.records r) (delete_steps e N small S is r)
    on (run.tell_length r) = call (λ k. length_in e k S.pool S.records r) (length_steps e N small S is r)
    on (run.read r offset size) = call (λ k. read_in e k S.pool S.records r offset size) (read_steps e N small S is r offset size)
    on (run.show_leaf r k) = call (λ n. show_in e n S.pool S.records r k) (show_steps e N small S is r k)
