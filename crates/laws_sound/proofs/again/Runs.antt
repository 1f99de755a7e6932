-- Runs of calls after a wipe. Every moment's store has good lengths, records that keep their layout and a pool that passes, and the blobs are
-- those of the book: each blob alive with the length last given to it. So the live slots number the sum of the block totals of the book's lengths.
use mathlib.Core.Path.{◌≡◌, refl, ap, ap₂, ◌∙◌, sym, subst}
use mathlib.Core.Bool.{true}
use mathlib.Core.List.{List, [], ◌∷◌, ◌++◌, map-append}
use Prim.Native.Nat.{ℕ, zero, suc, ◌+◌, ◌≤◌}
use native.Mathlib.Omega.{arith}
use borrow.Author.Tests.{eq-eqb, ne_eqb}
use lib.Dec.{eqb}
use lib.ListN.{length, get_or, take, replicate}
use lib.Seq.{take-length}
use Rattle.meaning.specs.declared.Edition.{Edition}
use Rattle.meaning.specs.Lists.{pick, filter}
use Rattle.meaning.specs.Edition.{Proper}
use Rattle.meaning.specs.Shape.{leaves_for, total}
use Rattle.meaning.specs.Tree.{Blob, root_of, slot_of, content, content_of, length_of}
use Rattle.meaning.specs.Walk.{fine, pool_check}
use Rattle.meaning.specs.Change.{Store, changed_by}
use Rattle.meaning.specs.Calls.{Outcome, refused, done, after_check, slots_in, sized, live, audit_call, audit_in, audit_on, after, after_wipe}
use Rattle.meaning.specs.Calls.{create_call, write_call, resize_call, delete_call, length_call, read_call, show_call}
use Rattle.meaning.specs.Answers.{Said, yields, refuses, answer_of, value_said, done_said}
use Rattle.meaning.specs.Run as run
use Rattle.meaning.specs.Run.{Call, says, perform, moments, without, noted, book_from, book_of, blocks_of}
use Rattle.laws.proofs.Inversions.{by_test}
use Rattle.laws.proofs.Parts.{pasted_length}
use Rattle.laws.proofs.Codec.{padded_length}
use Rattle.laws_sound.proofs.sound.TimesListed.{marked}
use Rattle.laws.proofs.Every.{Every}
use Rattle.laws_sound.proofs.sound.Pools.{all_slots, Pool, pool_passes, pool_one}
use Rattle.laws_sound.proofs.again.Outcomes.{opens_passes}
use Rattle.laws_sound.proofs.again.Counts.{entries, live_count, all_blocks}
use Rattle.laws_sound.proofs.again.Done.{Good, empty_blob, Made, create_done, Went, delete_done}
use Rattle.laws_sound.proofs.again.Turned.{Became, write_done, resize_done}
use Rattle.laws_sound.proofs.again.Wiped.{wipe_good}
use Rattle.laws_sound.proofs.again.Quiet.{quiet_after, length_quiet, read_quiet, show_quiet, audit_quiet}

-- the sum, over entries of a book, of a number for each root and length
unfoldable pub tally : (ℕ → ℕ → ℕ) → List (ℕ × ℕ) → ℕ
tally f [] = 0
tally f (x ∷ k) = f x.0 x.1 + tally f k

-- over two books in a row
tally_append : (f : ℕ → ℕ → ℕ) (xs ys : List (ℕ × ℕ)) → tally f (xs ++ ys) ≡ tally f xs + tally f ys
unfolding tally
tally_append f [] ys = omega arith
tally_append f (x ∷ xs) ys = omega (arith, tally_append f xs ys)

-- numbers, but 0 for root r
unfoldable but : ℕ → (ℕ → ℕ → ℕ) → ℕ → ℕ → ℕ
but r f s len = pick (eqb s r) 0 (f s len)

-- a book without root r
tally_without : (f : ℕ → ℕ → ℕ) (r : ℕ) (k : List (ℕ × ℕ)) → tally f (without r k) ≡ tally (but r f) k
unfolding tally without filter pick but
tally_without f r [] = refl
tally_without f r (x ∷ k) =
    by_test (eqb x.0 r) (λ t. rw t (omega (arith, tally_without f r k))) (λ t. rw t (omega (arith, tally_without f r k)))

-- of blobs
abbrev weigh : (ℕ → ℕ → ℕ) → List Blob → ℕ
weigh f bs = tally f (entries bs)

-- one of them
weigh_cons : (f : ℕ → ℕ → ℕ) (b : Blob) (bs : List Blob) → weigh f (b ∷ bs) ≡ f (root_of b) (length_of b) + weigh f bs
unfolding tally entries
weigh_cons f b bs = refl

-- in a row
weigh_append : (f : ℕ → ℕ → ℕ) (xs ys : List Blob) → weigh f (xs ++ ys) ≡ weigh f xs + weigh f ys
unfolding entries
weigh_append f xs ys =
    ap (tally f) (map-append (λ b. (root_of b, length_of b)) xs ys) ∙ tally_append f (entries xs) (entries ys)

-- blobs of other roots
weigh_other : (f : ℕ → ℕ → ℕ) (r : ℕ) (bs : List Blob) → Every (λ b. root_of b ≡ r → ⊥) bs → weigh (but r f) bs ≡ weigh f bs
unfolding tally entries but pick
weigh_other f r [] o = refl
weigh_other f r (b ∷ bs) o = rw (ne_eqb (root_of b) r o.0, weigh_other f r bs o.1)

-- the root's own
but_own : (f : ℕ → ℕ → ℕ) (r s len : ℕ) → s ≡ r → but r f s len ≡ 0
unfolding but pick
but_own f r s len q = rw (eq-eqb s r q)

-- one blob among others
middle : (f : ℕ → ℕ → ℕ) (xs ys : List Blob) (b : Blob) → weigh f (xs ++ (b ∷ ys)) ≡ f (root_of b) (length_of b) + (weigh f xs + weigh f ys)
middle f xs ys b = omega (arith, weigh_append f xs (b ∷ ys), weigh_cons f b ys)

-- the others
beside : (f : ℕ → ℕ → ℕ) (r : ℕ) (xs ys : List Blob) (b : Blob) → root_of b ≡ r → Every (λ c. root_of c ≡ r → ⊥) xs × Every (λ c. root_of c ≡ r → ⊥) ys
    → weigh (but r f) (xs ++ (b ∷ ys)) ≡ weigh f xs + weigh f ys
beside f r xs ys b at o =
    omega (
      arith,
      middle (but r f) xs ys b,
      but_own f r (root_of b) (length_of b) at,
      weigh_other f r xs o.0,
      weigh_other f r ys o.1,
    )

-- a store that passes every check, whose blobs are those of the book: summed over both, any number of a root and a length gives the same
pub record Booked (e : Edition) (S : Store) (book : List (ℕ × ℕ)) : Type 0 where
  pub blobs : List Blob
  pub good : Good e S blobs
  pub same : (f : ℕ → ℕ → ℕ) → tally f book ≡ tally f (entries blobs)

module _ (e : Edition) (S : Store) (book : List (ℕ × ℕ)) (k : Booked e S book) where
  -- another list of the pool's blobs is the same
  as_found : (bs : List Blob) → Pool e (slots_in e S.pool) S.pool S.records bs → (f : ℕ → ℕ → ℕ) → tally f book ≡ weigh f bs
  as_found bs q f = k.same f ∙ ap (weigh f) (pool_one e (slots_in e S.pool) S.pool S.records k.blobs bs k.good.pool q)

  -- after a create
  made_booked : (S' : Store) (s : ℕ) → Made e S S' s → Booked e S' ((s, 0) ∷ book)
  unfolding tally empty_blob root_of slot_of length_of content_of content
  made_booked S' s m = record {
    blobs = m.before ++ (empty_blob s ∷ m.after);
    good = m.good;
    same = λ f. omega (
      arith,
      as_found (m.before ++ m.after) m.was f,
      weigh_append f m.before m.after,
      middle f m.before m.after (empty_blob s),
    );
  }

  -- after a delete
  went_booked : (S' : Store) (r : ℕ) → Went e S S' r → Booked e S' (without r book)
  went_booked S' r c = record {
    blobs = c.before ++ c.after;
    good = c.good;
    same = λ f. omega (
      arith,
      tally_without f r book,
      as_found (c.before ++ (c.blob ∷ c.after)) c.was (but r f),
      beside f r c.before c.after c.blob c.at c.others,
      weigh_append f c.before c.after,
    );
  }

  -- after a call that gives a blob another length
  became_booked : (S' : Store) (r len : ℕ) (Q : (old new : Blob) → Type 0) (c : Became e S S' r Q) → length_of c.made ≡ len
      → Booked e S' ((r, len) ∷ without r book)
  unfolding tally
  became_booked S' r len Q c long = record {
    blobs = c.before ++ (c.made ∷ c.after);
    good = c.good;
    same = λ f. omega (
      arith,
      tally_without f r book,
      as_found (c.before ++ (c.blob ∷ c.after)) c.was (but r f),
      beside f r c.before c.after c.blob c.at c.others,
      middle f c.before c.after c.made,
      ap₂ f c.stays long,
    );
  }

  -- after a call that leaves every length
  same_booked : (S' : Store) (r : ℕ) (Q : (old new : Blob) → Type 0) (c : Became e S S' r Q) → length_of c.made ≡ length_of c.blob
      → Booked e S' book
  same_booked S' r Q c long = record {
    blobs = c.before ++ (c.made ∷ c.after);
    good = c.good;
    same = λ f. omega (
      arith,
      as_found (c.before ++ (c.blob ∷ c.after)) c.was f,
      middle f c.before c.after c.blob,
      middle f c.before c.after c.made,
      ap₂ f (c.stays ∙ sym c.at) long,
    );
  }

  -- after a call that changes nothing
  quiet_booked : (S' : Store) → S' ≡ S → Booked e S' book
  quiet_booked S' q = subst (λ (T : Store). Booked e T book) (sym q) k

  module _ (p : Proper e) where
    -- create, by its outcome
    create_booked : (o : Outcome ℕ) → create_call e S.pool S.records ≡ o
        → Booked e (after e S o) (noted run.create (value_said (answer_of o)) book)
    unfolding after answer_of value_said noted
    create_booked (refused r) h = k
    create_booked (done s cs) h = made_booked (changed_by e cs S) s (create_done e p S h)

    -- write
    write_booked : (r offset : ℕ) (d : List ℕ) (o : Outcome (Unit {0})) → write_call e S.pool S.records r offset d ≡ o
        → Booked e (after e S o) (noted (run.write r offset d) (done_said (answer_of o)) book)
    unfolding after answer_of done_said noted length_of
    write_booked r offset d (refused q) h = k
    write_booked r offset d (done v cs) h =
        let c = write_done e p S r offset d h in
        same_booked (changed_by e cs S) r _ c (ap length c.bytes.1 ∙ pasted_length offset d (content_of c.blob) c.bytes.0)

    -- resize
    resize_booked : (r len : ℕ) (o : Outcome (Unit {0})) → resize_call e S.pool S.records r len ≡ o
        → Booked e (after e S o) (noted (run.resize r len) (done_said (answer_of o)) book)
    unfolding after answer_of done_said noted length_of
    resize_booked r len (refused q) h = k
    resize_booked r len (done v cs) h =
        let c = resize_done e p S r len h in
        became_booked (changed_by e cs S) r len _ c (ap length c.bytes.0 ∙ padded_length len (content_of c.blob))

    -- delete
    delete_booked : (r : ℕ) (o : Outcome (Unit {0})) → delete_call e S.pool S.records r ≡ o
        → Booked e (after e S o) (noted (run.delete r) (done_said (answer_of o)) book)
    unfolding after answer_of done_said noted
    delete_booked r (refused q) h = k
    delete_booked r (done v cs) h = went_booked (changed_by e cs S) r (delete_done e p S r h)

-- a call that only reads notes nothing, whatever it says: audit
audit_noted : (said : Said) (book : List (ℕ × ℕ)) → noted run.audit said book ≡ book
unfolding noted
audit_noted (refuses r) book = refl
audit_noted (yields vs) book = refl

-- length
length_noted : (r : ℕ) (said : Said) (book : List (ℕ × ℕ)) → noted (run.tell_length r) said book ≡ book
unfolding noted
length_noted r (refuses q) book = refl
length_noted r (yields vs) book = refl

-- read
read_noted : (r offset size : ℕ) (said : Said) (book : List (ℕ × ℕ)) → noted (run.read r offset size) said book ≡ book
unfolding noted
read_noted r offset size (refuses q) book = refl
read_noted r offset size (yields vs) book = refl

-- show
show_noted : (r k : ℕ) (said : Said) (book : List (ℕ × ℕ)) → noted (run.show_leaf r k) said book ≡ book
unfolding noted
show_noted r k (refuses q) book = refl
show_noted r k (yields vs) book = refl

-- after any call, refused or done, the store passes every check and its blobs are those of the book
pub call_booked : (e : Edition) → Proper e → (S : Store) (book : List (ℕ × ℕ)) → Booked e S book → (c : Call)
    → Booked e (perform e S c) (noted c (says e S c) book)
unfolding perform says
call_booked e p S book k run.create = create_booked e S book k p (create_call e S.pool S.records) refl
call_booked e p S book k (run.write r offset d) = write_booked e S book k p r offset d (write_call e S.pool S.records r offset d) refl
call_booked e p S book k (run.resize r len) = resize_booked e S book k p r len (resize_call e S.pool S.records r len) refl
call_booked e p S book k (run.delete r) = delete_booked e S book k p r (delete_call e S.pool S.records r) refl
call_booked e p S book k run.audit =
    rw audit_noted (quiet_booked e S book k _ (quiet_after e S (audit_call e S.pool S.records) (audit_quiet e S.pool S.records)))
call_booked e p S book k (run.tell_length r) =
    rw length_noted (quiet_booked e S book k _ (quiet_after e S (length_call e S.pool S.records r) (length_quiet e S.pool S.records r)))
call_booked e p S book k (run.read r offset size) =
    rw read_noted (quiet_booked e S book k _
    (quiet_after e S (read_call e S.pool S.records r offset size) (read_quiet e S.pool S.records r offset size)))
call_booked e p S book k (run.show_leaf r i) =
    rw show_noted (quiet_booked e S book k _ (quiet_after e S (show_call e S.pool S.records r i) (show_quiet e S.pool S.records r i)))

-- so it is at every moment of calls that start from such a store: the book after i calls is that of the moment after i calls
moment_booked : (e : Edition) → Proper e → (S : Store) (book : List (ℕ × ℕ)) → Booked e S book → (calls : List Call) (i : ℕ) (T : Store)
    → i ≤ length calls → Booked e (get_or (moments e S calls) i T) (book_from e S book (take i calls))
unfolding moments book_from
moment_booked e p S book k [] zero T h = k
moment_booked e p S book k [] (suc i) T h = absurd (omega arith)
moment_booked e p S book k (c ∷ calls) zero T h = k
moment_booked e p S book k (c ∷ calls) (suc i) T h =
    moment_booked e p (perform e S c) (noted c (says e S c) book) (call_booked e p S book k c) calls i T (omega arith)

-- after a wipe the book is empty, and no blob is there
wipe_booked : (e : Edition) → Proper e → (S : Store) → sized e S.pool S.records ≡ true → Booked e (after_wipe e S) []
unfolding entries
wipe_booked e p S h = record { blobs = []; good = wipe_good e p S h; same = λ f. refl }

-- and so at every moment of a run from a wipe
pub run_booked : (e : Edition) → Proper e → (S : Store) → sized e S.pool S.records ≡ true → (calls : List Call) (i : ℕ) (T : Store)
    → i ≤ length calls → Booked e (get_or (run.run e S calls) i T) (book_of e S (take i calls))
unfolding run.run book_of
run_booked e p S h calls i T = moment_booked e p (after_wipe e S) [] (wipe_booked e p S h) calls i T

-- each moment's store passes every check
moments_good : (e : Edition) → Proper e → (S : Store) (book : List (ℕ × ℕ)) → Booked e S book → (calls : List Call)
    → Every (λ M. (bs : List Blob) × Good e M bs) (moments e S calls)
unfolding moments
moments_good e p S book k [] = ((k.blobs, k.good), tt)
moments_good e p S book k (c ∷ calls) =
    ((k.blobs, k.good), moments_good e p (perform e S c) (noted c (says e S c) book) (call_booked e p S book k c) calls)

-- so does each moment's of a run from a wipe
pub run_good : (e : Edition) → Proper e → (S : Store) → sized e S.pool S.records ≡ true → (calls : List Call)
    → Every (λ M. (bs : List Blob) × Good e M bs) (run.run e S calls)
unfolding run.run
run_good e p S h calls = moments_good e p (after_wipe e S) [] (wipe_booked e p S h) calls

-- a store that passes every check passes the pool check
pub good_passes : (e : Edition) (S : Store) (bs : List Blob) → Good e S bs
    → pool_check e (slots_in e S.pool) S.pool S.records ≡ fine bs (marked (replicate (slots_in e S.pool) 0) (all_slots bs))
good_passes e S bs g = pool_passes e (slots_in e S.pool) S.pool S.records bs g.pool

-- its audit is done, and counts the live slots
pub good_audit : (e : Edition) (S : Store) (bs : List Blob) → Good e S bs
    → audit_call e S.pool S.records ≡ done (length (live e (slots_in e S.pool) S.pool S.records)) []
unfolding audit_call audit_in audit_on after_check
good_audit e S bs g =
    opens_passes e S.pool S.records _ g.opens
    ∙ ap (λ f. after_check f (audit_on e (slots_in e S.pool) S.pool S.records)) (good_passes e S bs g)

-- a book's sum of block totals
blocks_tally : (e : Edition) (book : List (ℕ × ℕ)) → blocks_of e book ≡ tally (λ r len. total e.fan (leaves_for e.leaf len)) book
unfolding blocks_of tally
blocks_tally e [] = refl
blocks_tally e (x ∷ book) = ap (λ (n : ℕ). total e.fan (leaves_for e.leaf x.1) + n) (blocks_tally e book)

-- the live slots number the sum, over the book, of the block total for each length
pub booked_live : (e : Edition) → Proper e → (S : Store) (book : List (ℕ × ℕ)) → Booked e S book
    → length (live e (slots_in e S.pool) S.pool S.records) ≡ blocks_of e book
booked_live e p S book k =
    let N : ℕ = slots_in e S.pool in
    live_count e N S.pool S.records k.blobs k.good.pool k.good.opens.sound
    ∙ all_blocks e p N S.pool S.records k.blobs k.good.pool.lie
    ∙ blocks_tally e (entries k.blobs) ∙ sym (k.same (λ r len. total e.fan (leaves_for e.leaf len))) ∙ sym (blocks_tally e book)

-- Document 01: after any run of calls from a wipe the live slots number the sum, over blobs alive, of the block total for the length last given
-- to each by a call that was not refused. So it is at every moment M: after the first i calls, for every i.
module _ (e : Edition) (p : Proper e) (S : Store) (h : sized e S.pool S.records ≡ true) (calls : List Call) (i : ℕ) (low : i ≤ length calls)
    (M T : Store) (at : M ≡ get_or (run.run e S calls) i T) where
  -- the live slots of that moment
  pub run_live : length (live e (slots_in e M.pool) M.pool M.records) ≡ blocks_of e (book_of e S (take i calls))
  run_live = rw at (booked_live e p _ _ (run_booked e p S h calls i T low))

  -- and the audit of that moment answers this sum
  pub run_audit : audit_call e M.pool M.records ≡ done (blocks_of e (book_of e S (take i calls))) []
  run_audit =
      let k = run_booked e p S h calls i T low in
      good_audit e M k.blobs (rw at k.good) ∙ ap (λ (n : ℕ). done n []) run_live

-- so after all of them
pub run_end : (e : Edition) → Proper e → (S : Store) → sized e S.pool S.records ≡ true → (calls : List Call) (M T : Store)
    → M ≡ get_or (run.run e S calls) (length calls) T → audit_call e M.pool M.records ≡ done (blocks_of e (book_of e S calls)) []
run_end e p S h calls M T at =
    run_audit e p S h calls (length calls) (omega arith) M T at
    ∙ ap (λ (l : List Call). done (blocks_of e (book_of e S l)) []) (take-length calls)
