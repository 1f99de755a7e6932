-- What each call does: its answer and its changes. The order of the words is the order of the refusals.
use Rattle.std.specs.Prelude.{Bool, true, false, not, List, [], ◌∷◌, ◌++◌, ℕ, zero, suc, ◌+◌, ◌-◌, ◌*◌, ◌/◌, ◌%◌, leb, ltb, eqb, length, get_or, replicate}
use Rattle.meaning.specs.Lists.{pick, both, part, pasted, range, filter, all}
use Rattle.meaning.specs.Bytes.{Cell, record_at, record_of, state, recorded, sound_record, last_version, usable_slot}
use Rattle.meaning.specs.Tree.{Blob, root_of, content_of, leaves_of, cells_of, slots_of, length_of, held}
use Rattle.meaning.specs.Shape.{leaves_for, total}
use Rattle.meaning.specs.Refusals.{at, nowhere}
use Rattle.meaning.specs.Walk.{Found, fault, fine, blob_check, pool_check}
use Rattle.meaning.specs.Change.{Change, Store, changes, changed_by}
use Rattle.meaning.specs.Resize.{lowest, refilled, resized}
use Rattle.meaning.specs.declared.Edition.{Edition}
use Rattle.meaning.specs.declared.Reason.{Reason}
use Rattle.meaning.specs.declared.Reason.TheVariants.{WrongLengths, BadRecord, NotARoot, OutOfRange, NoRoom, WornOut}
use Rattle.meaning.specs.declared.Refusal.{Refusal}

-- a call is refused, with no change; or done, with its value and its changes
pub data Outcome (A : Type 0) : Type 0 where
  refused : Refusal → Outcome A
  done : A → List Change → Outcome A

unfoldable pub refuse_if : {A : Type 0} → Bool → Reason → Outcome A → Outcome A
refuse_if true why o = refused (nowhere why)
refuse_if false why o = o

unfoldable pub after_check : {A B : Type 0} → Found A → (A → Outcome B) → Outcome B
after_check (fault r) k = refused r
after_check (fine a seen) k = k a

-- refusal 1: the pool is N slots long, N from 1 to most, and the records are N records long
unfoldable pub slots_in : Edition → List ℕ → ℕ
slots_in e P = length P / e.size

unfoldable pub sized : Edition → (P R : List ℕ) → Bool
sized e P R =
    both (eqb (length P % e.size) 0)
    (both (leb 1 (slots_in e P)) (both (leb (slots_in e P) e.most) (eqb (length R) (12 * slots_in e P))))

-- refusal 2: the lowest record that breaks its layout
unfoldable pub refuse_bad_record : {A : Type 0} → List ℕ → List ℕ → Outcome A → Outcome A
refuse_bad_record R [] o = o
refuse_bad_record R (s ∷ ss) o = pick (sound_record (record_at R s)) (refuse_bad_record R ss o) (refused (at BadRecord s))

-- refusals 1 and 2, which every call but wipe makes first
unfoldable pub opened : {A : Type 0} → Edition → (P R : List ℕ) → Outcome A → Outcome A
opened e P R o = refuse_if (not (sized e P R)) WrongLengths (refuse_bad_record R (range 0 (slots_in e P)) o)

-- the blob with that root; of none, refusal 3, which a root's record rules out
unfoldable pub with_blob : {A : Type 0} → (r : ℕ) → (Blob → Outcome A) → List Blob → Outcome A
with_blob r k [] = refused (nowhere NotARoot)
with_blob r k (b ∷ bs) = pick (eqb (root_of b) r) (k b) (with_blob r k bs)

-- a pool of N slots, behind refusals 1 and 2
module _ (e : Edition) (N : ℕ) (P R : List ℕ) where
  -- the free slots that may still be taken, and the live slots, rising
  unfoldable pub usable : List ℕ
  usable = filter (usable_slot R) (range 0 N)

  unfoldable pub live : List ℕ
  live = filter (λ s. not (eqb (state R s) 0)) (range 0 N)

  -- refusal 3; then the blob check, or the pool check
  unfoldable pub rooted : {A : Type 0} → (r : ℕ) → Outcome A → Outcome A
  rooted r o = refuse_if (not (both (ltb r N) (eqb (state R r) 2))) NotARoot o

  unfoldable pub reading : {A : Type 0} → (r : ℕ) → (Blob → Outcome A) → Outcome A
  reading r k = rooted r (after_check (blob_check e N P R r) k)

  unfoldable pub changing : {A : Type 0} → (r : ℕ) → (Blob → Outcome A) → Outcome A
  changing r k = rooted r (after_check (pool_check e N P R) (with_blob r k))

  -- refusals 12, 10 and 11
  unfoldable pub refuse_worn : {A : Type 0} → Blob → Outcome A → Outcome A
  refuse_worn b o = refuse_if (not (all (λ s. ltb (recorded R s) last_version) (slots_of b))) WornOut o

  unfoldable pub refuse_past : {A : Type 0} → Blob → (offset size : ℕ) → Outcome A → Outcome A
  refuse_past b offset size o = refuse_if (ltb (length_of b) (offset + size)) OutOfRange o

  unfoldable pub refuse_full : {A : Type 0} → (need : ℕ) → Outcome A → Outcome A
  refuse_full need o = refuse_if (ltb (length usable) need) NoRoom o

  -- these blocks become those; taken is the state that a newly taken slot gets
  unfoldable pub become : (taken : ℕ) → (old new : List (ℕ × Cell)) → List Change
  become taken old new = changes e R taken (held old) (held new) (range 0 N)

  -- length
  unfoldable pub length_on : Blob → Outcome ℕ
  length_on b = done (length_of b) []

  unfoldable pub length_in : (r : ℕ) → Outcome ℕ
  length_in r = reading r length_on

  -- read: size bytes from the offset
  unfoldable pub read_on : (offset size : ℕ) → Blob → Outcome (List ℕ)
  read_on offset size b = refuse_past b offset size (done (part offset size (content_of b)) [])

  unfoldable pub read_in : (r offset size : ℕ) → Outcome (List ℕ)
  read_in r offset size = reading r (read_on offset size)

  -- show a leaf: its slot, and how many data bytes it has
  unfoldable pub show_on : (k : ℕ) → Blob → Outcome (ℕ × ℕ)
  show_on k b =
      let leaf = get_or (leaves_of b) k (0, []) in
      refuse_if (leb (length (leaves_of b)) k) OutOfRange (done (leaf.0, length leaf.1) [])

  unfoldable pub show_in : (r k : ℕ) → Outcome (ℕ × ℕ)
  show_in r k = reading r (show_on k)

  -- audit: the count of live slots
  unfoldable pub audit_on : List Blob → Outcome ℕ
  audit_on bs = done (length live) []

  unfoldable pub audit_in : Outcome ℕ
  audit_in = after_check (pool_check e N P R) audit_on

  -- create: the lowest usable free slot becomes an empty leaf and a root
  unfoldable pub create_on : List Blob → Outcome ℕ
  create_on bs =
      refuse_full 1
      (done (lowest usable) (become 2 [] ((lowest usable, record { height = 0; items = [] }) ∷ [])))

  unfoldable pub create_in : Outcome ℕ
  create_in = after_check (pool_check e N P R) create_on

  -- write: d put inside the present length
  unfoldable pub write_on : (offset : ℕ) → (d : List ℕ) → Blob → Outcome (Unit {0})
  write_on offset d b =
      refuse_worn b
      (refuse_past b offset (length d)
      (done tt (become 1 (cells_of b) (cells_of (refilled (pasted offset d (content_of b)) b)))))

  unfoldable pub write_in : (r offset : ℕ) → (d : List ℕ) → Outcome (Unit {0})
  write_in r offset d = changing r (write_on offset d)

  -- resize: new blocks needed are the difference of the block totals
  unfoldable pub new_blocks : (len : ℕ) → Blob → ℕ
  new_blocks len b = total e.fan (leaves_for e.leaf len) - total e.fan (length (leaves_of b))

  unfoldable pub resize_on : (len : ℕ) → Blob → Outcome (Unit {0})
  resize_on len b =
      refuse_worn b
      (refuse_full (new_blocks len b)
      (done tt (become 1 (cells_of b) (cells_of (resized e len usable b)))))

  unfoldable pub resize_in : (r len : ℕ) → Outcome (Unit {0})
  resize_in r len = changing r (resize_on len)

  -- delete: every block of the blob goes
  unfoldable pub delete_on : Blob → Outcome (Unit {0})
  delete_on b = done tt (become 1 (cells_of b) [])

  unfoldable pub delete_in : (r : ℕ) → Outcome (Unit {0})
  delete_in r = changing r delete_on

-- the calls, on any bytes
module _ (e : Edition) (P R : List ℕ) where
  unfoldable pub length_call : (r : ℕ) → Outcome ℕ
  length_call r = opened e P R (length_in e (slots_in e P) P R r)

  unfoldable pub read_call : (r offset size : ℕ) → Outcome (List ℕ)
  read_call r offset size = opened e P R (read_in e (slots_in e P) P R r offset size)

  unfoldable pub show_call : (r k : ℕ) → Outcome (ℕ × ℕ)
  show_call r k = opened e P R (show_in e (slots_in e P) P R r k)

  unfoldable pub audit_call : Outcome ℕ
  audit_call = opened e P R (audit_in e (slots_in e P) P R)

  unfoldable pub create_call : Outcome ℕ
  create_call = opened e P R (create_in e (slots_in e P) P R)

  unfoldable pub write_call : (r offset : ℕ) → (d : List ℕ) → Outcome (Unit {0})
  write_call r offset d = opened e P R (write_in e (slots_in e P) P R r offset d)

  unfoldable pub resize_call : (r len : ℕ) → Outcome (Unit {0})
  resize_call r len = opened e P R (resize_in e (slots_in e P) P R r len)

  unfoldable pub delete_call : (r : ℕ) → Outcome (Unit {0})
  delete_call r = opened e P R (delete_in e (slots_in e P) P R r)

-- the store after a call: a refusal writes nothing anywhere
unfoldable pub after : {A : Type 0} → Edition → Store → Outcome A → Store
after e S (refused r) = S
after e S (done a cs) = changed_by e cs S

-- wipe: pool all zeros; each record free, version 0
unfoldable pub free_records : ℕ → List ℕ
free_records zero = []
free_records (suc n) = record_of 0 0 ++ free_records n

unfoldable pub wiped : Edition → ℕ → Store
wiped e n = record { pool = replicate (e.size * n) 0; records = free_records n }

-- Wipe checks 1 only. What it changes is everything, so it has no Outcome with a list of changes: the store after it is given whole, and its
-- answer, refusal 1 or done, is wipe_answer (Answers).
unfoldable pub after_wipe : Edition → Store → Store
after_wipe e S = pick (sized e S.pool S.records) (wiped e (slots_in e S.pool)) S
