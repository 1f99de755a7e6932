-- Calls that only read leave the store as it is: whatever their checks say, their outcome has no change.
use mathlib.Core.Path.{◌≡◌, refl}
use mathlib.Core.Bool.{Bool, true, false, not}
use mathlib.Core.List.{List, [], ◌∷◌}
use Prim.Native.Nat.{ℕ, ◌+◌}
use lib.Dec.{eqb, leb, ltb}
use lib.ListN.{length}
use Rattle.meaning.specs.declared.Edition.{Edition}
use Rattle.meaning.specs.Lists.{pick, both, part, range}
use Rattle.meaning.specs.Bytes.{state, record_at, sound_record}
use Rattle.meaning.specs.Tree.{Blob, content_of, leaves_of, length_of}
use Rattle.meaning.specs.Walk.{Found, fault, fine, pool_check, blob_check}
use Rattle.meaning.specs.Change.{Store, puts, changed_by}
use Rattle.meaning.specs.Calls.{Outcome, refused, done, refuse_if, after_check, refuse_bad_record, opened, slots_in, sized, rooted, reading}
use Rattle.meaning.specs.Calls.{refuse_past, after}
use Rattle.meaning.specs.Calls.{length_call, length_in, length_on, read_call, read_in, read_on, show_call, show_in, show_on, audit_call, audit_in, audit_on}
use Rattle.meaning.specs.declared.Reason.{Reason}
use Rattle.meaning.specs.declared.Reason.TheVariants.{WrongLengths, NotARoot, OutOfRange}
use Rattle.laws.proofs.Inversions.{by_test}

-- an outcome that changes nothing
unfoldable pub Quiet : {A : Type 0} → Outcome A → Type 0
Quiet (refused r) = Unit {0}
Quiet (done a cs) = cs ≡ []

-- leaves the store as it is
pub quiet_after : {A : Type 0} (e : Edition) (S : Store) (o : Outcome A) → Quiet o → after e S o ≡ S
unfolding Quiet after changed_by puts
quiet_after e S (refused r) q = refl
quiet_after e S (done a cs) q = rw q

-- behind a refusal
quiet_if : {A : Type 0} (t : Bool) (n : Reason) (o : Outcome A) → Quiet o → Quiet (refuse_if t n o)
unfolding Quiet refuse_if
quiet_if true n o q = tt
quiet_if false n o q = q

-- behind a check
quiet_check : {A B : Type 0} (f : Found A) (k : A → Outcome B) → ((a : A) → Quiet (k a)) → Quiet (after_check f k)
unfolding Quiet after_check
quiet_check (fault r) k q = tt
quiet_check (fine a seen) k q = q a

-- behind the records' layout
quiet_records : {A : Type 0} (R ss : List ℕ) (o : Outcome A) → Quiet o → Quiet (refuse_bad_record R ss o)
unfolding Quiet refuse_bad_record pick
quiet_records R [] o q = q
quiet_records R (s ∷ ss) o q = by_test (sound_record (record_at R s)) (λ t. rw t (quiet_records R ss o q)) (λ t. rw t tt)

-- behind refusals 1 and 2
quiet_opened : {A : Type 0} (e : Edition) (P R : List ℕ) (o : Outcome A) → Quiet o → Quiet (opened e P R o)
unfolding opened
quiet_opened e P R o q =
    quiet_if (not (sized e P R)) WrongLengths (refuse_bad_record R (range 0 (slots_in e P)) o) (quiet_records R (range 0 (slots_in e P)) o q)

-- behind refusal 3 and the blob check
quiet_reading : {A : Type 0} (e : Edition) (N : ℕ) (P R : List ℕ) (r : ℕ) (k : Blob → Outcome A) → ((b : Blob) → Quiet (k b))
    → Quiet (reading e N P R r k)
unfolding reading rooted
quiet_reading e N P R r k q =
    quiet_if (not (both (ltb r N) (eqb (state R r) 2))) NotARoot (after_check (blob_check e N P R r) k) (quiet_check (blob_check e N P R r) k q)

module _ (e : Edition) (P R : List ℕ) where
  -- length
  pub length_quiet : (r : ℕ) → Quiet (length_call e P R r)
  unfolding length_call length_in
  length_quiet r = quiet_opened e P R _ (quiet_reading e (slots_in e P) P R r (length_on e (slots_in e P) P R) (λ b. unfold length_on Quiet in refl))

  -- read
  pub read_quiet : (r offset size : ℕ) → Quiet (read_call e P R r offset size)
  unfolding read_call read_in read_on refuse_past
  read_quiet r offset size =
      quiet_opened e P R _ (quiet_reading e (slots_in e P) P R r (read_on e (slots_in e P) P R offset size)
      (λ b. quiet_if (ltb (length_of b) (offset + size)) OutOfRange (done (part offset size (content_of b)) []) (unfold Quiet in refl)))

  -- show a leaf
  pub show_quiet : (r k : ℕ) → Quiet (show_call e P R r k)
  unfolding show_call show_in show_on
  show_quiet r k =
      quiet_opened e P R _ (quiet_reading e (slots_in e P) P R r (show_on e (slots_in e P) P R k)
      (λ b. quiet_if (leb (length (leaves_of b)) k) OutOfRange _ (unfold Quiet in refl)))

  -- audit
  pub audit_quiet : Quiet (audit_call e P R)
  unfolding audit_call audit_in
  audit_quiet = quiet_opened e P R _ (quiet_check (pool_check e (slots_in e P) P R) (audit_on e (slots_in e P) P R) (λ bs. unfold audit_on Quiet in refl))
