-- Why an outcome is refused, read off the words that calls are written in, and back: a refusal, a check, refusals 1 and 2, refusal 3, a worn blob.
use mathlib.Core.Path.{◌≡◌, refl, sym, ap, ◌∙◌}
use mathlib.Core.Bool.{Bool, true, false, not}
use mathlib.Core.List.{List, [], ◌∷◌, Memᴰ}
use Prim.Native.Nat.{ℕ, zero, suc, ◌+◌, ◌≤◌, ◌<◌}
use native.Mathlib.Omega.{arith}
use borrow.Author.Tests.{ltb-true, ltb-false, eqb-true, eqb-false, lt-ltb, le-ltb, eq-eqb, not-true, not-false}
use lib.Dec.{ltb, eqb}
use Rattle.meaning.specs.declared.Reason.TheVariants.{BadRecord, NotARoot, WornOut, WrongLengths}
use Rattle.meaning.specs.declared.Edition.{Edition}
use Rattle.meaning.specs.declared.Refusal.{Refusal}
use Rattle.meaning.specs.Lists.{pick, both, range, all}
use Rattle.meaning.specs.Bytes.{record_at, state, recorded, sound_record, last_version}
use Rattle.meaning.specs.Tree.{Blob, slots_of}
use Rattle.meaning.specs.Refusals.{at, nowhere}
use Rattle.meaning.specs.Walk.{Found, fault, fine}
use Rattle.meaning.specs.Change.{Store}
use Rattle.meaning.specs.Calls.{Outcome, refused, refuse_if, after_check, refuse_bad_record, sized, opened, rooted, refuse_worn}
use Rattle.meaning.specs.declared.Reason.{Reason}
use Rattle.laws.proofs.Inversions.{by_test, both_true, true_both, never}
use Rattle.laws_history.proofs.Answered.{rooted_passes}
use Rattle.laws_sound.proofs.again.Outcomes.{opens_passes}
use Rattle.promises.specs.Demands.{slots_at, IsRoot, Opened, Worn}

-- one refused outcome is one refusal
pub refused_same : {A : Type 0} {r q : Refusal} → ◌≡◌ {A = Outcome A} (refused r) (refused q) → r ≡ q
refused_same h = cc

-- a refusal, or what is behind it
pub by_if : {A : Type 0} (t : Bool) (n : Reason) (o : Outcome A) {q : Refusal} (Q : Type 0) → refuse_if t n o ≡ refused q → (t ≡ true → q ≡ nowhere n → Q)
    → (t ≡ false → o ≡ refused q → Q) → Q
unfolding refuse_if
by_if true n o Q h x y = x refl (sym (refused_same h))
by_if false n o Q h x y = y refl h

-- it is made
pub if_refused : {A : Type 0} (t : Bool) (n : Reason) (o : Outcome A) → t ≡ true → refuse_if t n o ≡ refused (nowhere n)
unfolding refuse_if
if_refused t n o h = rw h

-- it is not made
pub if_passed : {A : Type 0} (t : Bool) (n : Reason) (o : Outcome A) → t ≡ false → refuse_if t n o ≡ o
unfolding refuse_if
if_passed t n o h = rw h

-- a check, or what is behind it
pub by_check : {A B : Type 0} (f : Found A) (k : A → Outcome B) {q : Refusal} (Q : Type 0) → after_check f k ≡ refused q → (f ≡ fault q → Q)
    → ((a : A) (seen : List ℕ) → f ≡ fine a seen → k a ≡ refused q → Q) → Q
unfolding after_check
by_check (fault r) k Q h x y = x (ap fault (refused_same h))
by_check (fine a seen) k Q h x y = y a seen refl h

-- the check faults
pub check_refused : {A B : Type 0} (f : Found A) (k : A → Outcome B) (q : Refusal) → f ≡ fault q → after_check f k ≡ refused q
unfolding after_check
check_refused f k q h = rw h

-- it went well
pub check_passed : {A B : Type 0} (f : Found A) (k : A → Outcome B) (a : A) (seen : List ℕ) → f ≡ fine a seen → after_check f k ≡ k a
unfolding after_check
check_passed f k a seen h = rw h

-- the records' layout
abbrev Sound : List ℕ → ℕ → Type 0
Sound R s = sound_record (record_at R s) ≡ true

-- sound up to one more
sound_more : (R : List ℕ) (n : ℕ) → ((t : ℕ) → t < n → Sound R t) → Sound R n → (t : ℕ) → t < suc n → Sound R t
sound_more R n f h t low = by_test (eqb t n) (λ x. rw (eqb-true t n x) h) (λ x. let d = eqb-false t n x in f t (omega arith))

-- the lowest that breaks it, or what is behind it
by_records : {A : Type 0} (R : List ℕ) (n from : ℕ) (o : Outcome A) {q : Refusal} (Q : Type 0) → refuse_bad_record R (range from n) o ≡ refused q
    → ((t : ℕ) → t < from → Sound R t)
    → ((s : ℕ) → s < from + n → sound_record (record_at R s) ≡ false → ((t : ℕ) → t < s → Sound R t) → q ≡ at BadRecord s → Q)
    → (((t : ℕ) → t < from + n → Sound R t) → o ≡ refused q → Q) → Q
unfolding refuse_bad_record range pick
by_records R zero from o Q h f x y = y (λ t low. f t (omega arith)) h
by_records R (suc n) from o Q h f x y =
    by_test (sound_record (record_at R from))
    (λ t. by_records R n (suc from) o Q (rw t at h) (sound_more R from f t) (λ s low. x s (omega arith)) (λ g. y (λ t low. g t (omega arith))))
    (λ t. x from (omega arith) t f (sym (refused_same (rw t at h))))

-- the lowest that breaks it is named
records_refused : {A : Type 0} (R : List ℕ) (n from s : ℕ) (o : Outcome A) → from ≤ s → s < from + n → sound_record (record_at R s) ≡ false
    → ((t : ℕ) → t < s → Sound R t) → refuse_bad_record R (range from n) o ≡ refused (at BadRecord s)
unfolding refuse_bad_record range pick
records_refused R zero from s o lo hi bad f = absurd (omega arith)
records_refused R (suc n) from s o lo hi bad f =
    by_test (eqb s from)
    (λ t. rw (sym (eqb-true s from t), bad))
    (λ t. let d = eqb-false s from t in rw (f from (omega arith)) (records_refused R n (suc from) s o (omega arith) (omega arith) bad f))

-- refusals 1 and 2
module _ {A : Type 0} (e : Edition) (S : Store) (o : Outcome A) where
  -- the first of both, or what is behind them
  pub by_opened : {q : Refusal} (Q : Type 0) → opened e S.pool S.records o ≡ refused q
      → (sized e S.pool S.records ≡ false → q ≡ nowhere WrongLengths → Q)
      → ((s : ℕ) → sized e S.pool S.records ≡ true → s < slots_at e S → sound_record (record_at S.records s) ≡ false
      → ((t : ℕ) → t < s → sound_record (record_at S.records t) ≡ true) → q ≡ at BadRecord s → Q)
      → (Opened e S → o ≡ refused q → Q) → Q
  unfolding opened
  by_opened Q h x y z =
      by_if (not (sized e S.pool S.records)) WrongLengths _ Q h
      (λ t. x (not-true (sized e S.pool S.records) t))
      (λ t w. let good = not-false (sized e S.pool S.records) t in
      by_records S.records (slots_at e S) 0 o Q w (λ t low. absurd (omega arith))
      (λ s low bad f. y s good (omega arith) bad f)
      (λ g. z (record { lengths = good; layout = λ s low. g s (omega arith) })))

  -- 1 is made
  pub lengths_refused : sized e S.pool S.records ≡ false → opened e S.pool S.records o ≡ refused (nowhere WrongLengths)
  unfolding opened
  lengths_refused h = if_refused _ WrongLengths _ (ap not h)

  -- 2 is made
  pub layout_refused : (s : ℕ) → sized e S.pool S.records ≡ true → s < slots_at e S → sound_record (record_at S.records s) ≡ false
      → ((t : ℕ) → t < s → sound_record (record_at S.records t) ≡ true) → opened e S.pool S.records o ≡ refused (at BadRecord s)
  unfolding opened
  layout_refused s h low bad f = if_passed _ WrongLengths _ (ap not h) ∙ records_refused S.records (slots_at e S) 0 s o (omega arith) (omega arith) bad f

  -- neither is
  pub opened_passed : Opened e S → opened e S.pool S.records o ≡ o
  opened_passed g = opens_passes e S.pool S.records o (record { sized = g.lengths; sound = g.layout })

  -- the test of refusal 3
  abbrev root_test : ℕ → Bool
  root_test r = both (ltb r (slots_at e S)) (eqb (state S.records r) 2)

  -- holds of a root only
  tested_root : (r : ℕ) → root_test r ≡ true → IsRoot e S r
  tested_root r t =
      let k = both_true (ltb r (slots_at e S)) (eqb (state S.records r) 2) t in
      (ltb-true r (slots_at e S) k.0, eqb-true (state S.records r) 2 k.1)

  -- refusal 3
  pub by_rooted : (r : ℕ) {q : Refusal} (Q : Type 0) → rooted e (slots_at e S) S.pool S.records r o ≡ refused q
      → ((IsRoot e S r → ⊥) → q ≡ nowhere NotARoot → Q) → (IsRoot e S r → o ≡ refused q → Q) → Q
  unfolding rooted
  by_rooted r Q h x y =
      by_if (not (root_test r)) NotARoot o Q h
      (λ b. x (λ is. never (sym (root_tested is) ∙ not-true (root_test r) b)))
      (λ b. y (tested_root r (not-false (root_test r) b)))
    where
      root_tested : IsRoot e S r → root_test r ≡ true
      root_tested is = true_both (ltb r (slots_at e S)) _ (lt-ltb r (slots_at e S) is.0) (eq-eqb (state S.records r) 2 is.1)

  -- it is made
  pub root_refused : (r : ℕ) → (IsRoot e S r → ⊥) → rooted e (slots_at e S) S.pool S.records r o ≡ refused (nowhere NotARoot)
  unfolding rooted
  root_refused r no_root =
      by_test (root_test r) (λ t. absurd (no_root (tested_root r t))) (λ t. if_refused (not (root_test r)) NotARoot o (ap not t))

  -- it is not made
  pub root_passed : (r : ℕ) → IsRoot e S r → rooted e (slots_at e S) S.pool S.records r o ≡ o
  root_passed r is = rooted_passes e (slots_at e S) S.pool S.records r is.0 is.1 o

  -- refusal 12
  abbrev youngs : List ℕ → Bool
  youngs l = all (λ s. ltb (recorded S.records s) last_version) l

  -- one of the last version, where not all are below it
  worn_found : (l : List ℕ) → youngs l ≡ false → (s : ℕ) × Memᴰ s l × (last_version ≤ recorded S.records s)
  unfolding all both
  worn_found [] h = never h
  worn_found (s ∷ l) h =
      by_test (ltb (recorded S.records s) last_version)
      (λ t. let (x, m, k) = worn_found l (rw t at h) in (x, Memᴰ.tail m, k))
      (λ t. (s, Memᴰ.head refl, ltb-false (recorded S.records s) last_version t))

  -- and not all are, where one is
  worn_seen : (l : List ℕ) (s : ℕ) → Memᴰ s l → last_version ≤ recorded S.records s → youngs l ≡ false
  unfolding all both
  worn_seen [] s m k = elim m [ ]
  worn_seen (x ∷ l) s (Memᴰ.head q) k = rw (le-ltb (recorded S.records x) last_version (rw q at k))
  worn_seen (x ∷ l) s (Memᴰ.tail m) k =
      by_test (ltb (recorded S.records x) last_version) (λ t. rw t (worn_seen l s m k)) (λ t. rw t)

  -- it, or what is behind it
  pub by_worn : (b : Blob) {q : Refusal} (Q : Type 0) → refuse_worn e (slots_at e S) S.pool S.records b o ≡ refused q
      → (Worn S b → q ≡ nowhere WornOut → Q) → ((Worn S b → ⊥) → o ≡ refused q → Q) → Q
  unfolding refuse_worn
  by_worn b Q h x y =
      by_if _ WornOut o Q h
      (λ t. x (worn_found (slots_of b) (not-true (youngs (slots_of b)) t)))
      (λ t. y (λ (s, m, k). never (sym (not-false (youngs (slots_of b)) t) ∙ worn_seen (slots_of b) s m k)))

  -- it is made
  pub worn_refused : (b : Blob) → Worn S b → refuse_worn e (slots_at e S) S.pool S.records b o ≡ refused (nowhere WornOut)
  unfolding refuse_worn
  worn_refused b (s, m, k) = if_refused _ WornOut o (ap not (worn_seen (slots_of b) s m k))

  -- it is not made
  pub worn_passed : (b : Blob) → (Worn S b → ⊥) → refuse_worn e (slots_at e S) S.pool S.records b o ≡ o
  unfolding refuse_worn
  worn_passed b none =
      by_test (youngs (slots_of b)) (λ t. if_passed _ WornOut o (ap not t)) (λ t. absurd (none (worn_found (slots_of b) t)))
