-- Over any run of calls a slot and a version determine a block. Every call leaves a slot, raises its version by one or frees it with its
-- version kept, so versions never fall, and a slot that is live at one version twice was not touched between. A live block carries its slot
-- and version, so any block of the history in another place, or from another time, fails check 2.
use Rattle.std.specs.Prelude.{Option, Some, None}
use mathlib.Core.Path.{◌≡◌, refl, sym, ap, subst, ◌∙◌}
use mathlib.Core.Logic.{◌⊎◌, inl, inr, ⊎_elim}
use mathlib.Core.List.Memᴰ
use mathlib.Core.List.{List, [], ◌∷◌, Memᴰ}
use Prim.Native.Nat.{ℕ, ◌+◌, ◌^◌, ◌≤◌, ◌<◌}
use native.Mathlib.Omega.{arith}
use borrow.Author.Tests.{eqb-true, eqb-false, ltb-true, ltb-false}
use lib.Dec.{eqb, ltb}
use lib.ListN.{replicate}
use Rattle.meaning.specs.declared.Edition.{Edition}
use Rattle.meaning.specs.Edition.{Proper}
use Rattle.meaning.specs.Bytes.{block, record_at, record_of, state, recorded}
use Rattle.meaning.specs.Walk.{flaw}
use Rattle.meaning.specs.Change.{Store}
use Rattle.meaning.specs.Run.{Call, perform, moments}
use Rattle.meaning.specs.declared.Reason.{Reason}
use Rattle.meaning.specs.declared.Reason.TheVariants.{Spoiled, Moved, RolledBack, Ahead}
use Rattle.laws.proofs.Codec.{blank_flaw, state_of_lem, recorded_of_lem}
use Rattle.laws.proofs.Inversions.{by_test, some_not_none}
use Rattle.laws.proofs.Every.{Every, every_mem}
use Rattle.laws_history.proofs.Stepped.{Risen, Stepped, same, risen, gone, Settled, state_same, recorded_same}
use Rattle.laws_history.proofs.CallSteps.{call_steps}
use Rattle.laws_history.proofs.Carried.{Carries, encoded_carries, moved_flaw, older_flaw, newer_flaw}

-- slot x's state and recorded version in a store, and its block
abbrev pub state_in : Store → ℕ → ℕ
state_in S x = state S.records x

abbrev pub version_in : Store → ℕ → ℕ
version_in S x = recorded S.records x

abbrev pub block_in : Edition → Store → ℕ → List ℕ
block_in e S x = block e S.pool x

-- a free slot is zeros; a live one carries the mark, its slot and its version
pub data Kept (e : Edition) (S : Store) (x : ℕ) : Type 0 where
  free : state_in S x ≡ 0 → block_in e S x ≡ replicate e.size 0 → Kept e S x
  live : 1 ≤ state_in S x → Carries e x (version_in S x) (block_in e S x) → Kept e S x

-- slot x at a later moment, against an earlier one: as it was; freed at the same version; or at a later version
pub data Since (e : Edition) (S S' : Store) (x : ℕ) : Type 0 where
  kept : block_in e S' x ≡ block_in e S x → state_in S' x ≡ state_in S x → version_in S' x ≡ version_in S x → Since e S S' x
  freed : state_in S' x ≡ 0 → version_in S' x ≡ version_in S x → Since e S S' x
  later : version_in S x < version_in S' x → Since e S S' x

-- what check 2 says, f, of a block that slot y held at moment T, in slot x where the record has version v
pub data Misplaced (T : Store) (y v x : ℕ) (f : Option Reason) : Type 0 where
  spoiled : state_in T y ≡ 0 → f ≡ Some Spoiled → Misplaced T y v x f
  moved : 1 ≤ state_in T y → (y ≡ x → ⊥) → f ≡ Some Moved → Misplaced T y v x f
  rolled_back_lem : 1 ≤ state_in T y → y ≡ x → version_in T y < v → f ≡ Some RolledBack → Misplaced T y v x f
  ahead : 1 ≤ state_in T y → y ≡ x → v < version_in T y → f ≡ Some Ahead → Misplaced T y v x f

-- it says something
pub misplaced_some : {T : Store} {y v x : ℕ} {f : Option Reason} → Misplaced T y v x f → f ≡ None → ⊥
misplaced_some (spoiled z q) = λ n. some_not_none (sym q ∙ n)
misplaced_some (moved l d q) = λ n. some_not_none (sym q ∙ n)
misplaced_some (rolled_back_lem l d o q) = λ n. some_not_none (sym q ∙ n)
misplaced_some (ahead l d o q) = λ n. some_not_none (sym q ∙ n)

-- the version of a slot that has risen
risen_version : (e : Edition) (S S' : Store) (x : ℕ) → Risen e S S' x → version_in S' x ≡ version_in S x + 1
risen_version e S S' x r = recorded_of_lem S'.records x r.now (version_in S x + 1) r.line r.fits

-- of one that is gone
gone_version : (S S' : Store) (x : ℕ) → version_in S x < 2 ^ 64 → record_at S'.records x ≡ record_of 0 (version_in S x)
    → version_in S' x ≡ version_in S x
gone_version S S' x h r = recorded_of_lem S'.records x 0 (version_in S x) r h

-- one step more, from an earlier moment
since_next : (e : Edition) (S S' S'' : Store) (x : ℕ) → version_in S' x < 2 ^ 64 → Since e S S' x → Stepped e S' S'' x → Since e S S'' x
since_next e S S' S'' x h (kept p q w) (same b r) =
    kept (b ∙ p) (state_same S'.records S''.records x r ∙ q) (recorded_same S'.records S''.records x r ∙ w)
since_next e S S' S'' x h (freed p q) (same b r) =
    freed (state_same S'.records S''.records x r ∙ p) (recorded_same S'.records S''.records x r ∙ q)
since_next e S S' S'' x h (later p) (same b r) = later (omega (arith, recorded_same S'.records S''.records x r))
since_next e S S' S'' x h (kept p q w) (risen r) = later (omega (arith, risen_version e S' S'' x r))
since_next e S S' S'' x h (freed p q) (risen r) = later (omega (arith, risen_version e S' S'' x r))
since_next e S S' S'' x h (later p) (risen r) = later (omega (arith, risen_version e S' S'' x r))
since_next e S S' S'' x h (kept p q w) (gone b r) = freed (state_of_lem S''.records x 0 (version_in S' x) r) (gone_version S' S'' x h r ∙ w)
since_next e S S' S'' x h (freed p q) (gone b r) = freed (state_of_lem S''.records x 0 (version_in S' x) r) (gone_version S' S'' x h r ∙ q)
since_next e S S' S'' x h (later p) (gone b r) = later (omega (arith, gone_version S' S'' x h r))

-- what a live slot's version says of its block
since_block : (e : Edition) (S S' : Store) (x : ℕ) → Since e S S' x → 1 ≤ state_in S' x → version_in S x ≡ version_in S' x
    → block_in e S' x ≡ block_in e S x
since_block e S S' x (kept p q w) l v = p
since_block e S S' x (freed p q) l v = absurd (omega arith)
since_block e S S' x (later p) l v = absurd (omega arith)

module _ (e : Edition) (p : Proper e) (N : ℕ) (few : N ≤ e.most) where
  -- one step more, of what a slot holds
  kept_next : (S S' : Store) (x : ℕ) → x < N → Kept e S x → Stepped e S S' x → Kept e S' x
  kept_next S S' x h (free a b) (same q r) = free (state_same S.records S'.records x r ∙ a) (q ∙ b)
  kept_next S S' x h (live a c) (same q r) =
      live (omega (arith, state_same S.records S'.records x r)) (rw (recorded_same S.records S'.records x r, q) c)
  kept_next S S' x h k (risen r) =
      let c = encoded_carries e p r.cell x (version_in S x + 1) (omega (arith, p.small)) r.fits in
      live (omega (arith, state_of_lem S'.records x r.now (version_in S x + 1) r.line, r.live)) (rw (risen_version e S S' x r, r.bytes) c)
  kept_next S S' x h k (gone b r) = free (state_of_lem S'.records x 0 (version_in S x) r) b

  -- every slot keeps the rule
  abbrev pub AllKept : Store → Type 0
  AllKept S = (x : ℕ) → x < N → Kept e S x

  -- at every moment from a settled store on, the store is settled and its slots keep the rule
  pub moments_kept : (S : Store) → Settled e N S → AllKept S → (calls : List Call) → Every (λ T. Settled e N T × AllKept T) (moments e S calls)
  unfolding moments
  moments_kept S is k [] = ((is, k), tt)
  moments_kept S is k (c ∷ cs) =
      let s = call_steps e p N few S is c in
      ((is, k), moments_kept (perform e S c) s.1 (λ x h. kept_next S (perform e S c) x h (k x h) (s.0 x h)) cs)

  -- every later moment against an earlier one
  since_from : (B S : Store) (x : ℕ) → x < N → Settled e N S → Since e B S x → (calls : List Call) → Every (λ T. Since e B T x) (moments e S calls)
  unfolding moments
  since_from B S x h is s [] = (s, tt)
  since_from B S x h is s (c ∷ cs) =
      let n = call_steps e p N few S is c in
      (s, since_from B (perform e S c) x h n.1 (since_next e B S (perform e S c) x (is.small x h) s (n.0 x h)) cs)

  -- every moment of a run against its first
  since_first : (S : Store) (x : ℕ) → x < N → Settled e N S → (calls : List Call) → Every (λ T. Since e S T x) (moments e S calls)
  since_first S x h is calls = since_from S S x h is (kept refl refl refl) calls

  -- of two moments one is the later
  either : (x : ℕ) → x < N → (S : Store) → Settled e N S → (calls : List Call) (T U : Store) → Memᴰ T (moments e S calls)
      → Memᴰ U (moments e S calls) → (Since e T U x) ⊎ (Since e U T x)
  unfolding moments
  either x h S is [] T U a b =
      let t = every_mem (λ T. T ≡ S) {xs = S ∷ []} (refl, tt) a in
      let u = every_mem (λ T. T ≡ S) {xs = S ∷ []} (refl, tt) b in
      rw (t, u) (inl (kept refl refl refl))
  either x h S is (c ∷ cs) T U a b =
      let all = since_first S x h is (c ∷ cs) in
      ⊎_elim
      (λ t. inl (rw t (every_mem (λ W. Since e S W x) all b)))
      (λ t. ⊎_elim
      (λ u. inr (rw u (every_mem (λ W. Since e S W x) all a)))
      (λ u. either x h (perform e S c) (call_steps e p N few S is c).1 cs T U t u)
      (Memᴰ.cases_cons b))
      (Memᴰ.cases_cons a)

  -- the moments of a run from a settled store whose slots keep the rule
  module _ (S : Store) (is : Settled e N S) (starts : AllKept S) (calls : List Call) where
    -- a slot that is live at two moments with one recorded version holds one block
    pub determined : (T U : Store) → Memᴰ T (moments e S calls) → Memᴰ U (moments e S calls) → (x : ℕ) → x < N
        → 1 ≤ state_in T x → 1 ≤ state_in U x → version_in T x ≡ version_in U x → block_in e T x ≡ block_in e U x
    determined T U a b x h lt lu v =
        ⊎_elim (λ s. sym (since_block e T U x s lu v)) (λ s. since_block e U T x s lt (sym v)) (either x h S is calls T U a b)

    -- every slot of every moment keeps the rule
    pub kept_at : (T : Store) → Memᴰ T (moments e S calls) → AllKept T
    kept_at T a = (every_mem (λ T. Settled e N T × AllKept T) (moments_kept S is starts calls) a).1

    -- every moment is settled
    pub settled_at : (T : Store) → Memᴰ T (moments e S calls) → Settled e N T
    settled_at T a = (every_mem (λ T. Settled e N T × AllKept T) (moments_kept S is starts calls) a).0

    -- what a live slot of a moment holds
    live_carries : (T : Store) → Memᴰ T (moments e S calls) → (y : ℕ) → y < N → 1 ≤ state_in T y → Carries e y (version_in T y) (block_in e T y)
    live_carries T a y h l = go (kept_at T a y h)
      where
        go : Kept e T y → Carries e y (version_in T y) (block_in e T y)
        go (free z b) = absurd (omega arith)
        go (live k c) = c

    -- and what a free one does
    pub free_blank : (T : Store) → Memᴰ T (moments e S calls) → (y : ℕ) → y < N → state_in T y ≡ 0 → block_in e T y ≡ replicate e.size 0
    free_blank T a y h z = go (kept_at T a y h)
      where
        go : Kept e T y → block_in e T y ≡ replicate e.size 0
        go (free k b) = b
        go (live k c) = absurd (omega arith)

    -- a block that slot y held at moment T, in the place of slot x's at moment U, where x is live and its block is another, fails check 2
    pub misplaced : (T U : Store) → Memᴰ T (moments e S calls) → Memᴰ U (moments e S calls) → (x y : ℕ) → x < N → y < N
        → 1 ≤ state_in U x → (block_in e T y ≡ block_in e U x → ⊥) → Misplaced T y (version_in U x) x (flaw e (version_in U x) x (block_in e T y))
    misplaced T U a b x y h k l d =
        let v = version_in U x in
        let w = version_in T y in
        by_test (eqb (state_in T y) 0)
        (λ t. let z = eqb-true (state_in T y) 0 t in spoiled z (ap (flaw e v x) (free_blank T a y k z) ∙ blank_flaw e p v x))
        (λ t.
        let n = eqb-false (state_in T y) 0 t in
        let lives : 1 ≤ state_in T y = omega arith in
        let c = live_carries T a y k lives in
        by_test (eqb y x)
        (λ t.
        let q = eqb-true y x t in
        by_test (ltb w v)
        (λ t. let o = ltb-true w v t in rolled_back_lem lives q o (older_flaw e v x y w (block_in e T y) c q o))
        (λ t. by_test (ltb v w)
        (λ u. let o = ltb-true v w u in ahead lives q o (newer_flaw e v x y w (block_in e T y) c q o))
        (λ u.
        let same : w ≡ v = omega (arith, ltb-false w v t, ltb-false v w u) in
        let lives' : 1 ≤ state_in T x = subst (λ (n : ℕ). 1 ≤ state_in T n) q lives in
        absurd (d (ap (block_in e T) q ∙ determined T U a b x h lives' l (ap (version_in T) (sym q) ∙ same))))))
        (λ t. let o = eqb-false y x t in moved lives o (moved_flaw e v x y w (block_in e T y) c o)))
