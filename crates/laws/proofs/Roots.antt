-- The pool check lists each root record's blob. A visit of a slot finds a tree of that slot, so the walks from the root records, in
-- rising order, give one blob for each of them and no other. Behind a root's record and a pool check that went well, a change
-- therefore always finds its blob: the refusal that `with_blob` would give is never met.
use mathlib.Core.Path.{◌≡◌, refl, ap, ap₂, ◌∙◌, sym}
use mathlib.Core.Logic.{◌⊎◌, inl, inr}
use mathlib.Core.Bool.{Bool, true, false}
use mathlib.Core.List.Memᴰ
use mathlib.Core.List.{List, [], ◌∷◌, map, Memᴰ}
use Prim.Native.Nat.{ℕ, zero, suc, ◌<◌, min}
use native.Mathlib.Omega.{arith}
use borrow.Author.Tests.{eqb-true, eqb-false, eq-eqb}
use lib.Dec.{eqb}
use lib.ListN.{replicate}
use Rattle.meaning.specs.declared.Edition.{Edition}
use Rattle.meaning.specs.Lists.{pick, range, filter}
use Rattle.meaning.specs.Bytes.{block, height_of, data_of, children_of, state}
use Rattle.meaning.specs.Tree.{Tree, Blob, slot_of, root_of}
use Rattle.meaning.specs.declared.Role.{Role}
use Rattle.meaning.specs.declared.Role.TheVariants.{Root}
use Rattle.meaning.specs.Walk.{Found, fine, one_visit, visit_row, visit, from_root, roots, closing, pool_check}
use Rattle.meaning.specs.Calls.{Outcome, with_blob}
use Rattle.laws.proofs.Ranges.{in_range, in_filter}
use Rattle.laws.proofs.Inversions.{by_test, and_then_fine, and_then_turned, and_then_joined, passing_fine, fine_same}

module _ (e : Edition) (N : ℕ) (P R : List ℕ) where
  -- a visit of slot s finds a tree of slot s
  pub visit_slot : (h : ℕ) (role : Role) (edge : Bool) (seen : List ℕ) (s : ℕ) {t : Tree h} {seen' : List ℕ}
      → visit e N P R h role edge seen s ≡ fine t seen' → slot_of h t ≡ s
  unfolding visit slot_of
  visit_slot zero role edge seen s v = ap (slot_of zero) (sym (and_then_turned (one_visit e N P R zero role edge seen s) (λ b. (s, data_of b)) v).2)
  visit_slot (suc h) role edge seen s v =
      let below : List ℕ → List ℕ → Found (List (Tree h)) = λ b seen'. visit_row e N P R (visit e N P R h) s edge (children_of b) seen' in
      let w = and_then_joined (one_visit e N P R (suc h) role edge seen s) below (λ b ts. (s, ts)) v in
      ap (slot_of (suc h)) (sym w.5)

  -- a walk from a root finds a blob of that root
  pub walk_root : (seen : List ℕ) (r : ℕ) {b : Blob} {seen' : List ℕ} → from_root e N P R seen r ≡ fine b seen' → root_of b ≡ r
  unfolding from_root root_of
  walk_root seen r w =
      let h : ℕ = min (height_of (block e P r)) e.top in
      let t = and_then_turned (visit e N P R h Root true seen r) (λ t. record { height = h; tree = t }) w in
      ap root_of (sym t.2) ∙ visit_slot h Root true seen r t.1

  -- where the first slot's record is a root's: the walk from it, then those from the other slots
  pub roots_root : (s : ℕ) (slots seen : List ℕ) {bs : List Blob} {seen' : List ℕ} → eqb (state R s) 2 ≡ true
      → roots e N P R (s ∷ slots) seen ≡ fine bs seen'
      → (b : Blob) × (mid : List ℕ) × (cs : List Blob)
      × (from_root e N P R seen s ≡ fine b mid) × (roots e N P R slots mid ≡ fine cs seen') × (b ∷ cs ≡ bs)
  unfolding roots pick
  roots_root s slots seen t w = and_then_joined (from_root e N P R seen s) (λ b seen'. roots e N P R slots seen') (λ b cs. b ∷ cs) (rw t at w)

  -- where it is not, the slot is passed over
  pub roots_other : (s : ℕ) (slots seen : List ℕ) → eqb (state R s) 2 ≡ false → roots e N P R (s ∷ slots) seen ≡ roots e N P R slots seen
  unfolding roots pick
  roots_other s slots seen t = rw t

  -- the walks from the root records among these slots give the blobs of those roots, in that order
  pub roots_named : (slots seen : List ℕ) {bs : List Blob} {seen' : List ℕ} → roots e N P R slots seen ≡ fine bs seen'
      → map root_of bs ≡ filter (λ s. eqb (state R s) 2) slots
  unfolding roots filter pick
  roots_named [] seen w = ap (map root_of) (sym (fine_same w).0)
  roots_named (s ∷ slots) seen {bs} {seen'} w =
      by_test (eqb (state R s) 2)
      (λ t.
      let (b, mid, cs, o, o', q) = roots_root s slots seen t w in
      rw t (ap (map root_of) (sym q) ∙ ap₂ ◌∷◌ (walk_root seen s o) (roots_named slots mid o')))
      (λ t. rw t (roots_named slots seen (sym (roots_other s slots seen t) ∙ w)))

  -- a pool check that goes well gives those of all slots
  pub pool_names : {bs : List Blob} {seen : List ℕ} → pool_check e N P R ≡ fine bs seen → map root_of bs ≡ filter (λ s. eqb (state R s) 2) (range 0 N)
  unfolding pool_check
  pool_names {bs} {seen} w =
      let (cs, mid, o, q) = and_then_fine (roots e N P R (range 0 N) (replicate N 0)) _ w in
      let same = fine_same {a = cs} {b = bs} {x = mid} {y = seen} (passing_fine (closing e N P R (range 0 N) mid) (fine cs mid) q).1 in
      ap (map root_of) (sym same.0) ∙ roots_named (range 0 N) (replicate N 0) {bs = cs} {seen' = mid} o

-- the blob of root r is listed: it is one of the blobs, and the one that a change of r finds
pub record Listed (r : ℕ) (bs : List Blob) : Type 1 where
  pub blob : Blob
  pub named : root_of blob ≡ r
  pub among : Memᴰ blob bs
  pub met : {A : Type 0} (k : Blob → Outcome A) → with_blob r k bs ≡ k blob

-- among blobs of these roots, the blob of one of them is listed
pub listed : (r : ℕ) (bs : List Blob) → Memᴰ r (map root_of bs) → Listed r bs
unfolding with_blob pick
listed r [] m = absurd (Memᴰ.not-nil m)
listed r (b ∷ bs) m =
    by_test (eqb (root_of b) r)
    (λ t. record { blob = b; named = eqb-true (root_of b) r t; among = Memᴰ.head refl; met = λ k. rw t })
    (λ t.
    let l = listed r bs (later t (Memᴰ.cases_cons m)) in
    record { blob = l.blob; named = l.named; among = Memᴰ.tail l.among; met = λ k. rw t (l.met k) })
  where
    later : eqb (root_of b) r ≡ false → (r ≡ root_of b) ⊎ Memᴰ r (map root_of bs) → Memᴰ r (map root_of bs)
    later t (inl q) = absurd (eqb-false (root_of b) r t (sym q))
    later t (inr n) = n

-- a pool check that went well lists the blob of each root record: the refusal of `with_blob` is never met
pub pool_names_root : (e : Edition) (N : ℕ) (P R : List ℕ) (r : ℕ) {bs : List Blob} {seen : List ℕ} → pool_check e N P R ≡ fine bs seen
    → r < N → state R r ≡ 2 → Listed r bs
pool_names_root e N P R r {bs} w within is =
    let m = in_filter (λ s. eqb (state R s) 2) (eq-eqb (state R r) 2 is) (in_range 0 N r (omega arith) (omega arith)) in
    listed r bs (rw (pool_names e N P R w) m)
