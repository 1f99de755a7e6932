-- The faults of a walk are numbered 4 to 9 and name a slot: so those of its checks are, and a walk hands them on.
use Rattle.std.specs.Prelude.{Err, None, Ok, Some}
use mathlib.Core.Path.{◌≡◌, refl, sym, ap}
use mathlib.Core.Logic.{⊎_elim}
use mathlib.Core.Bool.{Bool, true}
use mathlib.Core.List.{List, [], ◌∷◌}
use Prim.Native.Nat.{ℕ, zero, suc, ◌≤◌, min}
use native.Mathlib.Omega.{arith}
use lib.Dec.{eqb}
use lib.ListN.{replicate}
use Rattle.meaning.specs.declared.Reason.TheVariants.{Reintroduced, WrongShape}
use Rattle.meaning.specs.declared.Edition.{Edition}
use Rattle.meaning.specs.declared.Refusal.{Refusal}
use Rattle.meaning.specs.declared.Role.{Role}
use Rattle.meaning.specs.declared.Role.TheVariants.{Root, Child}
use Rattle.meaning.specs.Lists.{pick, both, range}
use Rattle.meaning.specs.Bytes.{block, height_of, children_of, state, recorded}
use Rattle.meaning.specs.Refusals.{refusal_of, at, first, Checked, number_of}
use Rattle.meaning.specs.Walk.{Found, fault, fine, and_then, passing, is_empty, is_root, link_check, block_check, one_visit, visit_row, visit, from_root, blob_check}
use Rattle.meaning.specs.Walk.{roots, closing_check, closing, pool_check}
use Rattle.laws.proofs.Inversions.{by_test, passed_faultless, fault_not_fine, must_faulty, block_fault, link_fault}

-- numbered 4 to 9, naming a slot
abbrev pub OfWalk : Refusal → Type 0
OfWalk q = (4 ≤ number_of q.reason) × (number_of q.reason ≤ 9) × ((s : ℕ) × (q.named ≡ Some s))

-- 8 and 9 are
eight : (s : ℕ) → OfWalk (at WrongShape s)
unfolding at refusal_of number_of
eight s = (omega arith, omega arith, (s, refl))

-- so is 9
nine : (s : ℕ) → OfWalk (at Reintroduced s)
unfolding at refusal_of number_of
nine s = (omega arith, omega arith, (s, refl))

-- one fault is one refusal
fault_same : {B : Type 0} {r q : Refusal} → ◌≡◌ {A = Found B} (fault r) (fault q) → r ≡ q
fault_same h = cc

-- a fault of two walks in a row
pub by_then : {A B : Type 0} (f : Found A) (k : A → List ℕ → Found B) {q : Refusal} (Q : Type 0) → and_then f k ≡ fault q → (f ≡ fault q → Q)
    → ((a : A) (seen : List ℕ) → f ≡ fine a seen → k a seen ≡ fault q → Q) → Q
unfolding and_then
by_then (fault r) k Q h x y = x (ap fault (fault_same h))
by_then (fine a seen) k Q h x y = y a seen refl h

-- of a check and a walk
by_passing : {A : Type 0} (c : Checked) (f : Found A) {q : Refusal} (Q : Type 0) → passing c f ≡ fault q → (c ≡ Err q → Q) → (f ≡ fault q → Q) → Q
unfolding passing
by_passing (Ok tt) f Q h x y = y h
by_passing (Err r) f Q h x y = x (ap Err (fault_same h))

-- of two checks in a row
by_first : (c next : Checked) {q : Refusal} (Q : Type 0) → first c next ≡ Err q → (c ≡ Err q → Q) → (next ≡ Err q → Q) → Q
unfolding first
by_first (Ok tt) next Q h x y = y h
by_first (Err r) next Q h x y = x h

module _ (e : Edition) (N : ℕ) (P R : List ℕ) where
  -- check 1
  link_numbered : (seen : List ℕ) (role : Role) (s : ℕ) (q : Refusal) → link_check N R seen role s ≡ Err q → OfWalk q
  unfolding link_check
  link_numbered seen Root s q h = passed_faultless h
  link_numbered seen (Child p) s q h = ⊎_elim (λ x. rw x (eight p)) (λ x. rw x (nine s)) (link_fault N R seen p s q h)

  -- one visit
  one_numbered : (h : ℕ) (role : Role) (edge : Bool) (seen : List ℕ) (s : ℕ) (q : Refusal) → one_visit e N P R h role edge seen s ≡ fault q → OfWalk q
  unfolding one_visit
  one_numbered h role edge seen s q v =
      by_passing (link_check N R seen role s) _ (OfWalk q) v (link_numbered seen role s q)
      (λ w. by_passing (block_check e h (is_root role) edge (recorded R s) s (block e P s)) _ (OfWalk q) w
      (λ c. let f = block_fault e h (is_root role) edge (recorded R s) s (block e P s) q c in (f.0, omega arith, (s, f.2)))
      (λ z. fault_not_fine (sym z)))

  -- a row, if its visits are
  row_numbered : {A : Type 0} (go : Role → Bool → List ℕ → ℕ → Found A)
      → ((role : Role) (edge : Bool) (seen : List ℕ) (s : ℕ) (q : Refusal) → go role edge seen s ≡ fault q → OfWalk q)
      → (p : ℕ) (edge : Bool) (cs seen : List ℕ) (q : Refusal) → visit_row e N P R go p edge cs seen ≡ fault q → OfWalk q
  unfolding visit_row
  row_numbered go each p edge [] seen q v = fault_not_fine (sym v)
  row_numbered go each p edge (c ∷ cs) seen q v =
      by_then (go (Child p) (both edge (is_empty cs)) seen c) _ (OfWalk q) v (each (Child p) (both edge (is_empty cs)) seen c q)
      (λ t mid o w. by_then (visit_row e N P R go p edge cs mid) _ (OfWalk q) w (row_numbered go each p edge cs mid q) (λ ts s o z. fault_not_fine (sym z)))

  -- a visit
  visit_numbered : (h : ℕ) (role : Role) (edge : Bool) (seen : List ℕ) (s : ℕ) (q : Refusal) → visit e N P R h role edge seen s ≡ fault q → OfWalk q
  unfolding visit
  visit_numbered zero role edge seen s q v =
      by_then (one_visit e N P R zero role edge seen s) _ (OfWalk q) v (one_numbered zero role edge seen s q) (λ b mid o z. fault_not_fine (sym z))
  visit_numbered (suc h) role edge seen s q v =
      by_then (one_visit e N P R (suc h) role edge seen s) _ (OfWalk q) v (one_numbered (suc h) role edge seen s q)
      (λ b mid o w. by_then (visit_row e N P R (visit e N P R h) s edge (children_of b) mid) _ (OfWalk q) w
      (row_numbered (visit e N P R h) (visit_numbered h) s edge (children_of b) mid q) (λ ts end o z. fault_not_fine (sym z)))

  -- a walk from a root
  root_numbered : (seen : List ℕ) (r : ℕ) (q : Refusal) → from_root e N P R seen r ≡ fault q → OfWalk q
  unfolding from_root
  root_numbered seen r q v =
      by_then (visit e N P R (min (height_of (block e P r)) e.top) Root true seen r) _ (OfWalk q) v
      (visit_numbered (min (height_of (block e P r)) e.top) Root true seen r q) (λ t mid o z. fault_not_fine (sym z))

  -- the blob check
  pub blob_numbered : (r : ℕ) (q : Refusal) → blob_check e N P R r ≡ fault q → OfWalk q
  unfolding blob_check
  blob_numbered r q v = root_numbered (replicate N 0) r q v

  -- the walks from all roots
  roots_numbered : (ss seen : List ℕ) (q : Refusal) → roots e N P R ss seen ≡ fault q → OfWalk q
  unfolding roots pick
  roots_numbered [] seen q v = fault_not_fine (sym v)
  roots_numbered (s ∷ ss) seen q v =
      by_test (eqb (state R s) 2)
      (λ t. by_then (from_root e N P R seen s) _ (OfWalk q) (rw t at v) (root_numbered seen s q)
      (λ b mid o w. by_then (roots e N P R ss mid) _ (OfWalk q) w (roots_numbered ss mid q) (λ bs end o z. fault_not_fine (sym z))))
      (λ t. roots_numbered ss seen q (rw t at v))

  -- the closing pass, at one slot
  closing_numbered : (seen : List ℕ) (s : ℕ) (q : Refusal) → closing_check e N P R seen s ≡ Err q → OfWalk q
  unfolding closing_check
  closing_numbered seen s q c =
      must_faulty OfWalk _ (at Reintroduced s) _ q c (λ t. nine s)
      (λ t d. must_faulty OfWalk _ (at WrongShape s) (Ok tt) q d (λ u. eight s) (λ u. passed_faultless))

  -- and through all
  all_numbered : (ss seen : List ℕ) (q : Refusal) → closing e N P R ss seen ≡ Err q → OfWalk q
  unfolding closing
  all_numbered [] seen q c = passed_faultless c
  all_numbered (s ∷ ss) seen q c =
      by_first (closing_check e N P R seen s) (closing e N P R ss seen) (OfWalk q) c (closing_numbered seen s q) (all_numbered ss seen q)

  -- the pool check
  pub pool_numbered : (q : Refusal) → pool_check e N P R ≡ fault q → OfWalk q
  unfolding pool_check
  pool_numbered q v =
      by_then (roots e N P R (range 0 N) (replicate N 0)) _ (OfWalk q) v (roots_numbered (range 0 N) (replicate N 0) q)
      (λ bs seen o w. by_passing (closing e N P R (range 0 N) seen) _ (OfWalk q) w (all_numbered (range 0 N) seen q) (λ z. fault_not_fine (sym z)))
