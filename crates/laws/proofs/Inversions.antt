-- What a passed check says. A check is a chain of tests, so it passes exactly if each of its tests holds: from the one answer come
-- the facts, each under its own name, and from all the facts the answer. What a fault says is its number and the slot that it names.
use Rattle.std.specs.Prelude.{Option, Some, None, Ok, Err}
use mathlib.Core.Path.{◌≡◌, refl, ap, ap₂, ◌∙◌, sym, subst}
use mathlib.Core.Logic.{◌⊎◌, inl, inr}
use mathlib.Core.Bool.{Bool, true, false, not}
use mathlib.Core.List.{List, [], ◌∷◌}
use Prim.Native.Nat.{ℕ, zero, suc, ◌+◌, ◌≤◌, ◌<◌}
use native.Mathlib.Omega.{arith}
use borrow.Author.Tests.{eqb-true, eqb-false, eq-eqb, ne_eqb, leb-true, le-leb, ltb-true, ltb-false, lt-ltb, le-ltb}
use lib.Dec.{eqb, leb, ltb}
use lib.ListN.{length, get_or, take, drop, replicate, set}
use Rattle.meaning.specs.declared.Reason.{Reason}
use Rattle.meaning.specs.declared.Reason.TheVariants.{Spoiled, Moved, RolledBack, Ahead, WrongShape, Reintroduced}
use Rattle.meaning.specs.declared.Edition.{Edition}
use Rattle.meaning.specs.declared.Refusal.{Refusal}
use Rattle.meaning.specs.declared.Role.{Role}
use Rattle.meaning.specs.declared.Role.TheVariants.{Child}
use Rattle.meaning.specs.Lists.{pick, both, all, zeros, same_list}
use Rattle.meaning.specs.Bytes.{block, height_of, count_of, own_slot, version_of, state_of, recorded_of, state, recorded, sound_record}
use Rattle.meaning.specs.Shape.{least_count, most_count}
use Rattle.meaning.specs.Refusals.{number_of, refusal_of, at, must, first, unless, Checked}
use Rattle.meaning.specs.Walk.{flaw, used, formed, block_check, is_root, link_check, Found, fault, fine, and_then, passing, one_visit}

-- from a test that is both true and false, anything
pub never {ℓ} : {A : Type ℓ} → true ≡ false → A
never e = let z : ◌≡◌ {A = ℕ} 0 1 = cc in absurd (omega arith)

-- from a check that both passed and found a fault, anything
pub passed_faultless {ℓ} : {A : Type ℓ} {r : Refusal} → ◌≡◌ {A = Checked} (Ok tt) (Err r) → A
passed_faultless h = let z : ◌≡◌ {A = ℕ} 0 1 = cc in absurd (omega arith)

-- from something wrong that is nothing, anything
pub some_not_none {ℓ} : {A : Type ℓ} {why : Reason} → ◌≡◌ {A = Option Reason} (Some why) None → A
some_not_none h = let z : ◌≡◌ {A = ℕ} 0 1 = cc in absurd (omega arith)

-- from a walk that both met a fault and went well, anything
pub fault_not_fine {ℓ} : {B : Type ℓ} {A : Type 0} {r : Refusal} {a : A} {seen : List ℕ} → fault r ≡ fine a seen → B
fault_not_fine h = let z : ◌≡◌ {A = ℕ} 0 1 = cc in absurd (omega arith)

-- a test is true or false, with its equation
pub by_test {ℓ} : {A : Type ℓ} (t : Bool) → (t ≡ true → A) → (t ≡ false → A) → A
by_test true f g = f refl
by_test false f g = g refl

-- if both tests hold, each does
pub both_true : (a b : Bool) → both a b ≡ true → (a ≡ true) × (b ≡ true)
unfolding both
both_true true b h = (refl, h)
both_true false b h = never (sym h)

-- if each test holds, both do
pub true_both : (a b : Bool) → a ≡ true → b ≡ true → both a b ≡ true
unfolding both
true_both a b p q = rw (p, q)

-- if the second does not, both do not
pub both_false : (a : Bool) → both a false ≡ false
unfolding both
both_false true = refl
both_false false = refl

-- two lists that are found the same are the same
pub same_list_lem : (a b : List ℕ) → same_list a b ≡ true → a ≡ b
unfolding same_list
same_list_lem [] [] h = refl
same_list_lem [] (y ∷ b) h = never (sym h)
same_list_lem (x ∷ a) [] h = never (sym h)
same_list_lem (x ∷ a) (y ∷ b) h =
    let t = both_true (eqb x y) (same_list a b) h in
    ap₂ ◌∷◌ (eqb-true x y t.0) (same_list_lem a b t.1)

-- a list is found the same as itself
pub same_self : (l : List ℕ) → same_list l l ≡ true
unfolding same_list
same_self [] = refl
same_self (x ∷ l) = true_both (eqb x x) (same_list l l) (eq-eqb x x refl) (same_self l)

-- a list all of whose elements are zero is as many zeros as it is long
pub zeros_list : (l : List ℕ) → zeros l ≡ true → l ≡ replicate (length l) 0
unfolding zeros all
zeros_list [] h = refl
zeros_list (x ∷ l) h =
    let t = both_true (eqb x 0) (zeros l) h in
    ap₂ ◌∷◌ (eqb-true x 0 t.0) (zeros_list l t.1)

-- all elements of a list of zeros are zero
pub list_zeros : (n : ℕ) → zeros (replicate n 0) ≡ true
unfolding zeros all both
list_zeros zero = refl
list_zeros (suc n) = list_zeros n

-- a check that must hold, then the next one: if that passed, the check holds and the next one passed
pub must_passed : (t : Bool) (r : Refusal) (next : Checked) → must t r next ≡ Ok tt → (t ≡ true) × (next ≡ Ok tt)
unfolding must
must_passed true r next h = (refl, h)
must_passed false r next h = passed_faultless (sym h)

-- if the check holds and the next one passed, so did both in a row
pub passed_must : (t : Bool) (r : Refusal) (next : Checked) → t ≡ true → next ≡ Ok tt → must t r next ≡ Ok tt
unfolding must
passed_must t r next p q = rw (p, q)

-- what holds of this check's own refusal and of the next one's fault holds of the fault
pub must_faulty : (Q : Refusal → Type 0) (t : Bool) (r : Refusal) (next : Checked) (q : Refusal) → must t r next ≡ Err q
    → (t ≡ false → Q r) → (t ≡ true → next ≡ Err q → Q q) → Q q
unfolding must
must_faulty Q true r next q h f g = g refl h
must_faulty Q false r next q h f g = let e : r ≡ q = cc in subst Q e (f refl)

-- nothing is wrong with the slot, then the next check: if that passed, nothing is wrong and the next one passed
pub unless_passed : (x : Option Reason) (s : ℕ) (next : Checked) → unless x s next ≡ Ok tt → (x ≡ None) × (next ≡ Ok tt)
unfolding unless
unless_passed None s next h = (refl, h)
unless_passed (Some why) s next h = passed_faultless (sym h)

-- if nothing is wrong and the next check passed, so did both in a row
pub passed_unless : (x : Option Reason) (s : ℕ) (next : Checked) → x ≡ None → next ≡ Ok tt → unless x s next ≡ Ok tt
unfolding unless
passed_unless x s next p q = rw (p, q)

-- what holds of the refusal by what is wrong, and of the next one's fault, holds of the fault
pub unless_faulty : (Q : Refusal → Type 0) (x : Option Reason) (s : ℕ) (next : Checked) (q : Refusal) → unless x s next ≡ Err q
    → ((why : Reason) → x ≡ Some why → Q (at why s)) → (x ≡ None → next ≡ Err q → Q q) → Q q
unfolding unless
unless_faulty Q None s next q h f g = g refl h
unless_faulty Q (Some why) s next q h f g = let e : at why s ≡ q = cc in subst Q e (f why refl)

-- two checks in a row that passed: each passed
pub first_passed : (c next : Checked) → first c next ≡ Ok tt → (c ≡ Ok tt) × (next ≡ Ok tt)
unfolding first
first_passed (Ok tt) next h = (refl, h)
first_passed (Err r) next h = passed_faultless (sym h)

-- two checks that passed, in a row
pub passed_first : (c next : Checked) → c ≡ Ok tt → next ≡ Ok tt → first c next ≡ Ok tt
unfolding first
passed_first c next p q = rw (p, q)

-- a walk that goes well behind a check: the check passed, and the walk went well
pub passing_fine : {A : Type 0} (c : Checked) (f : Found A) {a : A} {seen : List ℕ} → passing c f ≡ fine a seen
    → (c ≡ Ok tt) × (f ≡ fine a seen)
unfolding passing
passing_fine (Ok tt) f h = (refl, h)
passing_fine (Err r) f h = fault_not_fine h

-- behind a check that passed, a walk is the walk
pub passed_passing : {A : Type 0} (c : Checked) (f : Found A) → c ≡ Ok tt → passing c f ≡ f
unfolding passing
passed_passing c f p = rw p

-- a walk that goes well after a walk: the first went well, and the second did from where that one ended
pub and_then_fine : {A B : Type 0} (f : Found A) (k : A → List ℕ → Found B) {b : B} {seen : List ℕ} → and_then f k ≡ fine b seen
    → (a : A) × (mid : List ℕ) × (f ≡ fine a mid) × (k a mid ≡ fine b seen)
unfolding and_then
and_then_fine (fault r) k h = fault_not_fine h
and_then_fine (fine a mid) k h = (a, mid, refl, h)

-- after a walk that went well, the next one goes on from where it ended
pub fine_and_then : {A B : Type 0} (f : Found A) (k : A → List ℕ → Found B) (a : A) (mid : List ℕ) → f ≡ fine a mid → and_then f k ≡ k a mid
unfolding and_then
fine_and_then f k a mid p = rw p

-- two walks that went well alike found the same
pub fine_same : {A : Type 0} {a b : A} {x y : List ℕ} → fine a x ≡ fine b y → (a ≡ b) × (x ≡ y)
fine_same h = (cc, cc)

-- a walk whose value is only turned into another
pub and_then_turned : {A B : Type 0} (f : Found A) (k : A → B) {b : B} {seen : List ℕ} → and_then f (λ a seen'. fine (k a) seen') ≡ fine b seen
    → (a : A) × (f ≡ fine a seen) × (k a ≡ b)
unfolding and_then
and_then_turned (fault r) k h = fault_not_fine h
and_then_turned (fine a mid) k h = (a, ap (fine a) (fine_same h).1, (fine_same h).0)

-- two walks in a row whose values are put together
pub and_then_joined : {A B C : Type 0} (f : Found A) (g : A → List ℕ → Found B) (k : A → B → C) {c : C} {seen : List ℕ}
    → and_then f (λ a seen'. and_then (g a seen') (λ b seen''. fine (k a b) seen'')) ≡ fine c seen
    → (a : A) × (mid : List ℕ) × (b : B) × (f ≡ fine a mid) × (g a mid ≡ fine b seen) × (k a b ≡ c)
unfolding and_then
and_then_joined (fault r) g k h = fault_not_fine h
and_then_joined (fine a mid) g k h = let (b, o, q) = and_then_turned (g a mid) (k a) h in (a, mid, b, refl, o, q)

-- what a block that passes checks 2 and 3 is
pub record Sound (e : Edition) (h : ℕ) (root edge : Bool) (v s : ℕ) (b : List ℕ) : Type 0 where
  pub mark : same_list (take 2 b) e.mark ≡ true
  pub own : own_slot b ≡ s
  pub version : version_of b ≡ v
  pub height : height_of b ≡ h
  pub least : least_count e h edge root ≤ count_of b
  pub most : count_of b ≤ most_count e h
  pub rest : zeros (drop (16 + used h (count_of b)) (take (16 + e.leaf) b)) ≡ true

-- check 2
module _ (e : Edition) (v s : ℕ) (b : List ℕ) where
  -- by its first two tests
  flawless_when : (m o : Bool) → same_list (take 2 b) e.mark ≡ m → eqb (own_slot b) s ≡ o → flaw e v s b ≡ None
      → (m ≡ true) × (o ≡ true) × (version_of b ≡ v)
  unfolding flaw pick
  flawless_when false o em eo h = let z = simp (em, eo) at h in some_not_none z
  flawless_when true false em eo h = let z = simp (em, eo) at h in some_not_none z
  flawless_when true true em eo h =
      by_test (ltb (version_of b) v)
      (λ t. let z = simp (em, eo, t) at h in some_not_none z)
      (λ t. by_test (ltb v (version_of b))
      (λ u. let z = simp (em, eo, t, u) at h in some_not_none z)
      (λ u. (refl, refl, omega (arith, ltb-false (version_of b) v t, ltb-false v (version_of b) u))))

  -- if it finds no flaw, then mark, slot and version are right
  pub flawless : flaw e v s b ≡ None → (same_list (take 2 b) e.mark ≡ true) × (own_slot b ≡ s) × (version_of b ≡ v)
  flawless h =
      let f = flawless_when (same_list (take 2 b) e.mark) (eqb (own_slot b) s) refl refl h in
      (f.0, eqb-true (own_slot b) s f.1, f.2)

  -- if they are right, it finds no flaw
  pub no_flaw : same_list (take 2 b) e.mark ≡ true → own_slot b ≡ s → version_of b ≡ v → flaw e v s b ≡ None
  unfolding flaw pick
  no_flaw m o w = simp (m, eq-eqb (own_slot b) s o, le-ltb (version_of b) v (omega arith), le-ltb v (version_of b) (omega arith))

  -- a flaw has a number from 4 to 7
  pub flaw_number : (why : Reason) → flaw e v s b ≡ Some why → (4 ≤ number_of why) × (number_of why ≤ 7)
  unfolding flaw pick number_of
  flaw_number why h =
      by_test (same_list (take 2 b) e.mark)
      (λ m. by_test (eqb (own_slot b) s)
      (λ o. by_test (ltb (version_of b) v)
      (λ t. is_one RolledBack why (simp (m, o, t) at h) (omega arith) (omega arith))
      (λ t. by_test (ltb v (version_of b))
      (λ u. is_one Ahead why (simp (m, o, t, u) at h) (omega arith) (omega arith))
      (λ u. some_not_none (sym (simp (m, o, t, u) at h)))))
      (λ o. is_one Moved why (simp (m, o) at h) (omega arith) (omega arith)))
      (λ m. is_one Spoiled why (simp m at h) (omega arith) (omega arith))
    where
      is_one : (a b : Reason) → ◌≡◌ {A = Option Reason} (Some a) (Some b) → 4 ≤ number_of a → number_of a ≤ 7 → (4 ≤ number_of b) × (number_of b ≤ 7)
      is_one a b q l m = let e : a ≡ b = cc in rw (← e) (l, m)

-- checks 2 and 3
module _ (e : Edition) (h : ℕ) (root edge : Bool) (v s : ℕ) (b : List ℕ) where
  -- a block that passes is sound
  pub passed_sound : block_check e h root edge v s b ≡ Ok tt → Sound e h root edge v s b
  unfolding block_check formed
  passed_sound c =
      let t = unless_passed (flaw e v s b) s (must (formed e h root edge b) (at WrongShape s) (Ok tt)) c in
      let u = must_passed (formed e h root edge b) (at WrongShape s) (Ok tt) t.1 in
      let f = flawless e v s b t.0 in
      let x = both_true (eqb (height_of b) h) _ u.0 in
      let y = both_true (leb (least_count e h edge root) (count_of b)) _ x.1 in
      let z = both_true (leb (count_of b) (most_count e h)) _ y.1 in
      record {
        mark = f.0;
        own = f.1;
        version = f.2;
        height = eqb-true (height_of b) h x.0;
        least = leb-true (least_count e h edge root) (count_of b) y.0;
        most = leb-true (count_of b) (most_count e h) z.0;
        rest = z.1;
      }

  -- a sound block passes
  pub sound_passed : Sound e h root edge v s b → block_check e h root edge v s b ≡ Ok tt
  unfolding block_check formed
  sound_passed f =
      let g : formed e h root edge b ≡ true =
      true_both (eqb (height_of b) h) _ (eq-eqb (height_of b) h f.height)
      (true_both (leb (least_count e h edge root) (count_of b)) _ (le-leb (least_count e h edge root) (count_of b) f.least)
      (true_both (leb (count_of b) (most_count e h)) _ (le-leb (count_of b) (most_count e h) f.most) f.rest)) in
      passed_unless _ s _ (no_flaw e v s b f.mark f.own f.version) (passed_must _ (at WrongShape s) (Ok tt) g refl)

  -- a fault has a number from 4 to 8, and names the visited slot
  pub block_fault : (r : Refusal) → block_check e h root edge v s b ≡ Err r → (4 ≤ number_of r.reason) × (number_of r.reason ≤ 8) × (r.named ≡ Some s)
  unfolding block_check at refusal_of number_of
  block_fault r c =
      unless_faulty Named (flaw e v s b) s (must (formed e h root edge b) (at WrongShape s) (Ok tt)) r c
      (λ why t. let f = flaw_number e v s b why t in (f.0, omega (arith, f.1), refl))
      (λ t d. must_faulty Named (formed e h root edge b) (at WrongShape s) (Ok tt) r d (λ u. (omega arith, omega arith, refl)) (λ u. passed_faultless))
    where
      Named : Refusal → Type 0
      Named q = (4 ≤ number_of q.reason) × (number_of q.reason ≤ 8) × (q.named ≡ Some s)

-- what a child slot that passes check 1 is: in the pool, a part, and not yet visited
pub record Linked (N : ℕ) (R seen : List ℕ) (s : ℕ) : Type 0 where
  pub within : s < N
  pub part : state R s ≡ 1
  pub unseen : get_or seen s 0 ≡ 0

-- check 1, of a child slot
module _ (N : ℕ) (R seen : List ℕ) (p s : ℕ) where
  -- a slot that passes is linked
  pub passed_linked : link_check N R seen (Child p) s ≡ Ok tt → Linked N R seen s
  unfolding link_check
  passed_linked c =
      let t = must_passed (both (ltb s N) (both (not (eqb (state R s) 2)) (eqb (get_or seen s 0) 0))) (at WrongShape p) _ c in
      let u = must_passed (eqb (state R s) 1) (at Reintroduced s) (Ok tt) t.1 in
      let x = both_true (ltb s N) _ t.0 in
      let y = both_true (not (eqb (state R s) 2)) _ x.1 in
      record { within = ltb-true s N x.0; part = eqb-true (state R s) 1 u.0; unseen = eqb-true (get_or seen s 0) 0 y.1 }

  -- a linked slot passes
  pub linked_passed : Linked N R seen s → link_check N R seen (Child p) s ≡ Ok tt
  unfolding link_check both must
  linked_passed l =
      let n : eqb (state R s) 2 ≡ false = ne_eqb (state R s) 2 (omega arith) in
      simp (lt-ltb s N l.within, eq-eqb (get_or seen s 0) 0 l.unseen, n, eq-eqb (state R s) 1 l.part)

  -- a fault is 8, naming the parent, or 9, naming the child
  pub link_fault : (r : Refusal) → link_check N R seen (Child p) s ≡ Err r → (r ≡ at WrongShape p) ⊎ (r ≡ at Reintroduced s)
  unfolding link_check
  link_fault r c =
      must_faulty Either (both (ltb s N) (both (not (eqb (state R s) 2)) (eqb (get_or seen s 0) 0))) (at WrongShape p) _ r c
      (λ t. inl refl)
      (λ t d. must_faulty Either (eqb (state R s) 1) (at Reintroduced s) (Ok tt) r d (λ u. inr refl) (λ u. passed_faultless))
    where
      Either : Refusal → Type 0
      Either q = (q ≡ at WrongShape p) ⊎ (q ≡ at Reintroduced s)

-- what one visit that goes well did: both checks passed, it gives the slot's block, and the slot counts as visited
pub record Visited (e : Edition) (N : ℕ) (P R : List ℕ) (h : ℕ) (role : Role) (edge : Bool) (seen : List ℕ) (s : ℕ) (b seen' : List ℕ) : Type 0 where
  pub link : link_check N R seen role s ≡ Ok tt
  pub sound : block_check e h (is_root role) edge (recorded R s) s (block e P s) ≡ Ok tt
  pub bytes : b ≡ block e P s
  pub flags : seen' ≡ set seen s 1

-- one visit
module _ (e : Edition) (N : ℕ) (P R : List ℕ) (h : ℕ) (role : Role) (edge : Bool) (seen : List ℕ) (s : ℕ) where
  -- if it goes well, it did all that
  pub fine_visited : {b seen' : List ℕ} → one_visit e N P R h role edge seen s ≡ fine b seen' → Visited e N P R h role edge seen s b seen'
  unfolding one_visit
  fine_visited o =
      let t = passing_fine (link_check N R seen role s) _ o in
      let u = passing_fine (block_check e h (is_root role) edge (recorded R s) s (block e P s)) _ t.1 in
      let q = fine_same u.1 in
      record { link = t.0; sound = u.0; bytes = sym q.0; flags = sym q.1 }

  -- if both checks pass, it goes well
  pub visited_fine : link_check N R seen role s ≡ Ok tt → block_check e h (is_root role) edge (recorded R s) s (block e P s) ≡ Ok tt
      → one_visit e N P R h role edge seen s ≡ fine (block e P s) (set seen s 1)
  unfolding one_visit
  visited_fine l c =
      passed_passing (link_check N R seen role s) _ l ∙ passed_passing (block_check e h (is_root role) edge (recorded R s) s (block e P s)) _ c

-- what a record that keeps its layout is
pub record SoundRecord (r : List ℕ) : Type 0 where
  pub mark : take 2 r ≡ 0x52 ∷ 0x31 ∷ []
  pub state : state_of r ≤ 2
  pub fourth : get_or r 3 0 ≡ 0
  pub live : (state_of r ≡ 0 → ⊥) → 1 ≤ recorded_of r

-- a record that is found sound keeps its layout
pub sound_record_lem : (r : List ℕ) → sound_record r ≡ true → SoundRecord r
unfolding sound_record pick
sound_record_lem r h =
    let x = both_true (same_list (take 2 r) (0x52 ∷ 0x31 ∷ [])) _ h in
    let y = both_true (leb (state_of r) 2) _ x.1 in
    let z = both_true (eqb (get_or r 3 0) 0) _ y.1 in
    record {
      mark = same_list_lem (take 2 r) (0x52 ∷ 0x31 ∷ []) x.0;
      state = leb-true (state_of r) 2 y.0;
      fourth = eqb-true (get_or r 3 0) 0 z.0;
      live = λ n. leb-true 1 (recorded_of r) (rw (ne_eqb (state_of r) 0 n) at z.1);
    }

-- a record that keeps its layout is found sound
pub record_sound : (r : List ℕ) → SoundRecord r → sound_record r ≡ true
unfolding sound_record pick
record_sound r f =
    true_both (same_list (take 2 r) (0x52 ∷ 0x31 ∷ [])) _ (rw f.mark (same_self (0x52 ∷ 0x31 ∷ [])))
    (true_both (leb (state_of r) 2) _ (le-leb (state_of r) 2 f.state)
    (true_both (eqb (get_or r 3 0) 0) _ (eq-eqb (get_or r 3 0) 0 f.fourth)
    (by_test (eqb (state_of r) 0) (λ t. rw t) (λ t. rw t (le-leb 1 (recorded_of r) (f.live (eqb-false (state_of r) 0 t)))))))
