-- What the audit answers on another pool of the same size, with the same records. It visits every live slot and wants every free one zero,
-- so it passes only where every block is as it was, and then the pools are the same.
use mathlib.Core.Path.{◌≡◌, refl, sym, ap, ap₂, ◌∙◌}
use mathlib.Core.Bool.{true}
use mathlib.Core.List.{List, [], ◌∷◌, ◌++◌}
use Prim.Native.Nat.{ℕ, zero, suc, ◌+◌, ◌*◌, ◌≤◌, ◌<◌}
use native.Mathlib.Omega.{arith}
use borrow.Author.Tests.{eqb-true, eqb-false}
use lib.Dec.{eqb}
use lib.ListN.{length, take, drop, replicate, length-drop, take-append-drop}
use lib.Seq.{drop-drop}
use Rattle.meaning.specs.declared.Edition.{Edition}
use Rattle.meaning.specs.Lists.{part}
use Rattle.meaning.specs.Edition.{Proper}
use Rattle.meaning.specs.Bytes.{block, record_at, state, sound_record}
use Rattle.meaning.specs.Tree.{Blob}
use Rattle.meaning.specs.Walk.{Found, fault, fine, pool_check}
use Rattle.meaning.specs.Change.{Change}
use Rattle.meaning.specs.Calls.{Outcome, done, after_check, opened, live, audit_on, audit_in, audit_call}
use Rattle.laws.proofs.Inversions.{by_test, zeros_list}
use Rattle.laws.proofs.Codec.{state_known}
use Rattle.laws.proofs.Walked.{block_length}
use Rattle.laws_history.proofs.Reached.{pool_reach}
use Rattle.laws_history.proofs.Local.{Same, Told}
use Rattle.laws.proofs.Walked.{slots_in_lem}
use Rattle.laws_history.proofs.Started.{Sized, other_sized}
use Rattle.laws_history.proofs.Answered.{opened_passes}

-- a list is its slots: two lists of N slots each, with the same slots, are the same
pub slots_all : (w N : ℕ) (l l' : List ℕ) → length l ≡ w * N → length l' ≡ w * N → ((x : ℕ) → x < N → part (w * x) w l ≡ part (w * x) w l') → l ≡ l'
unfolding part
slots_all w zero l l' p q f = empty l (omega arith) ∙ sym (empty l' (omega arith))
  where
    empty : (l : List ℕ) → length l ≡ 0 → l ≡ []
    empty [] p = refl
    empty (x ∷ xs) p = absurd (omega arith)
slots_all w (suc N) l l' p q f =
    sym (take-append-drop w l)
    ∙ ap₂ ◌++◌ first
    (slots_all w N (drop w l) (drop w l') (simp length-drop (omega arith)) (simp length-drop (omega arith))
    (λ x h. ap (take w) (further l x) ∙ f (suc x) (omega arith) ∙ ap (take w) (sym (further l' x))))
    ∙ take-append-drop w l'
  where
    whole : (l : List ℕ) → drop (w * 0) l ≡ l
    whole l = let z : w * 0 ≡ 0 = omega arith in rw z

    first : take w l ≡ take w l'
    first = ap (take w) (sym (whole l)) ∙ f 0 (omega arith) ∙ ap (take w) (whole l')

    further : (l : List ℕ) (x : ℕ) → drop (w * x) (drop w l) ≡ drop (w * suc x) l
    further l x = let z : w + w * x ≡ w * suc x = omega arith in drop-drop (w * x) w l ∙ ap (λ (n : ℕ). drop n l) z

-- a call that is done behind a check: the check went well
check_done : {A B : Type 0} (f : Found A) (k : A → Outcome B) {b : B} {cs : List Change} → after_check f k ≡ done b cs
    → (a : A) × (seen : List ℕ) × (f ≡ fine a seen)
unfolding after_check
check_done (fault r) k h = let z : ◌≡◌ {A = ℕ} 0 1 = cc in absurd (omega arith)
check_done (fine a seen) k h = (a, seen, refl)

-- the audit, behind refusals 1 and 2
pub audit_checks : (e : Edition) → Proper e → (N : ℕ) (P R : List ℕ) → Sized e N P R → ((x : ℕ) → x < N → sound_record (record_at R x) ≡ true)
    → audit_call e P R ≡ after_check (pool_check e N P R) (audit_on e N P R)
unfolding audit_call audit_in
audit_checks e p N P R good sound =
    ap (λ (n : ℕ). opened e P R (audit_in e n P R)) (slots_in_lem e p N P good.pool) ∙ opened_passes e p N P R good sound _

-- it passes where the pool check does, and returns the count of live slots
pub audit_passes : (e : Edition) → Proper e → (N : ℕ) (P R : List ℕ) → Sized e N P R → ((x : ℕ) → x < N → sound_record (record_at R x) ≡ true)
    → (bs : List Blob) (seen : List ℕ) → pool_check e N P R ≡ fine bs seen → audit_call e P R ≡ done (length (live e N P R)) []
unfolding after_check audit_on
audit_passes e p N P R good sound bs seen v = audit_checks e p N P R good sound ∙ ap (λ f. after_check f (audit_on e N P R)) v

module _ (e : Edition) (p : Proper e) (N : ℕ) (P P* R : List ℕ) (good : Sized e N P R) (size : length P* ≡ length P)
    (sound : (x : ℕ) → x < N → sound_record (record_at R x) ≡ true)
    (clean : (x : ℕ) → x < N → state R x ≡ 0 → block e P x ≡ replicate e.size 0)
    (told : (x : ℕ) → x < N → 1 ≤ state R x → Told e P P* R x) where
  -- the other pool has good lengths too
  good* : Sized e N P* R
  good* = other_sized e N P P* R good size

  -- a pool check that passes finds every slot as it was
  pool_same : {bs : List Blob} {seen : List ℕ} → pool_check e N P* R ≡ fine bs seen → (x : ℕ) → x < N → Same e P P* x
  pool_same v x h =
      let c = pool_reach e N P* R (Same e P P*) (λ x l z. told x l.0 l.1 z) v in
      let known = state_known R x (sound x h) in
      by_test (eqb (state R x) 0)
      (λ t. let is = eqb-true (state R x) 0 t in
      zeros_list (block e P* x) (c.clean x h is) ∙ ap (λ (n : ℕ). replicate n 0) (block_length e p N P* good*.pool x h) ∙ sym (clean x h is))
      (λ t. let n = eqb-false (state R x) 0 t in
      by_test (eqb (state R x) 1)
      (λ u. c.part x h (eqb-true (state R x) 1 u))
      (λ u. let m = eqb-false (state R x) 1 u in c.root x h (omega arith)))

  -- the audit passes only on the same pool
  pub audit_only : (n : ℕ) (cs : List Change) → audit_call e P* R ≡ done n cs → P* ≡ P
  unfolding block
  audit_only n cs h =
      let (bs, seen, v) = check_done (pool_check e N P* R) (audit_on e N P* R) (sym (audit_checks e p N P* R good* sound) ∙ h) in
      slots_all e.size N P* P good*.pool good.pool (pool_same v)
