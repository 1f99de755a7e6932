-- One visit in code: an equation for each way out of check 1, and for each way out of the visit.
use Rattle.std.specs.Prelude.{Err, Ok}
use mathlib.Core.Path.{◌≡◌, ◌∙◌, sym}
use mathlib.Core.Bool.{Bool, true}
use mathlib.Core.List.{List}
use Prim.Native.Nat.{ℕ, ◌+◌, ◌*◌, ◌≤◌, ◌<◌}
use native.Mathlib.Nat.{mul-le-mul_left}
use native.Mathlib.Omega.{arith}
use borrow.Author.Tests.{eq-eqb, ne_eqb, lt-ltb, le-ltb}
use lib.ListN.{length, get_or, set}
use Rattle.meaning.specs.declared.Reason.TheVariants.{Reintroduced, WrongShape}
use Rattle.meaning.specs.Lists.{both, part, number}
use Rattle.meaning.specs.Bytes.{block, record_at, state_of, recorded_of, state, recorded}
use Rattle.meaning.specs.Refusals.{at, must, Checked}
use Rattle.meaning.specs.Walk.{Found, passing, block_check, is_root, link_check, one_visit}
use Rattle.meaning.specs.declared.Edition.{Edition}
use Rattle.meaning.specs.declared.Refusal.{Refusal}
use Rattle.meaning.specs.declared.Role.{Role}
use Rattle.meaning.specs.declared.Role.TheVariants.{Root, Child}
use Rattle.laws.proofs.Inversions.{passed_linked}
use Rattle.laws.proofs.Codec.{state_is}
use Rattle.check_blob.specs.visit.{Sized, Within, met, marked}

-- check 1, as far as the code has come: rb is the slot's record, st its state
module _ (N : ℕ) (R seen : List ℕ) (role : Role) (s : ℕ) where
  pub link_root : role ≡ Root → Ok tt ≡ link_check N R seen role s
  unfolding link_check
  link_root e = rw e

  module _ (p : ℕ) (ep : role ≡ Child p) where
    pub link_past : N ≤ s → (r : Refusal) → r ≡ at WrongShape p → Err r ≡ link_check N R seen role s
    unfolding link_check must both
    link_past l r er = rw (ep, er) (simp (le-ltb s N l))

    module _ (l : s < N) (rb : List ℕ) (eb : rb ≡ record_at R s) (st : ℕ) (es : st ≡ state_of rb) where
      of_state : state R s ≡ st
      of_state = sym (state_is R s rb eb st es)

      pub link_state : st ≡ 2 → (r : Refusal) → r ≡ at WrongShape p → Err r ≡ link_check N R seen role s
      unfolding link_check must both
      link_state z r er = rw (ep, er) (simp (lt-ltb s N l, of_state, eq-eqb st 2 z))

      module _ (n : st ≡ 2 → ⊥) where
        pub link_seen : (get_or seen s 0 ≡ 0 → ⊥) → (r : Refusal) → r ≡ at WrongShape p → Err r ≡ link_check N R seen role s
        unfolding link_check must both
        link_seen m r er = rw (ep, er) (simp (lt-ltb s N l, of_state, ne_eqb st 2 n, ne_eqb (get_or seen s 0) 0 m))

        module _ (m : get_or seen s 0 ≡ 0) where
          pub link_free : (st ≡ 1 → ⊥) → (r : Refusal) → r ≡ at Reintroduced s → Err r ≡ link_check N R seen role s
          unfolding link_check must both
          link_free k r er =
              rw (ep, er) (simp (lt-ltb s N l, of_state, ne_eqb st 2 n, eq-eqb (get_or seen s 0) 0 m, ne_eqb st 1 k))

          pub link_good : st ≡ 1 → Ok tt ≡ link_check N R seen role s
          unfolding link_check must both
          link_good k =
              rw ep (simp (lt-ltb s N l, of_state, ne_eqb st 2 n, eq-eqb (get_or seen s 0) 0 m, eq-eqb st 1 k))

-- checks 2 and 3 of a slot are those of its block, with its record's version
pub slot_checked : (e : Edition) (P R : List ℕ) (h : ℕ) (root edge : Bool) (s : ℕ) (rb : List ℕ) → rb ≡ record_at R s
    → (v : ℕ) → v ≡ recorded_of rb → (b : List ℕ) → b ≡ block e P s → (c : Checked) → c ≡ block_check e h root edge v s b
    → c ≡ block_check e h root edge (recorded R s) s (block e P s)
unfolding recorded
slot_checked e P R h root edge s rb er v ev b eb c ec = ec ∙ rw (ev, er, eb)

-- a slot below n lies in a row of n slots of that width
pub slot_fits : (w n s : ℕ) (l : List ℕ) → length l ≡ w * n → s < n → w * s + w ≤ length l
slot_fits w n s l e h =
    let k : w * (s + 1) ≤ w * n = mul-le-mul_left w (omega arith) in
    omega (arith, k)

-- a child's number, in its parent's block
pub child_is : (e : Edition) (P : List ℕ) (s i : ℕ) (b : List ℕ) → b ≡ block e P s → (x : ℕ) → x ≡ number (part i 4 b)
    → x ≡ number (part i 4 (block e P s))
child_is e P s i b eb x ex = ex ∙ rw eb

-- a slot that passes check 1 lies in the pool
pub linked_within : (n : ℕ) (R seen : List ℕ) (role : Role) (s : ℕ) → Within n role s → link_check n R seen role s ≡ Ok tt → s < n
unfolding Within
linked_within n R seen Root s w q = w
linked_within n R seen (Child p) s w q = (passed_linked n R seen p s q).within

-- checks 2 and 3, and the mark: checked is the answer of the checks
module _ (e : Edition) (P R seen : List ℕ) (h : ℕ) (root edge : Bool) (s : ℕ) (checked : Checked)
    (ec : checked ≡ block_check e h root edge (recorded R s) s (block e P s)) where
  pub mark_faulty : (r : Refusal) → checked ≡ Err r → (b seen' : List ℕ) → met checked b seen' ≡ marked e P R h root edge seen s
  unfolding met marked passing
  mark_faulty r er b seen' = rw er (simp (← ec, er))

  pub mark_passed : checked ≡ Ok tt → met (Ok tt) (block e P s) (set seen s 1) ≡ marked e P R h root edge seen s
  unfolding met marked passing
  mark_passed pc = simp (← ec, pc)

-- a root has no check 1
pub root_visited : (e : Edition) (n : ℕ) (P R seen : List ℕ) (h : ℕ) (edge : Bool) (s : ℕ) (x : Found (List ℕ))
    → x ≡ marked e P R h true edge seen s → x ≡ one_visit e n P R h Root edge seen s
unfolding marked one_visit passing link_check is_root
root_visited e n P R seen h edge s x ex = ex

-- one visit: link is the answer of check 1
module _ (e : Edition) (n : ℕ) (P R seen : List ℕ) (h : ℕ) (role : Role) (edge : Bool) (s : ℕ)
    (link : Checked) (el : link ≡ link_check n R seen role s) where
  pub visit_unlinked : (r : Refusal) → link ≡ Err r → (b seen' : List ℕ) → met link b seen' ≡ one_visit e n P R h role edge seen s
  unfolding met one_visit passing
  visit_unlinked r er b seen' = rw er (simp (← el, er))

  module _ (pl : link ≡ Ok tt) where
    -- behind check 1 the slot lies in the pool
    pub visit_within : Within n role s → s < n
    visit_within w = linked_within n R seen role s w (sym el ∙ pl)

    pub visit_in_pool : Sized e n P R seen → Within n role s → e.size * s + e.size ≤ length P
    visit_in_pool z w = slot_fits e.size n s P z.pool (visit_within w)

    pub visit_in_records : Sized e n P R seen → Within n role s → 12 * s + 12 ≤ length R
    visit_in_records z w = slot_fits 12 n s R z.records (visit_within w)

    pub visit_in_flags : Sized e n P R seen → Within n role s → s < length seen
    visit_in_flags z w = omega (arith, visit_within w, z.flags)

    pub visit_linked : (root : Bool) → root ≡ is_root role → (x : Found (List ℕ)) → x ≡ marked e P R h root edge seen s
        → x ≡ one_visit e n P R h role edge seen s
    unfolding marked one_visit passing
    visit_linked root eo x ex = ex ∙ rw eo (simp (← el, pl))
