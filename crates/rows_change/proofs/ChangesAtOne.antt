-- The changing calls of any edition, at edition one: what they are lent, and their contracts.
use Rattle.std.specs.Prelude.{Result}
use mathlib.Core.Path.{◌≡◌, sym, subst}
use mathlib.Core.List.{List}
use Prim.Native.Nat.{ℕ, ◌+◌, ◌≤◌}
use lib.ListN.{length, replicate}
use Rattle.meaning.specs.declared.Refusal.{Refusal}
use Rattle.meaning.specs.Edition.{one}
use Rattle.meaning.specs.Calls.{slots_in, create_call, write_call, resize_call, delete_call}
use Rattle.meaning.specs.Answers.{answer_of, Ends}
use Rattle.meaning.specs.declared.Edition.{Edition}
use Rattle.check_survey.specs.Reached.{Rows}
use Rattle.call_resize.specs.fit.Found.{Drafts}
use Rattle.rows_size.proofs.EnoughPlaces.{clear_row, long_row}

-- rows of m places suffice for a pool of at most m slots
pub long_rows : (P : List ℕ) (m : ℕ) → slots_in one P ≤ m → (row firsts : List ℕ) → length row ≡ m → length firsts ≡ m
    → Rows one P (replicate m 0) row (replicate m 0) firsts
long_rows P m few row firsts lr lf =
    record { unseen = clear_row P m few; rows = long_row P m few row lr; flat = clear_row P m few; begins = long_row P m few firsts lf }

module _ (e : Edition) (ee : e ≡ one) where
  pub rows_here : (P seen row hs fs : List ℕ) → Rows one P seen row hs fs → Rows e P seen row hs fs
  rows_here P seen row hs fs h = subst (λ (x : Edition). Rows x P seen row hs fs) (sym ee) h

  pub drafts_here : (kept payload scratch : List ℕ) → length kept ≡ 64 → length payload ≡ 48 → length scratch ≡ 64 → Drafts e kept payload scratch
  unfolding one
  drafts_here kept payload scratch lk lp ls = rw ee (record { copy = lk; part = lp; whole = ls })

  -- header and payload fill a block
  pub filled_here : e.size ≡ 16 + e.leaf
  unfolding one
  filled_here = rw ee

  pub resize_one : (P R : List ℕ) (r len : ℕ) (a : Result (Unit {0}) Refusal) (P' R' : List ℕ) → Ends e answer_of (resize_call e P R r len) P R a P' R'
      → Ends one answer_of (resize_call one P R r len) P R a P' R'
  resize_one P R r len a P' R' h = subst (λ (y : Edition). Ends y answer_of (resize_call y P R r len) P R a P' R') ee h

  module _ (P R : List ℕ) where
    pub create_one : (a : Result ℕ Refusal) (P' R' : List ℕ) → Ends e answer_of (create_call e P R) P R a P' R'
        → Ends one answer_of (create_call one P R) P R a P' R'
    create_one a P' R' h = subst (λ (y : Edition). Ends y answer_of (create_call y P R) P R a P' R') ee h

    pub delete_one : (r : ℕ) (a : Result (Unit {0}) Refusal) (P' R' : List ℕ) → Ends e answer_of (delete_call e P R r) P R a P' R'
        → Ends one answer_of (delete_call one P R r) P R a P' R'
    delete_one r a P' R' h = subst (λ (y : Edition). Ends y answer_of (delete_call y P R r) P R a P' R') ee h

    pub write_one : (r offset : ℕ) (d : List ℕ) (a : Result (Unit {0}) Refusal) (P' R' : List ℕ) → Ends e answer_of (write_call e P R r offset d) P R a P' R'
        → Ends one answer_of (write_call one P R r offset d) P R a P' R'
    write_one r offset d a P' R' h = subst (λ (y : Edition). Ends y answer_of (write_call y P R r offset d) P R a P' R') ee h

    pub resize_here : (r len : ℕ) (a : Result (Unit {0}) Refusal) (P' R' : List ℕ) → Ends e answer_of (resize_call e P R r len) P R a P' R'
        → Ends one answer_of (resize_call one P R r len) P R a P' R'
    resize_here = resize_one P R
