-- The blobs that a pool check lists stand: each was found by a walk from a root's record, with as many flags as the pool has slots.
use mathlib.Core.Path.{◌≡◌, sym, ◌∙◌, subst}
use mathlib.Core.Logic.{◌⊎◌, inl, inr}
use mathlib.Core.Bool.{true}
use mathlib.Core.List.Memᴰ
use mathlib.Core.List.{List, [], ◌∷◌, Memᴰ}
use Prim.Native.Nat.{ℕ, zero, suc, ◌+◌, ◌*◌, ◌≤◌, ◌<◌}
use native.Mathlib.Omega.{arith}
use lib.Dec.{eqb}
use lib.ListN.{length, replicate, length-replicate}
use borrow.Author.Tests.{eqb-true}
use Rattle.meaning.specs.declared.Edition.{Edition}
use Rattle.meaning.specs.Lists.{range}
use Rattle.meaning.specs.Edition.{Proper}
use Rattle.meaning.specs.Bytes.{state}
use Rattle.meaning.specs.Tree.{Blob}
use Rattle.meaning.specs.Walk.{fine, from_root, roots, closing, pool_check}
use Rattle.laws.proofs.Inversions.{by_test, and_then_fine, passing_fine, fine_same}
use Rattle.laws.proofs.Marks.{walk_marks}
use Rattle.laws.proofs.Roots.{roots_root, roots_other}
use Rattle.laws.proofs.Every.{Every}
use Rattle.laws_resize.proofs.growth.ResizedBySlot.{Standing, walk_standing}

-- the numbers of a range are below its end
pub range_below : (from n end : ℕ) → from + n ≤ end → Every (λ s. s < end) (range from n)
unfolding range
range_below from zero end fits = tt
range_below from (suc n) end fits = (omega arith, range_below (suc from) n end (omega arith))

module _ (e : Edition) (p : Proper e) (N : ℕ) (P R : List ℕ) (whole : length P ≡ e.size * N) where
  -- a blob that the walks from these slots' records found
  roots_standing : (slots seen : List ℕ) {bs : List Blob} {seen' : List ℕ} → roots e N P R slots seen ≡ fine bs seen' → length seen ≡ N
      → Every (λ s. s < N) slots → (b : Blob) → Memᴰ b bs → Standing e R b
  unfolding roots
  roots_standing [] seen w all below b m = absurd (Memᴰ.not-nil (subst (Memᴰ b) (sym (fine_same w).0) m))
  roots_standing (s ∷ slots) seen {bs} {seen'} w all below b m =
      by_test (eqb (state R s) 2)
      (λ t.
      let (c, mid, cs, o, o', q) = roots_root e N P R s slots seen t w in
      pass c mid cs o (subst (Memᴰ b) (sym q) m) t
      (roots_standing slots mid {bs = cs} {seen' = seen'} o' (walk_marks e N P R seen s o all).0 below.1 b))
      (λ t. roots_standing slots seen (sym (roots_other e N P R s slots seen t) ∙ w) all below.1 b m)
    where
      pass : (c : Blob) (mid : List ℕ) (cs : List Blob) → from_root e N P R seen s ≡ fine c mid → Memᴰ b (c ∷ cs) → eqb (state R s) 2 ≡ true
          → (Memᴰ b cs → Standing e R b) → Standing e R b
      pass c mid cs o i t later = by (Memᴰ.cases_cons i)
        where
          by : (b ≡ c) ⊎ Memᴰ b cs → Standing e R b
          by (inl q) = subst (Standing e R) (sym q) (walk_standing e p N P R whole seen s o all below.0 (eqb-true (state R s) 2 t))
          by (inr j) = later j

  -- a blob that the pool check lists
  pub pool_standing : {bs : List Blob} {seen : List ℕ} → pool_check e N P R ≡ fine bs seen → (b : Blob) → Memᴰ b bs → Standing e R b
  unfolding pool_check
  pool_standing {bs} {seen} w b m =
      let (cs, mid, o, q) = and_then_fine (roots e N P R (range 0 N) (replicate N 0)) _ w in
      let same = fine_same {a = cs} {b = bs} {x = mid} {y = seen} (passing_fine (closing e N P R (range 0 N) mid) (fine cs mid) q).1 in
      roots_standing (range 0 N) (replicate N 0) {bs = cs} {seen' = mid} o (length-replicate N 0) (range_below 0 N N (omega arith)) b
      (subst (Memᴰ b) (sym same.0) m)
