-- A pool's blobs, parted at a slot: those of lower roots, the one of that root if it is one, those of higher roots. So the blob that a call
-- names is found between others of other roots, and a new blob has its place.
use mathlib.Core.Path.{◌≡◌, refl, ap, ap₂, ◌∙◌}
use mathlib.Core.List.{List, [], ◌∷◌, ◌++◌, map}
use Prim.Native.Nat.{ℕ, suc, ◌+◌}
use native.Mathlib.Omega.{arith}
use borrow.Author.Tests.{eq-eqb, ne_eqb}
use Rattle.meaning.specs.Lists.{pick, range, filter}
use Rattle.meaning.specs.Bytes.{state}
use Rattle.meaning.specs.Tree.{Blob, root_of}
use Rattle.meaning.specs.Calls.{Outcome, with_blob}
use Rattle.laws_sound.proofs.sound.TimesListed.{Each, each_first, each_rest, each_filter, range_within}
use Rattle.laws.proofs.Every.{Every}
use Rattle.laws_sound.proofs.sound.Pools.{is_head}
use Rattle.laws_sound.proofs.sound.Replaced.{Parted, filter_parted}
use Rattle.laws_sound.proofs.sound.Steps.{one_root, no_root}

-- a list in two parts whose images are two given lists
record Split {A B : Type 0} (f : A → B) (l : List A) (xs ys : List B) : Type 0 where
  left : List A
  right : List A
  whole : l ≡ left ++ right
  lefts : map f left ≡ xs
  rights : map f right ≡ ys

-- a list whose images are two lists in a row is one
split : {A B : Type 0} (f : A → B) (l : List A) (xs ys : List B) → map f l ≡ xs ++ ys → Split f l xs ys
split f l [] ys h = record { left = []; right = l; whole = refl; lefts = refl; rights = h }
split f [] (x ∷ xs) ys h = let z : ◌≡◌ {A = ℕ} 0 1 = cc in absurd (omega arith)
split f (a ∷ l) (x ∷ xs) ys h =
    let at : f a ≡ x = cc in
    let rest : map f l ≡ xs ++ ys = cc in
    let r = split f l xs ys rest in
    record { left = a ∷ r.left; right = r.right; whole = ap (λ m. a ∷ m) r.whole; lefts = ap₂ ◌∷◌ at r.lefts; rights = r.rights }

-- a list in two parts, the second of which is in two parts
three_parts : {A : Type 0} (l a b c d : List A) → l ≡ a ++ b → b ≡ c ++ d → l ≡ a ++ (c ++ d)
three_parts l a b c d p q = p ∙ ap (λ x. a ++ x) q

-- a pool's blobs, parted at slot r
pub record Apart (R : List ℕ) (r m : ℕ) (bs : List Blob) : Type 0 where
  pub before : List Blob
  pub here : List Blob
  pub after : List Blob
  pub all : bs ≡ before ++ (here ++ after)
  pub parted : Parted R r m before here after

-- so every pool's are
pub apart_at : (R : List ℕ) (N r m : ℕ) (bs : List Blob) → N ≡ r + suc m → map root_of bs ≡ filter (is_head R) (range 0 N) → Apart R r m bs
apart_at R N r m bs room heads =
    let p = is_head R in
    let h = heads ∙ ap (λ (n : ℕ). filter p (range 0 n)) room ∙ filter_parted p r m in
    let s = split root_of bs (filter p (range 0 r)) (filter p (r ∷ []) ++ filter p (range (suc r) m)) h in
    let t = split root_of s.right (filter p (r ∷ [])) (filter p (range (suc r) m)) s.rights in
    record {
      before = s.left;
      here = t.left;
      after = t.right;
      all = three_parts bs s.left s.right t.left t.right s.whole t.whole;
      parted = record { before = s.lefts; here = t.lefts; after = t.rights };
    }

-- no blob is at a slot that is no root's
pub none_here : (R : List ℕ) (r m : ℕ) (before here after : List Blob) → Parted R r m before here after → state R r ≡ 0 → here ≡ []
none_here R r m before here after q h = empty here (q.here ∙ no_root R r h)
  where
    empty : (l : List Blob) → map root_of l ≡ [] → l ≡ []
    empty [] k = refl
    empty (x ∷ l) k = let z : ◌≡◌ {A = ℕ} 0 1 = cc in absurd (omega arith)

-- one blob is at a root's slot
pub one_here : (R : List ℕ) (r m : ℕ) (before here after : List Blob) → Parted R r m before here after → state R r ≡ 2
    → (b : Blob) × (here ≡ b ∷ []) × (root_of b ≡ r)
one_here R r m before here after q h = one here (q.here ∙ one_root R r h)
  where
    one : (l : List Blob) → map root_of l ≡ r ∷ [] → (b : Blob) × (l ≡ b ∷ []) × (root_of b ≡ r)
    one [] k = let z : ◌≡◌ {A = ℕ} 0 1 = cc in absurd (omega arith)
    one (x ∷ []) k = let e : root_of x ≡ r = cc in (x, refl, e)
    one (x ∷ (y ∷ l)) k = let z : ◌≡◌ {A = ℕ} 0 1 = cc in absurd (omega arith)

-- what is claimed of each root is claimed of each blob's
each_root : (Q : ℕ → Type 0) (bs : List Blob) → Each Q (map root_of bs) → Every (λ b. Q (root_of b)) bs
each_root Q [] f = tt
each_root Q (b ∷ bs) f = (each_first Q (root_of b) (map root_of bs) f, each_root Q bs (each_rest Q (root_of b) (map root_of bs) f))

-- the blobs before have other roots
pub before_other : (R : List ℕ) (r m : ℕ) (before here after : List Blob) → Parted R r m before here after → Every (λ b. root_of b ≡ r → ⊥) before
before_other R r m before here after q =
    each_root (λ s. s ≡ r → ⊥) before (rw q.before
    (each_filter (λ s. s ≡ r → ⊥) (is_head R) (range 0 r) (λ s h k. absurd (omega (arith, (range_within 0 r s h).1)))))

-- so have those after
pub after_other : (R : List ℕ) (r m : ℕ) (before here after : List Blob) → Parted R r m before here after → Every (λ b. root_of b ≡ r → ⊥) after
after_other R r m before here after q =
    each_root (λ s. s ≡ r → ⊥) after (rw q.after
    (each_filter (λ s. s ≡ r → ⊥) (is_head R) (range (suc r) m) (λ s h k. absurd (omega (arith, (range_within (suc r) m s h).0)))))

-- so a call that names that root meets that blob
pub blob_met : {A : Type 0} (r : ℕ) (k : Blob → Outcome A) (before : List Blob) (b : Blob) (after : List Blob) → Every (λ b. root_of b ≡ r → ⊥) before
    → root_of b ≡ r → with_blob r k (before ++ (b ∷ after)) ≡ k b
unfolding with_blob pick
blob_met r k [] b after o at = rw (eq-eqb (root_of b) r at)
blob_met r k (x ∷ before) b after o at = rw (ne_eqb (root_of x) r o.0) (blob_met r k before b after o.1 at)
