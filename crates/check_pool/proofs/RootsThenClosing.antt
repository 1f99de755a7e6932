-- The pool check in code: a fault among the roots is its fault, and behind the roots the closing pass decides.
use Rattle.std.specs.Prelude.{Err, Ok, Option}
use mathlib.Core.Path.{◌≡◌, refl, ◌∙◌, sym}
use mathlib.Core.List.{List}
use Prim.Native.Nat.{ℕ}
use native.Mathlib.Omega.{arith}
use lib.ListN.{replicate}
use Rattle.meaning.specs.Refusals.{Checked}
use Rattle.meaning.specs.Lists.{range}
use Rattle.meaning.specs.Walk.{Found, fault, fine, and_then, passing, roots, closing, pool_check}
use Rattle.meaning.specs.declared.Edition.{Edition}
use Rattle.meaning.specs.declared.Refusal.{Refusal}
use Rattle.check_blob.specs.notes.{met, map_found, Walked}
use Rattle.check_pool.specs.roots.{kept, note_named, roots_noted, pool_noted}

-- a fault among the roots is the pool check's
fault_then : {A C : Type 0} (g : A → C) (f : Refusal) (F : Found A) (k : A → List ℕ → Found A) → fault f ≡ map_found g F → map_found g (and_then F k) ≡ fault f
unfolding map_found and_then
fault_then g f (fault r) k e = cc
fault_then g f (fine a seen) k e = absurd (let z : ◌≡◌ {A = ℕ} 0 1 = cc in omega arith)

-- behind the roots, the closing pass decides
map_passing : {A C : Type 0} (g : A → C) (a : A) (seen : List ℕ) (c : Checked) → map_found g (passing c (fine a seen)) ≡ passing c (fine (g a) seen)
unfolding map_found passing
map_passing g a seen (Ok tt) = refl
map_passing g a seen (Err r) = refl

fine_then : {A C : Type 0} (g : A → C) (x : C) (sx : List ℕ) (F : Found A) (cl : List ℕ → Checked) → fine x sx ≡ map_found g F
    → map_found g (and_then F (λ a seen. passing (cl seen) (fine a seen))) ≡ passing (cl sx) (fine x sx)
unfolding map_found and_then
fine_then g x sx (fault r) cl e = absurd (let z : ◌≡◌ {A = ℕ} 0 1 = cc in omega arith)
fine_then g x sx (fine a seen) cl e =
    let p : x ≡ g a = cc in
    let q : sx ≡ seen = cc in
    rw (p, q) (map_passing g a seen (cl seen))

-- the pool check
module _ (e : Edition) (N : ℕ) (P R : List ℕ) (named : Option ℕ) (o seen : List ℕ) (es : seen ≡ replicate N 0)
    (w : Walked) (sx ox : List ℕ) (ew : met w sx ox ≡ roots_noted e N P R named (range 0 N) (kept 0 0 o) seen) where
  pub pool_stop : (f : Refusal) → w ≡ Err f → (sy oy : List ℕ) → met w sy oy ≡ pool_noted e N P R named o
  unfolding met pool_noted pool_check roots_noted
  pool_stop f ef sy oy =
      let v : fault f ≡ map_found (note_named named (kept 0 0 o)) (roots e N P R (range 0 N) (replicate N 0)) = rw (ef, es) at ew in
      rw ef (sym (fault_then (note_named named (kept 0 0 o)) f (roots e N P R (range 0 N) (replicate N 0)) _ v))

  module _ (b k : ℕ) (eb : w ≡ Ok (b, k)) (c : Checked) (ec : c ≡ closing e N P R (range 0 N) sx) where
    found : pool_noted e N P R named o ≡ passing c (fine (kept b k ox) sx)
    unfolding met pool_noted pool_check roots_noted kept
    found =
        let v : fine (kept b k ox) sx ≡ map_found (note_named named (kept 0 0 o)) (roots e N P R (range 0 N) (replicate N 0)) = rw (eb, es) at ew in
        rw ec (fine_then (note_named named (kept 0 0 o)) (kept b k ox) sx (roots e N P R (range 0 N) (replicate N 0)) (λ seen. closing e N P R (range 0 N) seen) v)

    pub pool_unclosed : (r : Refusal) → c ≡ Err r → (sy oy : List ℕ) → met (Err r) sy oy ≡ pool_noted e N P R named o
    unfolding met passing
    pool_unclosed r er sy oy = sym (found ∙ rw er)

    pub pool_passed : c ≡ Ok tt → met (Ok (b, k)) sx ox ≡ pool_noted e N P R named o
    unfolding met passing kept
    pool_passed pc = sym (found ∙ rw pc)
