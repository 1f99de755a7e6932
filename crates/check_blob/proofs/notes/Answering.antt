-- What the code's answer says of a check, whatever the check finds and whatever is noted of it.
use mathlib.Core.Path.{◌≡◌}
use mathlib.Core.List.{List}
use Prim.Native.Nat.{ℕ}
use native.Mathlib.Omega.{arith}
use Rattle.meaning.specs.Walk.{Found, fault, fine}
use Rattle.meaning.specs.declared.Refusal.{Refusal}
use Rattle.check_blob.specs.notes.{map_found}

pub noted_fault : {A B : Type 0} (g : A → B) (f : Refusal) (F : Found A) → fault f ≡ map_found g F → F ≡ fault f
unfolding map_found
noted_fault g f (fault r) e = cc
noted_fault g f (fine a seen) e = absurd (let z : ◌≡◌ {A = ℕ} 0 1 = cc in omega arith)

pub noted_fine : {A B : Type 0} (g : A → B) (x : B) (sx : List ℕ) (F : Found A) → fine x sx ≡ map_found g F → (a : A) × (F ≡ fine a sx) × (x ≡ g a)
unfolding map_found
noted_fine g x sx (fault r) e = absurd (let z : ◌≡◌ {A = ℕ} 0 1 = cc in omega arith)
noted_fine g x sx (fine a seen) e = (a, cc, cc)
