-- Which of the two it is: the length asked for is below the blob's, or not.
use mathlib.Core.List.{List}
use Prim.Native.Nat.{ℕ, ◌≤◌, ◌<◌}
use Rattle.meaning.specs.declared.Edition.{Edition}
use Rattle.call_resize.specs.fit.Found.{Roomy, Shorter, Longer}

-- a length below the blob's
pub shorter : (e : Edition) (n : ℕ) (P R : List ℕ) (r bytes leaves : ℕ) (hs fs free : List ℕ) (len want : ℕ)
    → Roomy e n P R r bytes leaves hs fs free len want → len < bytes → Shorter e n P R r hs fs len want
shorter e n P R r bytes leaves hs fs free len want g less = record { bytes = bytes; leaves = leaves; free = free; roomy = g; short = less }

-- a length not below the blob's
pub longer : (e : Edition) (n : ℕ) (P R : List ℕ) (r bytes leaves : ℕ) (hs fs free : List ℕ) (len want : ℕ)
    → Roomy e n P R r bytes leaves hs fs free len want → bytes ≤ len → Longer e n P R r leaves hs fs free len want
longer e n P R r bytes leaves hs fs free len want g more = record { bytes = bytes; roomy = g; long = more }
