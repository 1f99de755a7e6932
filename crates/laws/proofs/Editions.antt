-- What an edition owes is met by edition one's numbers, and what refusal 1 says in them. It is met too by numbers with a larger payload, more children and
-- room after the payload, so laws that ask for no more than `Proper` rest on nothing that only the first edition has.
use mathlib.Core.Path.{◌≡◌, refl}
use mathlib.Core.Bool.{true, false}
use mathlib.Core.List.{List, [], ◌∷◌}
use Prim.Native.Nat.{ℕ, zero, suc, ◌*◌, ◌/◌, ◌%◌, ◌≤◌, ◌<◌}
use native.Mathlib.Nat.{mod-lt}
use native.Mathlib.Omega.{arith}
use borrow.Author.Tests.{eq-eqb, le-leb, lt-leb}
use lib.ListN.{length, get_or}
use Rattle.meaning.specs.Lists.{both}
use Rattle.meaning.specs.declared.Edition.{Edition}
use Rattle.meaning.specs.Edition.{one, Proper}
use Rattle.meaning.specs.Calls.{slots_in, sized}

-- a place within its payload, and within its row
pub within_below : (e : Edition) → Proper e → (place : ℕ) → place % e.leaf < e.leaf
within_below e p place = mod-lt place (omega (arith, p.some))

pub digit_below : (e : Edition) → Proper e → (j : ℕ) → j % e.fan < e.fan
digit_below e p j = mod-lt j (omega (arith, p.two))

pub one_proper : Proper one
unfolding one
one_proper =
    record {
      marked = refl;
      bytes = below;
      solid = omega arith;
      some = omega arith;
      byte = omega arith;
      two = omega arith;
      fills = refl;
      fits = omega arith;
      low = omega arith;
      room = omega arith;
      small = omega arith;
    }
  where
    below : (i : ℕ) → get_or one.mark i 0 < 256
    below zero = omega arith
    below (suc zero) = omega arith
    below (suc (suc i)) = omega arith

-- Refusal 1 in edition one's numbers: up to 65,536 slots of 64 and 12 bytes are good, and more slots are too many.
pub lengths_good : (P R : List ℕ) (n : ℕ) → 1 ≤ n → n ≤ 65536 → length P ≡ 64 * n → length R ≡ 12 * n → sized one P R ≡ true
unfolding one sized slots_in both
lengths_good P R n some few lp lr =
    let m : length P % 64 ≡ 0 = omega (arith, lp) in
    let d : length P / 64 ≡ n = omega (arith, lp) in
    rw d (simp (eq-eqb (length P % 64) 0 m, le-leb 1 n some, le-leb n 65536 few, eq-eqb (length R) (12 * n) lr))

pub too_long : (P R : List ℕ) (n : ℕ) → 65536 < n → length P ≡ 64 * n → sized one P R ≡ false
unfolding one sized slots_in both
too_long P R n many lp =
    let m : length P % 64 ≡ 0 = omega (arith, lp) in
    let d : length P / 64 ≡ n = omega (arith, lp) in
    rw d (simp (eq-eqb (length P % 64) 0 m, le-leb 1 n (omega (arith, many)), lt-leb n 65536 many))

-- the first pool that was too long before W-203, the longest pool, and the first of whole blocks that is too long
lengths_1025 : (P R : List ℕ) → length P ≡ 65600 → length R ≡ 12300 → sized one P R ≡ true
lengths_1025 P R lp lr = lengths_good P R 1025 (omega arith) (omega arith) lp lr

lengths_65536 : (P R : List ℕ) → length P ≡ 4194304 → length R ≡ 786432 → sized one P R ≡ true
lengths_65536 P R lp lr = lengths_good P R 65536 (omega arith) (omega arith) lp lr

lengths_65537 : (P R : List ℕ) → length P ≡ 4194368 → sized one P R ≡ false
lengths_65537 P R lp = too_long P R 65537 (omega arith) lp

-- blocks of 128 bytes, 80 of them payload, 65,536 slots
larger : Edition
larger = record { mark = 0x4c ∷ 0x32 ∷ []; size = 128; leaf = 80; fan = 20; top = 4; most = 65536 }

larger_proper : Proper larger
unfolding larger
larger_proper =
    record {
      marked = refl;
      bytes = below;
      solid = omega arith;
      some = omega arith;
      byte = omega arith;
      two = omega arith;
      fills = refl;
      fits = omega arith;
      low = omega arith;
      room = omega arith;
      small = omega arith;
    }
  where
    below : (i : ℕ) → get_or larger.mark i 0 < 256
    below zero = omega arith
    below (suc zero) = omega arith
    below (suc (suc i)) = omega arith
