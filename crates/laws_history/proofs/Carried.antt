-- What a written block carries: the mark, its slot and its version, whatever its cell. Check 2 reads no more than these, so a block that
-- carries another slot, or its own slot at another version, fails it with the number that says so.
use Rattle.std.specs.Prelude.{Some}
use mathlib.Core.Path.{◌≡◌, refl, ap, ◌∙◌}
use mathlib.Core.Bool.{true}
use mathlib.Core.List.{List, [], ◌∷◌, ◌++◌}
use Prim.Native.Nat.{ℕ, zero, suc, ◌+◌, ◌^◌, ◌≤◌, ◌<◌}
use native.Mathlib.Omega.{arith}
use borrow.Author.Tests.{eq-eqb, ne_eqb, lt-ltb, le-ltb}
use lib.ListN.{length, take, replicate}
use lib.Seq.{take-take}
use Rattle.meaning.specs.declared.Edition.{Edition}
use Rattle.meaning.specs.Lists.{pick, part, number, bytes, padded, same_list}
use Rattle.meaning.specs.Edition.{Proper}
use Rattle.meaning.specs.Bytes.{Cell, item_bytes, header, block_bytes, encoded, own_slot, version_of}
use Rattle.meaning.specs.Walk.{flaw}
use Rattle.meaning.specs.declared.Reason.TheVariants.{Moved, RolledBack, Ahead}
use Rattle.laws.proofs.Numbers.{number_bytes}
use Rattle.laws.proofs.Inversions.{same_self}

-- block b carries the mark, slot s and version v
pub record Carries (e : Edition) (s v : ℕ) (b : List ℕ) : Type 0 where
  pub mark : take 2 b ≡ e.mark
  pub slot : own_slot b ≡ s
  pub version : version_of b ≡ v

-- a part of a front that holds it
part_take : {A : Type 0} (at k n : ℕ) (l : List A) → at + k ≤ n → part at k (take n l) ≡ part at k l
unfolding part
part_take zero k n l h = take-take k n l (omega arith)
part_take (suc at) k zero l h = absurd (omega arith)
part_take (suc at) k (suc n) [] h = refl
part_take (suc at) k (suc n) (x ∷ xs) h = part_take at k n xs (omega arith)

-- what stands in a header whose mark is two bytes, whatever follows it
headed : (m : List ℕ) (h n s v : ℕ) (more rest : List ℕ) → length m ≡ 2
    → (part 0 2 (((m ++ (h ∷ n ∷ (bytes 4 s ++ bytes 8 v))) ++ more) ++ rest) ≡ m)
    × (part 4 4 (((m ++ (h ∷ n ∷ (bytes 4 s ++ bytes 8 v))) ++ more) ++ rest) ≡ bytes 4 s)
    × (part 8 8 (((m ++ (h ∷ n ∷ (bytes 4 s ++ bytes 8 v))) ++ more) ++ rest) ≡ bytes 8 v)
unfolding part bytes
headed [] h n s v more rest e = absurd (omega arith)
headed (a ∷ []) h n s v more rest e = absurd (omega arith)
headed (a ∷ b ∷ []) h n s v more rest e = (refl, refl, refl)
headed (a ∷ b ∷ c ∷ m) h n s v more rest e = absurd (omega arith)

-- a written block carries its edition's mark, its slot and its version
pub encoded_carries : (e : Edition) → Proper e → (c : Cell) (s v : ℕ) → s < 2 ^ 32 → v < 2 ^ 64 → Carries e s v (encoded e c s v)
unfolding encoded block_bytes padded header own_slot version_of
encoded_carries e p c s v hs hv =
    let f = headed e.mark c.height (length c.items) s v (item_bytes c.height c.items) (replicate e.size 0) p.marked in
    record {
      mark = front (encoded e c s v) ∙ part_take 0 2 e.size _ (omega (arith, p.fits)) ∙ f.0;
      slot = ap number (part_take 4 4 e.size _ (omega (arith, p.fits)) ∙ f.1) ∙ number_bytes 4 s hs;
      version = ap number (part_take 8 8 e.size _ (omega (arith, p.fits)) ∙ f.2) ∙ number_bytes 8 v hv;
    }
  where
    front : (l : List ℕ) → take 2 l ≡ part 0 2 l
    front l = unfold part in refl

-- check 2, at slot x whose record has version v, of a block that carries slot y and version w
module _ (e : Edition) (v x y w : ℕ) (b : List ℕ) (c : Carries e y w b) where
  -- its mark is right
  marked : same_list (take 2 b) e.mark ≡ true
  marked = ap (λ (l : List ℕ). same_list l e.mark) c.mark ∙ same_self e.mark

  -- another slot's block has moved
  pub moved_flaw : (y ≡ x → ⊥) → flaw e v x b ≡ Some Moved
  unfolding flaw pick
  moved_flaw d = simp (marked, c.slot, ne_eqb y x d)

  -- an older block of its own is rolled back
  pub older_flaw : y ≡ x → w < v → flaw e v x b ≡ Some RolledBack
  unfolding flaw pick
  older_flaw q l = simp (marked, c.slot, eq-eqb y x q, c.version, lt-ltb w v l)

  -- a newer one is ahead
  pub newer_flaw : y ≡ x → v < w → flaw e v x b ≡ Some Ahead
  unfolding flaw pick
  newer_flaw q l =
      let k : v ≤ w = omega arith in
      simp (marked, c.slot, eq-eqb y x q, c.version, le-ltb w v k, lt-ltb v w l)
