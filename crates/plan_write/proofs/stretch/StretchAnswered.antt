-- The plan of one slot of a write, need by need: a stretch's numbers, comparing bytes in a loop, and the stretch of a leaf or of a slot that changes.
use mathlib.Core.Path.{◌≡◌, refl, ◌∙◌, sym}
use mathlib.Core.Bool.{Bool, true, false}
use mathlib.Core.List.{List, [], ◌∷◌}
use Prim.Native.Nat.{ℕ, ◌+◌, ◌-◌, ◌*◌, ◌^◌, ◌≤◌, ◌<◌, min}
use native.Mathlib.Nat.{mul-le-mul}
use native.Mathlib.Omega.{arith}
use mir.Syntax.{w64}
use mir.Val.{Fits}
use borrow.Author.Tests.{eq-eqb, ne_eqb, eqb-true, eqb-false}
use lib.Dec.{eqb}
use lib.ListN.{length, get_or, take, drop}
use Rattle.std.specs.Prelude.{nat_eq}
use Rattle.std.specs.Cmp.Lexicographic.{pointwise}
use Rattle.laws.proofs.Numbers.{OfBytes}
use Rattle.laws.proofs.Inversions.{by_test}
use Rattle.meaning.specs.declared.Edition.{Edition}
use Rattle.meaning.specs.Lists.{pick, both, part, same_list}
use Rattle.meaning.specs.Edition.{Proper}
use Rattle.meaning.specs.Bytes.{block, count_of}
use Rattle.plan_write.specs.declared.stretch.Stretch.{Stretch}
use Rattle.plan_write.specs.stretch.{touched_by, differing, plan_of, Changing, ChosenAt, Counted}
use Rattle.std.specs.Prelude.{Option, None, Some}
use Rattle.plan_write.proofs.stretch.Stretches.{fits_both}

-- where a leaf begins is a number of eight bytes
pub start_fits : (a b : ℕ) → a < 256 → b ≤ 2 ^ 50 → Fits w64 (a * b)
start_fits a b h g =
    let x : a ≤ 255 = omega arith in
    let m : a * b ≤ 255 * 2 ^ 50 = mul-le-mul x g in
    record { fits = omega arith }

-- a stretch's numbers
pub numbers_touched : (base held offset size w f n x y : ℕ) → w ≡ offset - base → f ≡ base - offset → x ≡ held - w → y ≡ size - f → n ≡ min x y
    → record { within = w; from = f; count = n } ≡ touched_by base held offset size
unfolding touched_by
numbers_touched base held offset size w f n x y ew ef ex ey en = rw (en, ex, ey, ew, ef)

-- slices are compared as the definition compares lists
same_pointwise : (x y : List ℕ) → pointwise nat_eq x y ≡ same_list x y
unfolding same_list both
same_pointwise [] [] = refl
same_pointwise [] (b ∷ y) = refl
same_pointwise (a ∷ x) [] = refl
same_pointwise (a ∷ x) (b ∷ y) = by_test (eqb a b) (λ q. rw q (same_pointwise x y)) (λ q. rw q refl)

pub same_parts : (b d : List ℕ) (at from count : ℕ) (r : Bool) → r ≡ pointwise nat_eq (take (at + count - at) (drop at b)) (take (from + count - from) (drop from d))
    → r ≡ same_list (part at count b) (part from count d)
unfolding part
same_parts b d at from count r is =
    let x : at + count - at ≡ count = omega arith in
    let y : from + count - from ≡ count = omega arith in
    rw (is, same_pointwise, x, y) refl

-- the plan of a leaf's block
module _ (e : Edition) (b d : List ℕ) (first offset base held : ℕ) (eb : base ≡ e.leaf * first) (eh : held ≡ count_of b) (t : Stretch)
    (et : t ≡ touched_by base held offset (length d)) where
  plan : t ≡ touched_by (e.leaf * first) (count_of b) offset (length d)
  plan = rw (← eb, ← eh) et

  plan_same : differing e b d first offset ≡ pick (same_list (part (16 + t.within) t.count b) (part t.from t.count d)) None (Some t)
  unfolding differing
  plan_same = rw plan

  -- nothing is touched
  pub none_touched : t.count ≡ 0 → None ≡ differing e b d first offset
  unfolding pick part same_list
  none_touched z = sym (plan_same ∙ rw z)

  -- what is touched stays
  pub none_differs : (s : Bool) → s ≡ same_list (part (16 + t.within) t.count b) (part t.from t.count d) → s ≡ true → None ≡ differing e b d first offset
  unfolding pick
  none_differs s es q = sym (plan_same ∙ rw (sym es ∙ q))

  -- it differs
  pub some_differs : (s : Bool) → s ≡ same_list (part (16 + t.within) t.count b) (part t.from t.count d) → s ≡ false → Some t ≡ differing e b d first offset
  unfolding pick
  some_differs s es q = sym (plan_same ∙ rw (sym es ∙ q))

  -- it lies in both
  inside : (t.count ≡ 0 → ⊥) → (t.within + t.count ≤ count_of b) × (t.from + t.count ≤ length d)
  unfolding touched_by
  inside n = rw plan (fits_both (e.leaf * first) (count_of b) offset (length d) (rw plan at n))

  pub in_leaf : (t.count ≡ 0 → ⊥) → t.within + t.count ≤ count_of b
  in_leaf n = (inside n).0

  pub in_source : (t.count ≡ 0 → ⊥) → t.from + t.count ≤ length d
  in_source n = (inside n).1

  pub in_block : Proper e → length b ≡ e.size → count_of b ≤ e.leaf → (t.count ≡ 0 → ⊥) → 16 + t.within + t.count ≤ length b
  in_block p lb h n = omega (arith, in_leaf n, p.fits)

  pub place_fits : Proper e → count_of b ≤ e.leaf → (t.count ≡ 0 → ⊥) → Fits w64 (16 + t.within)
  place_fits p h n = record { fits = omega (arith, in_leaf n, p.byte) }

  pub chosen_some : (t.count ≡ 0 → ⊥) → OfBytes b → Changing b d t
  chosen_some n byte = record { leaf = in_leaf n; source = in_source n; bytes = byte }

-- the plan of a slot, by what is noted of it: it is none of the blob, or its block has that height
module _ (e : Edition) (P hs fs d : List ℕ) (offset i : ℕ) where
  -- no leaf of the blob, whatever is noted
  pub plan_none : (get_or hs i 0 ≡ 1 → ⊥) → None ≡ plan_of e P hs fs d offset i
  unfolding plan_of pick
  plan_none n = rw (ne_eqb (get_or hs i 0) 1 n)

  pub plan_outside : get_or hs i 0 ≡ 0 → None ≡ plan_of e P hs fs d offset i
  plan_outside z = plan_none (λ q. omega (arith, z, q))

  module _ (h : ℕ) (noted : get_or hs i 0 ≡ 0 → ⊥) (eh : h ≡ get_or hs i 0 - 1) where
    pub plan_inner : (h ≡ 0 → ⊥) → None ≡ plan_of e P hs fs d offset i
    plan_inner n = plan_none (λ q. n (omega (arith, eh, q)))

    pub plan_leaf : h ≡ 0 → (b : List ℕ) → b ≡ block e P i → (first : ℕ) → first ≡ get_or fs i 0 → (r : Option Stretch) → r ≡ differing e b d first offset
        → r ≡ plan_of e P hs fs d offset i
    unfolding plan_of pick
    plan_leaf z b eb first ef r er =
        let one : get_or hs i 0 ≡ 1 = by_test (eqb (get_or hs i 0) 0) (λ t. absurd (noted (eqb-true _ _ t))) (λ t. omega (arith, eh, z, eqb-false _ _ t)) in
        er ∙ rw (eb, ef, eq-eqb (get_or hs i 0) 1 one)

  -- a leaf of the blob: what is known of its block's stretch is known of the slot's, and the block is not too full
  pub plan_in : get_or hs i 0 ≡ 1 → (b : List ℕ) → b ≡ block e P i → (t : Stretch) → Changing b d t → ChosenAt e P hs d i t
  plan_in q b eb t f = record { leaf = q; changing = rw (← eb) f }

  pub plan_count : get_or hs i 0 ≡ 1 → (b : List ℕ) → b ≡ block e P i → Counted e P hs i → count_of b ≤ e.leaf
  plan_count q b eb f = rw eb (f.so q)
