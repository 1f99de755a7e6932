-- A turn, case by case: how many slots it changes, and what the comparison of heights and counts answers.
use mathlib.Core.Path.{◌≡◌, refl, ◌∙◌, sym}
use mathlib.Core.Bool.{Bool, true, false, ◌&&◌}
use mathlib.Core.List.{List}
use Prim.Native.Nat.{ℕ, ◌≤◌}
use native.Mathlib.Omega.{arith}
use borrow.Author.Tests.{eq-eqb, ne_eqb}
use lib.Dec.{eqb}
use lib.ListN.{length}
use Rattle.meaning.specs.Lists.{pick, both}
use Rattle.meaning.specs.Bytes.{height_of, count_of}
use Rattle.meaning.specs.declared.Edition.{Edition}
use Rattle.plan_slot.specs.declared.payload.Drawn.{Drawn}
use Rattle.plan_slot.specs.declared.turn.Turn.{Turn}
use Rattle.plan_slot.specs.declared.turn.Turn.TheVariants.{Stays, Goes, Takes, Renews}
use Rattle.plan_slot.specs.turn.{turned, turns}

-- a turn changes as many slots as it says
pub turns_length : (e : Edition) (R : List ℕ) (s : ℕ) (t : Turn) (x : List ℕ) → length (turned e R s t x) ≡ turns t
unfolding turned turns
turns_length e R s Stays x = refl
turns_length e R s Goes x = refl
turns_length e R s (Takes d) x = refl
turns_length e R s (Renews d) x = refl

-- the counts of a turn
module _ (t : Turn) where
  pub stays_count : t ≡ Stays → (0 ≡ turns t) × (0 ≤ 1)
  unfolding turns
  stays_count q = (rw q, omega arith)

  pub goes_count : t ≡ Goes → (1 ≡ turns t) × (1 ≤ 1)
  unfolding turns
  goes_count q = (rw q, omega arith)

  pub takes_count : (d : Drawn) → t ≡ Takes d → (1 ≡ turns t) × (1 ≤ 1)
  unfolding turns
  takes_count d q = (rw q, omega arith)

  pub renews_count : (d : Drawn) → t ≡ Renews d → (1 ≡ turns t) × (1 ≤ 1)
  unfolding turns
  renews_count d q = (rw q, omega arith)

-- what Rust and the definitions say of two facts
and_both : (a b : Bool) → (a && b) ≡ both a b
unfolding both
and_both true b = refl
and_both false b = refl

-- the comparison of heights and counts: what it answered says whether the block of the slot has both
module _ (b : List ℕ) (d : Drawn) (h c : ℕ) (eh : h ≡ height_of b) (ec : c ≡ count_of b) (q : Bool)
    (eq : q ≡ (eqb d.height h && eqb d.count c)) where
  compared : q ≡ both (eqb d.height (height_of b)) (eqb d.count (count_of b))
  compared = eq ∙ and_both (eqb d.height h) (eqb d.count c) ∙ rw (eh, ec)

  pub same_stays : q ≡ true → Stays ≡ pick (both (eqb d.height (height_of b)) (eqb d.count (count_of b))) Stays (Renews d)
  unfolding pick
  same_stays t = rw (← compared, t)

  pub other_renews : q ≡ false → Renews d ≡ pick (both (eqb d.height (height_of b)) (eqb d.count (count_of b))) Stays (Renews d)
  unfolding pick
  other_renews t = rw (← compared, t)

-- case by case: the heights differ, or the counts alone, or neither
module _ (b : List ℕ) (d : Drawn) where
  pub height_differs : (x : ℕ) → x ≡ height_of b → (d.height ≡ x → ⊥)
      → Renews d ≡ pick (both (eqb d.height (height_of b)) (eqb d.count (count_of b))) Stays (Renews d)
  unfolding pick both
  height_differs x q n = rw (ne_eqb d.height (height_of b) (λ z. n (z ∙ sym q)))

  pub count_differs : (x : ℕ) → x ≡ height_of b → d.height ≡ x → (y : ℕ) → y ≡ count_of b → (d.count ≡ y → ⊥)
      → Renews d ≡ pick (both (eqb d.height (height_of b)) (eqb d.count (count_of b))) Stays (Renews d)
  unfolding pick both
  count_differs x q z y r n = rw (eq-eqb d.height (height_of b) (z ∙ q), ne_eqb d.count (count_of b) (λ w. n (w ∙ sym r)))

  pub none_differs : (x : ℕ) → x ≡ height_of b → d.height ≡ x → (y : ℕ) → y ≡ count_of b → d.count ≡ y
      → Stays ≡ pick (both (eqb d.height (height_of b)) (eqb d.count (count_of b))) Stays (Renews d)
  unfolding pick both
  none_differs x q z y r w = rw (eq-eqb d.height (height_of b) (z ∙ q), eq-eqb d.count (count_of b) (w ∙ r))
