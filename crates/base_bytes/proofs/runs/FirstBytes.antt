-- The library's test of a slice's front is the definitions' test of two lists.
use mathlib.Core.Path.{◌≡◌, refl, ◌∙◌, sym}
use mathlib.Core.List.{List, [], ◌∷◌}
use Prim.Native.Nat.{ℕ}
use borrow.Author.Tests.{eq-eqb, ne_eqb, eqb-true, eqb-false}
use lib.Dec.{eqb}
use lib.ListN.{take}
use Rattle.std.specs.List.{starts_with}
use Rattle.meaning.specs.Lists.{both, same_list}
use Rattle.laws.proofs.Inversions.{by_test}

-- equality may be asked either way
either_way : (a b : ℕ) → eqb a b ≡ eqb b a
either_way a b =
    by_test (eqb a b)
    (λ t. t ∙ sym (eq-eqb b a (sym (eqb-true a b t))))
    (λ t. t ∙ sym (ne_eqb b a (λ e. eqb-false a b t (sym e))))

pub starts_is : (b : List ℕ) (x y : ℕ) → starts_with eqb b (x ∷ y ∷ []) ≡ same_list (take 2 b) (x ∷ y ∷ [])
unfolding same_list both
starts_is [] x y = refl
starts_is (a ∷ []) x y = rw (either_way x a) (by_test (eqb a x) (λ t. rw t refl) (λ t. rw t refl))
starts_is (a ∷ b ∷ l) x y = rw (either_way x a, either_way y b) (by_test (eqb a x) (λ t. rw t (by_test (eqb b y) (λ u. rw u refl) (λ u. rw u refl))) (λ t. rw t refl))
