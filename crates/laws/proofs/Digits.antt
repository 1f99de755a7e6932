-- A number by two bases, one after the other: the quotient by their product is the quotient of the quotient, and what remains is made of both remainders.
use mathlib.Core.Path.{◌≡◌, ap, ◌∙◌, sym}
use Prim.Native.Nat.{ℕ, suc, ◌+◌, ◌*◌, ◌/◌, ◌%◌, ◌≤◌, ◌<◌}
use native.Mathlib.Nat.{add-zero, add_assoc, mul-add, mul_assoc, mul-one, mul-le-mul_left, mod-lt, div-add-mod, mul-add-div}
use native.Mathlib.Nat.{mul-add-mod_self_left, div-eq_of_lt, mod-eq_of_lt}
use native.Mathlib.Omega.{arith}

module _ (f g i : ℕ) (some : 1 ≤ f) (more : 1 ≤ g) where
  regroup : (c b a : ℕ) → f * (g * c + b) + a ≡ f * g * c + (f * b + a)
  regroup c b a = rw (mul-add f (g * c) b, mul_assoc f g c) (add_assoc (f * (g * c)) (f * b) a)

  whole : i ≡ f * g * (i / f / g) + (f * (i / f % g) + i % f)
  whole =
      sym (div-add-mod i f) ∙ ap (λ (x : ℕ). f * x + i % f) (sym (div-add-mod (i / f) g)) ∙ regroup (i / f / g) (i / f % g) (i % f)

  small : f * (i / f % g) + i % f < f * g
  small =
      let k : f * (i / f % g + 1) ≤ f * g = mul-le-mul_left f (omega (arith, mod-lt (i / f) {m = g} more)) in
      omega (arith, k, mod-lt i {m = f} some)

  product : 1 ≤ f * g
  product = omega (arith, mul-le-mul_left f more, mul-one f)

  pub by_both : i / (f * g) ≡ i / f / g
  by_both =
      ap (λ (x : ℕ). x / (f * g)) whole ∙ mul-add-div product (i / f / g) (f * (i / f % g) + i % f)
      ∙ ap (λ (x : ℕ). i / f / g + x) (div-eq_of_lt {n = f * (i / f % g) + i % f} {m = f * g} small) ∙ add-zero (i / f / g)

  rest_both : i % (f * g) ≡ f * (i / f % g) + i % f
  rest_both =
      ap (λ (x : ℕ). x % (f * g)) whole ∙ mul-add-mod_self_left (f * g) (i / f / g) (f * (i / f % g) + i % f)
      ∙ mod-eq_of_lt {n = f * (i / f % g) + i % f} {m = f * g} small

  pub rest_over : i % (f * g) / f ≡ i / f % g
  rest_over =
      ap (λ (x : ℕ). x / f) rest_both ∙ mul-add-div some (i / f % g) (i % f)
      ∙ ap (λ (x : ℕ). i / f % g + x) (div-eq_of_lt {n = i % f} {m = f} (mod-lt i {m = f} some)) ∙ add-zero (i / f % g)

  pub rest_rest : i % (f * g) % f ≡ i % f
  rest_rest =
      ap (λ (x : ℕ). x % f) rest_both ∙ mul-add-mod_self_left f (i / f % g) (i % f) ∙ mod-eq_of_lt {n = i % f} {m = f} (mod-lt i {m = f} some)

-- one power further on
module _ (g j : ℕ) (more : 1 ≤ g) where
  pub over_more : (g + j) / g ≡ suc (j / g)
  over_more = ap (λ (x : ℕ). (x + j) / g) (sym (mul-one g)) ∙ mul-add-div more 1 j ∙ omega arith

  pub rest_more : (g + j) % g ≡ j % g
  rest_more = ap (λ (x : ℕ). (x + j) % g) (sym (mul-one g)) ∙ mul-add-mod_self_left g 1 j
