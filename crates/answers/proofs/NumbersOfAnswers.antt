-- The eight numbers of each answer, by its cases.
use Rattle.std.specs.Prelude.{Option, None, Some, unwrap_or, Result, Ok, Err}
use mathlib.Core.Path.{◌≡◌, refl}
use mathlib.Core.List.{List, [], ◌∷◌}
use Prim.Native.Nat.{ℕ}
use Rattle.meaning.specs.Refusals.{number_of, slot_number}
use Rattle.meaning.specs.Answers.{value_said, done_said, leaf_said}
use Rattle.meaning.specs.declared.Refusal.{Refusal}
use Rattle.answers.specs.Numbers.{value_numbers, refusal_numbers, numbers}

-- a named slot as a number
pub named_number : (s : Option ℕ) → unwrap_or s 0xFFFF_FFFF_FFFF_FFFF ≡ slot_number s
unfolding slot_number
named_number None = refl
named_number (Some s) = refl

-- the array that is put for values, and for a refusal
pub put_values : (first second : ℕ) → 0 ∷ 0xFFFF_FFFF_FFFF_FFFF ∷ first ∷ second ∷ 0 ∷ 0 ∷ 0 ∷ 0 ∷ [] ≡ value_numbers first second
unfolding value_numbers slot_number
put_values first second = refl

pub put_refusal : (r : Refusal) (n s : ℕ) → n ≡ number_of r.reason → s ≡ slot_number r.named → n ∷ s ∷ 0 ∷ 0 ∷ 0 ∷ 0 ∷ 0 ∷ 0 ∷ [] ≡ refusal_numbers r
unfolding refusal_numbers
put_refusal r n s en es = rw (en, es)

-- each answer's numbers
module _ (a : List ℕ) where
  module _ (x : Result ℕ Refusal) where
    pub value_done : (n : ℕ) → x ≡ Ok n → a ≡ value_numbers n 0 → a ≡ numbers (value_said x)
    unfolding numbers value_said
    value_done n e ea = rw e ea

    pub value_refused : (r : Refusal) → x ≡ Err r → a ≡ refusal_numbers r → a ≡ numbers (value_said x)
    unfolding numbers value_said
    value_refused r e ea = rw e ea

    -- create's answer: the new slot is the third number
    pub created_at : (s : ℕ) → x ≡ Ok s → a ≡ value_numbers s 0 → a ≡ numbers (value_said x)
    created_at = value_done

  module _ (x : Result (Unit {0}) Refusal) where
    pub done_done : x ≡ Ok tt → a ≡ value_numbers 0 0 → a ≡ numbers (done_said x)
    unfolding numbers done_said
    done_done e ea = rw e ea

    pub done_refused : (r : Refusal) → x ≡ Err r → a ≡ refusal_numbers r → a ≡ numbers (done_said x)
    unfolding numbers done_said
    done_refused r e ea = rw e ea

  module _ (x : Result (ℕ × ℕ) Refusal) where
    pub leaf_at_lem : (start count : ℕ) → x ≡ Ok (start, count) → a ≡ value_numbers start count → a ≡ numbers (leaf_said x)
    unfolding numbers leaf_said
    leaf_at_lem start count e ea = rw e ea

    pub leaf_refused : (r : Refusal) → x ≡ Err r → a ≡ refusal_numbers r → a ≡ numbers (leaf_said x)
    unfolding numbers leaf_said
    leaf_refused r e ea = rw e ea
