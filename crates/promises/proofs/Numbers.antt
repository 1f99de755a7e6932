-- No two reasons have the same number: the number is a reason's place in document 01's table, where it is read back.
use mathlib.Core.Path.{◌≡◌, refl, ap, ◌∙◌, sym}
use mathlib.Core.List.{List, [], ◌∷◌}
use Prim.Native.Nat.{ℕ}
use lib.ListN.{get_or}
use Rattle.meaning.specs.Refusals.{number_of}
use Rattle.meaning.specs.declared.Reason.{Reason}
use Rattle.meaning.specs.declared.Reason.TheVariants.{WrongLengths, BadRecord, NotARoot, Spoiled, Moved, RolledBack, Ahead, WrongShape, Reintroduced, OutOfRange, NoRoom, WornOut}

-- the table, from number 1 on; no reason has the number 0
table : List Reason
table =
    WrongLengths ∷ WrongLengths ∷ BadRecord ∷ NotARoot ∷ Spoiled ∷ Moved ∷ RolledBack ∷ Ahead ∷ WrongShape ∷ Reintroduced
    ∷ OutOfRange ∷ NoRoom ∷ WornOut ∷ []

read_back : (r : Reason) → get_or table (number_of r) WrongLengths ≡ r
unfolding table number_of
read_back WrongLengths = refl
read_back BadRecord = refl
read_back NotARoot = refl
read_back Spoiled = refl
read_back Moved = refl
read_back RolledBack = refl
read_back Ahead = refl
read_back WrongShape = refl
read_back Reintroduced = refl
read_back OutOfRange = refl
read_back NoRoom = refl
read_back WornOut = refl

pub number_same : (a b : Reason) → number_of a ≡ number_of b → a ≡ b
number_same a b e = sym (read_back a) ∙ ap (λ (n : ℕ). get_or table n WrongLengths) e ∙ read_back b
