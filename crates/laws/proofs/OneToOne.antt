-- An answer of the code is one value of the document's: each map from an answer to what it says is one-to-one, so two different answers
-- never say the same. What a call that is done yields is never a refusal, and each kind of answer holds all that it says.
use Rattle.std.specs.Prelude.{ℕ, Result, Ok, Err}
use mathlib.Core.Path.{◌≡◌, refl}
use Rattle.meaning.specs.declared.Refusal.{Refusal}
use Rattle.meaning.specs.Answers.{value_said, done_said, leaf_said}

-- two lengths, two audits, or two answers of create
pub value_said_same : (a b : Result ℕ Refusal) → value_said a ≡ value_said b → a ≡ b
unfolding value_said
value_said_same (Ok m) (Ok n) h = cc
value_said_same (Ok m) (Err q) h = cc
value_said_same (Err r) (Ok n) h = cc
value_said_same (Err r) (Err q) h = cc

-- two answers of read, wipe, write, resize or delete
pub done_said_same : (a b : Result (Unit {0}) Refusal) → done_said a ≡ done_said b → a ≡ b
unfolding done_said
done_said_same (Ok u) (Ok v) h = refl
done_said_same (Ok u) (Err q) h = cc
done_said_same (Err r) (Ok v) h = cc
done_said_same (Err r) (Err q) h = cc

-- two shown leaves
pub leaf_said_same : (a b : Result (ℕ × ℕ) Refusal) → leaf_said a ≡ leaf_said b → a ≡ b
unfolding leaf_said
leaf_said_same (Ok (m, k)) (Ok (n, l)) h = cc
leaf_said_same (Ok (m, k)) (Err q) h = cc
leaf_said_same (Err r) (Ok (n, l)) h = cc
leaf_said_same (Err r) (Err q) h = cc
