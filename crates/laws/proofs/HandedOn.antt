-- What a function returns where a `?` hands a refusal on: that refusal.
use Rattle.std.specs.Prelude.{Result, Err, IsErrAnd}
use Rattle.std.proofs.lemmas.Result.{err_from_is_err_and}
use mathlib.Core.Path.{◌≡◌, ◌∙◌, ap}

pub handed : {T E : Type 0} {q : E} {answer : Result T E} → IsErrAnd answer (λ d. d ≡ q) → answer ≡ Err q
handed {answer} is = let p = err_from_is_err_and answer is in p.1 ∙ ap Err p.2
