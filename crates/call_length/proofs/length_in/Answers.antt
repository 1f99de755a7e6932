-- The refusal handed on, or the bytes.
use Rattle.call_length.proofs.LengthAnswered.{length_refused, length_found}
use Rattle.call_length.proofs.length_in.Goals as goal
use Rattle.laws.proofs.HandedOn.{handed}

pub returns-in_err-bytes : goal.returns-in_err-bytes
returns-in_err-bytes c = rw (handed c.from_residual.ensures.1) (search (length_refused, c.in_err-bytes.was))

pub returns : goal.returns
returns c = search (length_found, c.in_ok-bytes.was)
