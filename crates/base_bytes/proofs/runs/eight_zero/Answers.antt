-- Eight bytes are all zero just if the number in them is 0.
use Rattle.base_bytes.proofs.runs.Zeros.{eight_zeros}
use Rattle.base_bytes.proofs.runs.eight_zero.Goals as goal

pub returns : goal.returns
returns c = search eight_zeros
