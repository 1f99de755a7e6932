-- Refusal 1 of any edition, at edition one.
use Rattle.rows_size.proofs.AtEditionOne.{one_here, sized_one}
use Rattle.rows_size.proofs.is_sized.Goals as goal

pub is_sized-requires : goal.is_sized-requires
is_sized-requires c = search one_here

pub returns : goal.returns
returns c = search sized_one
