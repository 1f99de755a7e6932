-- The place moves by as many bytes as were handed out.
use Rattle.store_head.proofs.Handing.{place_moves, out_handed}
use Rattle.store_head.proofs.next_place.Goals as goal

pub returns : goal.returns
returns c = (search place_moves, search out_handed)
