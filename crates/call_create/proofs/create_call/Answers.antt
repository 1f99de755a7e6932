-- Refusals 1 and 2 with nothing changed, or what is behind them.
use Rattle.check_blob.proofs.Lending.{flags_reach, flags_lent}
use Rattle.call_create.proofs.BehindThePoolCheck.{create_barred, create_whole, create_opened}
use borrow.Author.Rules.{rules}
use Rattle.call_create.proofs.create_call.Goals as goal
use Rattle.laws.proofs.HandedOn.{handed}

pub slice_bounds-create_in-end : goal.slice_bounds-create_in-end
slice_bounds-create_in-end c = search (flags_reach, c.in_ok-n.was)

pub create_in-requires : goal.create_in-requires
create_in-requires c = record { proper = search rules; whole = search (create_whole, c.in_ok-n.was); seen_value = (search (flags_lent, c.in_ok-n.was), search rules) }

pub returns-in_err-n : goal.returns-in_err-n
returns-in_err-n c = rw (handed c.from_residual.ensures.1) (search (create_barred, c.in_err-n.was))

pub returns : goal.returns
returns c = search (create_opened, c.in_ok-n.was)
