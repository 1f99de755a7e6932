-- Refusals 1 and 2 handed on with the output untouched, or the read behind them.
use Rattle.check_gate.proofs.BehindTheGate.{gate_whole}
use Rattle.check_blob.proofs.Lending.{flags_reach, flags_lent, row_reaches, row_lent}
use Rattle.call_read.proofs.ReadAnswered.{read_barred, read_behind}
use borrow.Author.Rules.{rules}
use Rattle.call_read.proofs.read_call.Goals as goal
use Rattle.laws.proofs.HandedOn.{handed}

pub slice_bounds-read_in-end : goal.slice_bounds-read_in-end
slice_bounds-read_in-end c = search (flags_reach, c.in_ok-n.was)

pub slice_bounds-read_in-end-2 : goal.slice_bounds-read_in-end-2
slice_bounds-read_in-end-2 c = search (row_reaches, c.in_ok-n.was)

pub read_in-requires : goal.read_in-requires
read_in-requires c = record { proper = search rules; whole = search (gate_whole, c.in_ok-n.was); seen_value = (search (flags_lent, c.in_ok-n.was), search (row_lent, c.in_ok-n.was)) }

pub returns-in_err-n : goal.returns-in_err-n
returns-in_err-n c = rw (handed c.from_residual.ensures.1) (search (read_barred, c.in_err-n.was))

pub returns : goal.returns
returns c = search (read_behind, c.in_ok-n.was)
