-- Refusals 1 and 2 handed on, or the leaf's place behind them.
use Rattle.check_gate.proofs.BehindTheGate.{gate_whole}
use Rattle.check_blob.proofs.Lending.{flags_reach, flags_lent, row_reaches, row_lent}
use Rattle.call_show.proofs.place.PlaceByRow.{refused_lies}
use Rattle.call_show.proofs.find.PlaceAnswered.{leaf_barred, leaf_behind}
use borrow.Author.Rules.{rules}
use Rattle.call_show.proofs.find.find_leaf_call.Goals as goal
use Rattle.laws.proofs.HandedOn.{handed}

pub slice_bounds-find_leaf_in-end : goal.slice_bounds-find_leaf_in-end
slice_bounds-find_leaf_in-end c = search (flags_reach, c.in_ok-n.was)

pub slice_bounds-find_leaf_in-end-2 : goal.slice_bounds-find_leaf_in-end-2
slice_bounds-find_leaf_in-end-2 c = search (row_reaches, c.in_ok-n.was)

pub find_leaf_in-requires : goal.find_leaf_in-requires
find_leaf_in-requires c = record { proper = search rules; whole = search (gate_whole, c.in_ok-n.was); seen_value = (search (flags_lent, c.in_ok-n.was), search (row_lent, c.in_ok-n.was)) }

pub returns-in_err-n : goal.returns-in_err-n
returns-in_err-n c = record { value = rw (handed c.from_residual.ensures.1) (search (leaf_barred, c.in_err-n.was)); lies = rw (handed c.from_residual.ensures.1) (search refused_lies) }

pub returns : goal.returns
returns c = record { value = search (leaf_behind, c.in_ok-n.was); lies = search rules }
