-- The refusal handed on, or the leaf in the row.
use Rattle.check_blob.proofs.Rows.{found_length}
use Rattle.call_show.proofs.place.PlaceByRow.{refused_lies}
use Rattle.call_show.proofs.find.PlaceAnswered.{leaf_refused, found_below, leaf_found}
use borrow.Author.Rules.{rules}
use Rattle.call_show.proofs.find.find_leaf_in.Goals as goal
use Rattle.laws.proofs.HandedOn.{handed}

pub leaf_found-requires : goal.leaf_found-requires
leaf_found-requires c = record { proper = search rules; k_in_bounds = (search (found_length, c.in_ok-k.was), search rules); below = search (found_below, c.in_ok-k.was) }

pub returns-in_err-k : goal.returns-in_err-k
returns-in_err-k c = record { value = rw (handed c.from_residual.ensures.1) (search (leaf_refused, c.in_err-k.was)); lies = rw (handed c.from_residual.ensures.1) (search refused_lies) }

pub returns : goal.returns
returns c = record { value = search (leaf_found, c.in_ok-k.was); lies = search rules }
