-- Past the leaves, or the slot's payload and count.
use Rattle.call_show.proofs.place.PlaceByRow.{leaf_past, leaf_in_pool, leaf_shown_lem, leaf_lies, refused_lies}
use borrow.Author.Rules.{rules}
use Rattle.call_show.proofs.place.leaf_found.Goals as goal

pub returns-then-k-i : goal.returns-then-k-i
returns-then-k-i c = record { value = search leaf_past; lies = search refused_lies }

pub block_of-requires : goal.block_of-requires
block_of-requires c = search leaf_in_pool

pub payload_start-requires : goal.payload_start-requires
payload_start-requires c = record { proper = search rules; size_in_bounds = search leaf_in_pool }

pub returns : goal.returns
returns c = record { value = search leaf_shown_lem; lies = search leaf_lies }
