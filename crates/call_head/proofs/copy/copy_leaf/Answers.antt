use Rattle.call_head.proofs.copy.Copied.{stretch_fits, stretch_done}
use borrow.Author.Rules.{rules}
use Rattle.call_head.proofs.copy.copy_leaf.Goals as goal

pub fill_payload-requires : goal.fill_payload-requires
fill_payload-requires c = record { proper = search rules; dst_bound = search stretch_fits }

pub returns : goal.returns
returns c = search stretch_done
