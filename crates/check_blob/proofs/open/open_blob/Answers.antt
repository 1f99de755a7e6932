-- Not a root, or the walk's answer.
use Rattle.check_blob.proofs.Opening.{whole_sized, root_below, open_unrooted, open_walked}
use borrow.Author.Rules.{rules}
use Rattle.check_blob.proofs.open.open_blob.Goals as goal

pub returns-then-not-is_root : goal.returns-then-not-is_root
returns-then-not-is_root c = search open_unrooted

pub from_root-requires : goal.from_root-requires
from_root-requires c = record { proper = search rules; sized = search whole_sized; slot_lt_n = (search root_below, search rules) }

pub returns : goal.returns
returns c = search open_walked
