-- The visit of a root, from its own height on.
use Rattle.check_blob.proofs.walk.RootNoted.{root_is, root_in_pool, root_start}
use borrow.Author.Rules.{rules}
use Rattle.check_blob.proofs.walk.from_root.Goals as goal

pub block_of-requires : goal.block_of-requires
block_of-requires c = search root_in_pool

pub visit_root-requires : goal.visit_root-requires
visit_root-requires c = record { proper = search rules; block_start = search root_start }

pub returns : goal.returns
returns c = search root_is
