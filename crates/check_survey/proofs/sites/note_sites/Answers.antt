-- The root and all below it are noted, by the height that its block has.
use Rattle.check_survey.proofs.sites.NotedAsTheyStand.{blob_noted}
use Rattle.check_survey.proofs.sites.Bounds.{root_in_pool, root_start}
use borrow.Author.Rules.{rules}
use Rattle.check_survey.proofs.sites.note_sites.Goals as goal

pub block_of-requires : goal.block_of-requires
block_of-requires c = search root_in_pool

pub note_root-requires : goal.note_root-requires
note_root-requires c = record { proper = search rules; block_start = search root_start }

pub returns : goal.returns
returns c = search blob_noted
