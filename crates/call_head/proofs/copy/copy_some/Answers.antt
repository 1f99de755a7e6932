use Rattle.call_head.proofs.descend.Descended.{at_root}
use borrow.Author.Rules.{rules}
use Rattle.call_head.proofs.copy.copy_some.Goals as goal

pub copy_leaf-requires : goal.copy_leaf-requires
copy_leaf-requires c = record { proper = search rules; copying = search rules; s_value = search at_root }
