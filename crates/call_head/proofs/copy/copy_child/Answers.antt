use Rattle.laws.proofs.Editions.{digit_below}
use Rattle.call_head.proofs.descend.Descended.{one_lower}
use borrow.Author.Rules.{rules}
use Rattle.call_head.proofs.copy.copy_child.Goals as goal

pub child_at-s-requires : goal.child_at-s-requires
child_at-s-requires c = record { proper = search rules; i_lt_fan = search digit_below }

pub copy_leaf-requires : goal.copy_leaf-requires
copy_leaf-requires c = record { proper = search rules; copying = search rules; s_value = search one_lower }
