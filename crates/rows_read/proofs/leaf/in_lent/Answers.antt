-- A leaf's place of any edition, at edition one.
use Rattle.rows_size.proofs.AtEditionOne.{one_here}
use Rattle.rows_read.proofs.leaf.in_lent.Goals as goal

pub find_leaf_call-requires-clause-proper : goal.find_leaf_call-requires-clause-proper
find_leaf_call-requires-clause-proper c = search one_here
