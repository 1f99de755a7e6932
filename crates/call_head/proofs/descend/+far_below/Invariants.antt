use Rattle.call_head.proofs.descend.+far_below.Given as goal

abbrev pub decreases-far_below : goal.decreases-far_below
decreases-far_below l = l.d
