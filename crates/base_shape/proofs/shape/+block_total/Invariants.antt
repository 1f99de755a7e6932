use Rattle.base_shape.proofs.shape.+block_total.Given as goal

abbrev pub decreases-block_total : goal.decreases-block_total
decreases-block_total l = l.n
