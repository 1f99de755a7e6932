use Rattle.base_shape.proofs.shape.+height_for.Given as goal

abbrev pub decreases-height_for : goal.decreases-height_for
decreases-height_for l = l.n
