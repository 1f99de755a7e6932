-- The numbers of the stretch, each by its own difference.
use Rattle.plan_write.proofs.stretch.StretchAnswered.{numbers_touched}
use Rattle.plan_write.proofs.stretch.touched.Goals as goal

pub returns : goal.returns
returns c = search numbers_touched
