-- The height noted decides: no leaf of the blob, or the leaf's stretch that differs.
use Rattle.plan_write.proofs.stretch.StretchAnswered.{plan_outside, plan_inner, plan_leaf}
use Rattle.plan_write.proofs.stretch.plan_slot.Goals as goal

pub returns-in_default-clause-value : goal.returns-in_default-clause-value
returns-in_default-clause-value c =
    let noted = c.in_default.ensures in
    search plan_inner

pub returns-in_default-2-clause-value : goal.returns-in_default-2-clause-value
returns-in_default-2-clause-value c =
    let none = rw c.in_default.is at c.height_at.ensures in
    search plan_outside

pub returns-clause-value : goal.returns-clause-value
returns-clause-value c =
    let noted = c.in-Some-eq0.ensures in
    search plan_leaf
