use mathlib.Core.Path.{◌≡◌}
use native.Mathlib.Omega.{arith}
use Rattle.call_count.proofs.Counts.{counting_none, counting_on}
use Rattle.call_count.proofs.count_over.Goals as goal

pub loop-i-init : goal.loop-i-init
loop-i-init g c = counting_none _ c.args.n

pub overflow_add-count : goal.overflow_add-count
overflow_add-count g c =
    let small = c.requires.few _ _ c.loop-i-test.true c.plan-count.ensures in
    record { fits = omega (arith, small, c.loop-i.invariant.few, c.ranges.n.fits, c.loop-i-test.true) }

pub loop-i-preserved : goal.loop-i-preserved
loop-i-preserved g c =
    let small = c.requires.few _ _ c.loop-i-test.true c.plan-count.ensures in
    counting_on _ c.args.n c.loop-i.i _ c.loop-i.invariant c.loop-i-test.true _ small (λ s. s.many _ _ c.loop-i-test.true c.plan-count.ensures)

pub returns : goal.returns
returns g c =
    let z : c.loop-i.i ≡ c.args.n = omega (arith, c.loop-i-test.false, c.loop-i.auto.i-end) in
    rw z at c.loop-i.invariant
