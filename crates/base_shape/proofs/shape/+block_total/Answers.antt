-- `base_shape::shape::block_total` meets its contract: where the sheet has a row, by the sheet; everywhere else the definition has the same rule, and a share
-- is less, so that the calls end; three blocks for each leaf or fewer fit 64 bits.
use mathlib.Core.Path.{◌≡◌}
use Prim.Native.Nat.{ℕ}
use native.Mathlib.Omega.{arith}
use Rattle.meaning.specs.Shape.{up, total}
use Rattle.laws.proofs.Totals.{up_falls, total_small, total_more, total_le}
use Rattle.base_shape.proofs.shape.+block_total.Goals as goal

-- where the fan-out is 12, a total at 12 is one at the fan-out
read_off : (fan n r : ℕ) → fan ≡ 12 → r ≡ total 12 n → r ≡ total fan n
read_off fan n r twelve row = rw twelve row

pub returns-then-n-le937 : goal.returns-then-n-le937
returns-then-n-le937 t c = search read_off

pub returns-then-n-le1 : goal.returns-then-n-le1
returns-then-n-le1 t c =
    let x = c.args in
    omega (arith, total_small x.fan x.n (omega arith))

pub block_total-requires : goal.block_total-requires
unfolding up
block_total-requires t c =
    let x = c.args in
    omega (arith, up_falls x.n x.fan (omega arith) (omega arith))

pub overflow_add-result : goal.overflow_add-result
unfolding up
overflow_add-result t c =
    let x = c.args in
    omega (arith, total_more x.fan x.n (omega arith) (omega arith), total_le x.fan x.n (omega arith))

pub returns : goal.returns
unfolding up
returns t c =
    let x = c.args in
    omega (arith, total_more x.fan x.n (omega arith) (omega arith))
