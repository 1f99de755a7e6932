-- The blocks of a blob that is to have more leaves.
use mathlib.Core.Path.{◌≡◌}
use Prim.Native.Nat.{ℕ, ◌≤◌}
use native.Mathlib.Omega.{arith}
use Rattle.meaning.specs.declared.Edition.{Edition}
use Rattle.meaning.specs.Edition.{Proper}
use Rattle.meaning.specs.Shape.{total}
use Rattle.laws.proofs.Totals.{total_mono}

-- a blob with no more leaves has no more blocks
pub blocks_within : (e : Edition) → Proper e → (leaves want have all : ℕ) → leaves ≤ want → have ≡ total e.fan leaves → all ≡ total e.fan want
    → have ≤ all
blocks_within e p leaves want have all less eh ea = omega (arith, total_mono e.fan leaves want p.two less)
