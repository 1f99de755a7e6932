-- The lent part came back as the block's bytes, over zeros.
use Rattle.plan_slot.proofs.payload.Copies.{copied_front}
use native.Mathlib.Omega.{arith}
use Rattle.plan_slot.proofs.payload.copy_payload.Goals as goal

pub returns : goal.returns
returns c = record { payload_after = search copied_front; of_bytes = record { small = λ i. omega (arith, c.type_inv.block i) } }
