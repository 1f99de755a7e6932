-- The loop's invariant: the first i bytes are the i lowest of x, and rest is x without them. At the end i is the length.
use mathlib.Core.Path.{◌≡◌}
use Prim.Native.Nat.{◌/◌, ◌^◌}
use lib.ListN.{take}
use Rattle.meaning.specs.Lists.{bytes}
use Rattle.base_bytes.proofs.number.put_number.Given as goal

abbrev pub invariant-loop-i : goal.invariant-loop-i
invariant-loop-i l = (l.rest ≡ l.x / 256 ^ l.i) × (take l.i l.dst ≡ bytes l.i l.x)
