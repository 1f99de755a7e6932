-- The loop's invariant: the first i bytes are the part of src from `from` on, i long. At the end i is the length.
use mathlib.Core.Path.{◌≡◌}
use lib.ListN.{take}
use Rattle.meaning.specs.Lists.{part}
use Rattle.base_bytes.proofs.runs.fill.Given as goal

abbrev pub invariant-loop-i : goal.invariant-loop-i
invariant-loop-i l = take l.i l.dst ≡ part l.from l.i l.src
