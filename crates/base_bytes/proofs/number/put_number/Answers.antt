use mathlib.Core.Path.{refl, sym}
use Prim.Native.Nat.{◌<◌, ◌≤◌}
use native.Mathlib.Nat.{div-one}
use native.Mathlib.Omega.{arith}
use lib.ListN.{length}
use Rattle.meaning.specs.Lists.{bytes}
use Rattle.laws.proofs.Numbers.{rest_more}
use Rattle.laws.proofs.Parts.{written_more, written_whole}
use Rattle.base_bytes.proofs.number.put_number.Goals as goal

pub loop-i-init : goal.loop-i-init
unfolding bytes
loop-i-init c = (sym (div-one _), refl)

pub loop-i-preserved : goal.loop-i-preserved
loop-i-preserved c =
    let h : c.loop-i.i < length c.loop-i.dst = omega arith in
    (search rest_more, search written_more)

pub returns : goal.returns
returns c =
    let h : length c.loop-i.dst ≤ c.loop-i.i = omega arith in
    search written_whole
