use borrow.Author.Rules.{rules}
use mathlib.Core.Path.{refl}
use Rattle.call_read.proofs.copy.Stretches.{still_reading, copied_start, copied_all}
use Rattle.call_read.proofs.copy.read_at.Goals as goal

pub loop-pos-init : goal.loop-pos-init
loop-pos-init c = (search rules, refl, search copied_start)

pub copy_stretch-pos-requires : goal.copy_stretch-pos-requires
copy_stretch-pos-requires c = record { proper = search rules; reading = search still_reading; pos_in_bounds = search rules }

pub returns : goal.returns
returns c = search copied_all
