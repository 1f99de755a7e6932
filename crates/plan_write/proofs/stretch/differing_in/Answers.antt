-- Nothing touched, or the same bytes: no stretch. Else the touched stretch, which lies in the leaf's bytes.
use Rattle.plan_write.proofs.stretch.StretchAnswered.{in_block, place_fits}
use Rattle.plan_write.proofs.stretch.StretchAnswered.{none_touched, in_source, none_differs, some_differs, chosen_some}
use borrow.Author.Rules.{rules}
use native.Mathlib.Omega.{arith}
use Rattle.laws.proofs.Numbers.{OfBytes}
use Rattle.plan_write.proofs.stretch.differing_in.Goals as goal

pub returns-then-t-eq0 : goal.returns-then-t-eq0
returns-then-t-eq0 c = record { value = search none_touched; chosen = search rules }

pub overflow_add-t : goal.overflow_add-t
overflow_add-t c = search place_fits

pub same_bytes-requires : goal.same_bytes-requires
same_bytes-requires c = (search in_block, search in_source)

pub returns-then-same_bytes : goal.returns-then-same_bytes
returns-then-same_bytes c = record { value = search none_differs; chosen = search rules }

pub returns : goal.returns
returns c =
    let byte : OfBytes c.args.b.now = record { small = λ i. omega (arith, c.type_inv.b i) } in
    record { value = search some_differs; chosen = search chosen_some }
