-- Each slot is planned alone.
use native.Mathlib.Omega.{arith}
use borrow.Author.Rules.{rules}
use Rattle.call_count.proofs.Counts.{counting_end}
use Rattle.call_count.proofs.count_writing.Goals as goal

pub count_over-requires : goal.count_over-requires
count_over-requires c = record { may = λ i low. search rules; few = λ i k low is. search rules }

pub returns : goal.returns
returns c =
    record {
      by_index = λ R. counting_end _ c.args.n _ _ c.count_over.ensures (omega arith) (record { plan = _; many = λ j k low is. search rules });
      upper_bound = c.count_over.ensures.few;
    }
