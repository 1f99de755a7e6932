-- A slot changes if its height is noted.
use native.Mathlib.Omega.{arith}
use borrow.Author.Rules.{rules}
use Rattle.call_count.proofs.Counts.{counting_end, clear_one}
use Rattle.call_count.proofs.count_clearing.Goals as goal

pub count_over-requires : goal.count_over-requires
count_over-requires c = record { may = λ i low. search rules; few = λ i k low is. search rules }

pub returns : goal.returns
returns c =
    record {
      value = λ e R. counting_end _ c.args.n _ _ c.count_over.ensures (omega arith) (record { plan = _; many = λ j k low is. clear_one _ _ _ (search rules) (e, R) });
      upper_bound = c.count_over.ensures.few;
    }
