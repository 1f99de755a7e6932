-- Edition one is proper, and the call below is the definition's for every proper edition.
use Rattle.store_head.proofs.Handing.{one_here, out_one, stays_word}
use borrow.Author.Rules.{rules}
use Rattle.store_head.proofs.next_bytes.Goals as goal

pub next_call-requires : goal.next_call-requires
next_call-requires c = search one_here

pub returns : goal.returns
returns c = record { value = search rules; out_after = search out_one; result_bound = search stays_word }
