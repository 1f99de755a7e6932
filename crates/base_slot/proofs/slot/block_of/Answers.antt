-- A block is the slot's part of the pool.
use Rattle.meaning.specs.Bytes.{block}
use borrow.Author.Rules.{rules}
use Rattle.base_slot.proofs.slot.block_of.Goals as goal

pub returns : goal.returns
unfolding block
returns c = search rules
