-- The step is the blocks of a full subtree. The check finds this alone: it stands here so that a wrong step is refused by name.
use borrow.Author.Rules.{rules}
use Rattle.plan_longer.proofs.fresh.put_children.Goals as goal

pub returns-clause-payload_after : goal.returns-clause-payload_after
returns-clause-payload_after c = search rules
