-- What check 2 finds decides, then check 3.
use Rattle.laws.proofs.Checks.{check_flaw, check_passed, check_shape}
use Rattle.base_block.proofs.check_block.Goals as goal

pub returns-in-Some : goal.returns-in-Some
returns-in-Some c = search check_flaw

pub returns-then-formed_of : goal.returns-then-formed_of
returns-then-formed_of c = search check_passed

pub returns : goal.returns
returns c = search check_shape
