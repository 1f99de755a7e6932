-- Each way out is a law of check 2: mark, own slot, version below, version above, none.
use Rattle.laws.proofs.Checks.{flaw_mark, flaw_own, flaw_old, flaw_new, flaw_none}
use Rattle.base_block.proofs.flaws.flaw_of.Goals as goal

pub returns-then-not-starts_with : goal.returns-then-not-starts_with
returns-then-not-starts_with c = search flaw_mark

pub returns-then-own-slot : goal.returns-then-own-slot
returns-then-own-slot c = search flaw_own

pub returns-then-found-version : goal.returns-then-found-version
returns-then-found-version c = search flaw_old

pub returns-then-version-found : goal.returns-then-version-found
returns-then-version-found c = search flaw_new

pub returns : goal.returns
returns c = search flaw_none
