-- By cases: the length, or the refusal.
use Rattle.tjornsaki.proofs.HeadNumbers.{head_opened, head_refused}
use Rattle.tjornsaki.proofs.heads.put_head.Goals as goal

pub returns-in-Ok : goal.returns-in-Ok
returns-in-Ok c = search head_opened

pub returns-in-Err : goal.returns-in-Err
returns-in-Err c = search head_refused
