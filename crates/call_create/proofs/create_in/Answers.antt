-- The pool check's fault, or what is behind it.
use Rattle.check_blob.proofs.Opening.{whole_sized}
use Rattle.call_create.proofs.BehindThePoolCheck.{create_fault, create_behind}
use borrow.Author.Rules.{rules}
use Rattle.call_create.proofs.create_in.Goals as goal

pub check-requires : goal.check-requires
check-requires c = record { proper = search rules; sized = search whole_sized; n_le_most = search rules }

pub returns-in-Err : goal.returns-in-Err
returns-in-Err c = search create_fault

pub returns-in-Ok : goal.returns-in-Ok
returns-in-Ok c = search create_behind
