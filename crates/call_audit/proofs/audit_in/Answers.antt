-- The pool check's fault, or the count.
use Rattle.check_blob.proofs.Opening.{whole_sized}
use Rattle.call_audit.proofs.LiveCounted.{audit_fault, audit_live}
use borrow.Author.Rules.{rules}
use Rattle.call_audit.proofs.audit_in.Goals as goal
use Rattle.laws.proofs.HandedOn.{handed}

pub check-requires : goal.check-requires
check-requires c = record { proper = search rules; sized = search whole_sized; n_le_most = search rules }

pub returns-in_err-check : goal.returns-in_err-check
returns-in_err-check c = rw (handed c.from_residual.ensures.1) (search (audit_fault, c.in_err-check.was))

pub returns : goal.returns
returns c = search (audit_live, c.in_ok-check.was)
