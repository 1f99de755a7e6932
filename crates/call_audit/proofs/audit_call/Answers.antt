-- Refusals 1 and 2 handed on, or the audit behind them.
use Rattle.check_gate.proofs.BehindTheGate.{gate_whole}
use Rattle.check_blob.proofs.Lending.{flags_reach, flags_lent}
use Rattle.call_audit.proofs.LiveCounted.{audit_barred, audit_behind}
use borrow.Author.Rules.{rules}
use Rattle.call_audit.proofs.audit_call.Goals as goal

pub slice_bounds-audit_in-end : goal.slice_bounds-audit_in-end
slice_bounds-audit_in-end c = search flags_reach

pub audit_in-requires : goal.audit_in-requires
audit_in-requires c = record { proper = search rules; whole = search gate_whole; seen_value = search flags_lent }

pub returns-in-Err : goal.returns-in-Err
returns-in-Err c = search audit_barred

pub returns-in-Ok : goal.returns-in-Ok
returns-in-Ok c = search audit_behind
