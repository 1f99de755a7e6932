-- The refusal handed on, or the read of what the row spells.
use Rattle.check_blob.proofs.Rows.{found_length}
use Rattle.call_read.proofs.ReadAnswered.{read_refused, found_bytes, found_readable, read_found}
use borrow.Author.Rules.{rules}
use Rattle.call_read.proofs.read_in.Goals as goal

pub read_found-requires : goal.read_found-requires
read_found-requires c = record {
  proper = search rules;
  k_in_bounds = (search found_length, search rules);
  readable = search found_readable;
  bytes_value = search found_bytes;
}

pub returns-in-Err : goal.returns-in-Err
returns-in-Err c = search read_refused

pub returns-in-Ok : goal.returns-in-Ok
returns-in-Ok c = search read_found
