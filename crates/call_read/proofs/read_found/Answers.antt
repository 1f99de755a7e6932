-- Refusal 10, or the copy.
use Rattle.call_read.proofs.ReadAnswered.{read_past, read_within, reading_starts}
use borrow.Author.Rules.{rules}
use Rattle.call_read.proofs.read_found.Goals as goal

pub returns-then-not-lies_within : goal.returns-then-not-lies_within
returns-then-not-lies_within c = search read_past

pub read_at-requires : goal.read_at-requires
read_at-requires c = record { proper = search rules; reading = search reading_starts }

pub returns : goal.returns
returns c = search read_within
