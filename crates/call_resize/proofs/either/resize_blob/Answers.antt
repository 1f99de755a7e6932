-- Shorter, or not.
use Rattle.call_resize.proofs.either.ShorterOrLonger.{shorter, longer}
use borrow.Author.Rules.{rules}
use Rattle.call_resize.proofs.either.resize_blob.Goals as goal

pub shorten-requires : goal.shorten-requires
shorten-requires c = record { proper = search rules; shorter = search shorter; drafts = search rules }

pub lengthen-requires : goal.lengthen-requires
lengthen-requires c = record { proper = search rules; longer = search longer; drafts = search rules }
