-- Runs of calls after one wipe: their moments, and the book of their history.
use Rattle.std.specs.Prelude.{List, [], ◌∷◌, not, ℕ, ◌+◌, eqb, get_or}
use Rattle.meaning.specs.Lists.{filter}
use Rattle.meaning.specs.Shape.{leaves_for, total}
use Rattle.meaning.specs.Change.{Store}
use Rattle.meaning.specs.Calls.{after, after_wipe, length_call, read_call, show_call, audit_call, create_call, write_call, resize_call, delete_call}
use Rattle.meaning.specs.Answers.{answer_of, finish_answer, leaf_answer, read_out, shown_part}
use Rattle.meaning.specs.Answers.{Said, yields, refuses, value_said, done_said, leaf_said, said_with}
use Rattle.meaning.specs.declared.Edition.{Edition}

-- the calls but wipe, with any arguments
pub data Call : Type 0 where
  create audit : Call
  write : (r offset : ℕ) → List ℕ → Call
  resize : (r len : ℕ) → Call
  delete tell_length : (r : ℕ) → Call
  read : (r offset size : ℕ) → Call
  show_leaf : (r k : ℕ) → Call

-- What each call says: the number and values of its answer, by the maps of Answers. A read also says the bytes that it puts in the lent output;
-- show, beside where in the pool the leaf's data bytes start and how many they are, the bytes shown.
unfoldable pub says : Edition → Store → Call → Said
says e S create = value_said (answer_of (create_call e S.pool S.records))
says e S audit = value_said (answer_of (audit_call e S.pool S.records))
says e S (write r offset d) = done_said (answer_of (write_call e S.pool S.records r offset d))
says e S (resize r len) = done_said (answer_of (resize_call e S.pool S.records r len))
says e S (delete r) = done_said (answer_of (delete_call e S.pool S.records r))
says e S (tell_length r) = value_said (answer_of (length_call e S.pool S.records r))
says e S (read r offset size) =
    let o = read_call e S.pool S.records r offset size in
    said_with (done_said (finish_answer o)) (read_out o [])
says e S (show_leaf r k) =
    let o = show_call e S.pool S.records r k in
    said_with (leaf_said (leaf_answer e o)) (shown_part e S.pool o)

-- the store after a call
unfoldable pub perform : Edition → Store → Call → Store
perform e S create = after e S (create_call e S.pool S.records)
perform e S audit = after e S (audit_call e S.pool S.records)
perform e S (write r offset d) = after e S (write_call e S.pool S.records r offset d)
perform e S (resize r len) = after e S (resize_call e S.pool S.records r len)
perform e S (delete r) = after e S (delete_call e S.pool S.records r)
perform e S (tell_length r) = after e S (length_call e S.pool S.records r)
perform e S (read r offset size) = after e S (read_call e S.pool S.records r offset size)
perform e S (show_leaf r k) = after e S (show_call e S.pool S.records r k)

-- the moments of a run: the store at its start, and after each call
unfoldable pub moments : Edition → Store → List Call → List Store
moments e S [] = S ∷ []
moments e S (c ∷ cs) = S ∷ moments e (perform e S c) cs

-- a run starts with a wipe; the demands ask that the store wiped has good lengths
unfoldable pub run : Edition → Store → List Call → List Store
run e S calls = moments e (after_wipe e S) calls

-- The book of a history: each blob alive, as its root and the length last given to it by a call that was not refused.
-- A new blob has length 0; a later entry of a root stands for an earlier one.
unfoldable pub without : ℕ → List (ℕ × ℕ) → List (ℕ × ℕ)
without r book = filter (λ b. not (eqb b.0 r)) book

unfoldable pub noted : Call → Said → List (ℕ × ℕ) → List (ℕ × ℕ)
noted c (refuses r) book = book
noted create (yields vs) book = (get_or vs 0 0, 0) ∷ book
noted (resize r len) (yields vs) book = (r, len) ∷ without r book
noted (delete r) (yields vs) book = without r book
noted audit (yields vs) book = book
noted (write r offset d) (yields vs) book = book
noted (tell_length r) (yields vs) book = book
noted (read r offset size) (yields vs) book = book
noted (show_leaf r k) (yields vs) book = book

unfoldable pub book_from : Edition → Store → List (ℕ × ℕ) → List Call → List (ℕ × ℕ)
book_from e S book [] = book
book_from e S book (c ∷ cs) = book_from e (perform e S c) (noted c (says e S c) book) cs

unfoldable pub book_of : Edition → Store → List Call → List (ℕ × ℕ)
book_of e S calls = book_from e (after_wipe e S) [] calls

-- the sum, over the blobs of a book, of the block total for each length
unfoldable pub blocks_of : Edition → List (ℕ × ℕ) → ℕ
blocks_of e [] = 0
blocks_of e (b ∷ bs) = total e.fan (leaves_for e.leaf b.1) + blocks_of e bs
