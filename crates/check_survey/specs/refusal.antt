-- The refusals of write and resize behind the pool check, in document 01's order, as a check.
use Rattle.std.specs.Prelude.{List, ℕ, ◌+◌, ◌-◌, ltb, Err, Ok}
use Rattle.meaning.specs.Lists.{pick}
use Rattle.meaning.specs.declared.Edition.{Edition}
use Rattle.meaning.specs.Shape.{leaves_for, total}
use Rattle.meaning.specs.Refusals.{Checked, nowhere}
use Rattle.meaning.specs.declared.Reason.TheVariants.{WornOut, OutOfRange, NoRoom}
use Rattle.check_survey.specs.worn.{worn_among}

-- of a write inside a blob of so many bytes: 12, else 10
unfoldable pub write_barred : (R hs : List ℕ) → (n bytes offset size : ℕ) → Checked
write_barred R hs n bytes offset size =
    pick (worn_among R hs n) (Err (nowhere WornOut)) (pick (ltb bytes (offset + size)) (Err (nowhere OutOfRange)) (Ok tt))

-- of a resize of a blob of so many leaves, with so many free slots: 12, else 11
unfoldable pub resize_barred : Edition → (R hs : List ℕ) → (n leaves len free : ℕ) → Checked
resize_barred e R hs n leaves len free =
    pick (worn_among R hs n) (Err (nowhere WornOut))
    (pick (ltb free (total e.fan (leaves_for e.leaf len) - total e.fan leaves)) (Err (nowhere NoRoom)) (Ok tt))
