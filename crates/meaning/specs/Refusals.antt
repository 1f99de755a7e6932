-- When the store says no: a refusal, and how checks follow one another.
use Rattle.std.specs.Prelude.{Bool, true, false, ℕ, Option, Some, None, Result, Ok, Err}
use Rattle.meaning.specs.declared.Reason.{Reason}
use Rattle.meaning.specs.declared.Reason.TheVariants.{WrongLengths, BadRecord, NotARoot, Spoiled, Moved, RolledBack, Ahead, WrongShape, Reintroduced, OutOfRange, NoRoom, WornOut}
use Rattle.meaning.specs.declared.Refusal.{Refusal}

-- document 01's number of each reason
unfoldable pub number_of : Reason → ℕ
number_of WrongLengths = 1
number_of BadRecord = 2
number_of NotARoot = 3
number_of Spoiled = 4
number_of Moved = 5
number_of RolledBack = 6
number_of Ahead = 7
number_of WrongShape = 8
number_of Reintroduced = 9
number_of OutOfRange = 10
number_of NoRoom = 11
number_of WornOut = 12

-- every refusal returns its reason, which has a number, and the named slot, or no slot
unfoldable pub refusal_of : Reason → Option ℕ → Refusal
refusal_of why s = record { reason = why; named = s }

unfoldable pub at : Reason → ℕ → Refusal
at why s = refusal_of why (Some s)

unfoldable pub nowhere : Reason → Refusal
nowhere why = refusal_of why None

-- what a check answers: nothing, where it passes, or its fault
abbrev pub Checked : Type 0
Checked = Result (Unit {0}) Refusal

-- a check that must hold, or the refusal; then the next one
unfoldable pub must : Bool → Refusal → Checked → Checked
must true r next = next
must false r next = Err r

-- the first fault of two checks
unfoldable pub first : Checked → Checked → Checked
first (Ok v) next = next
first (Err r) next = Err r

-- what is wrong with a slot, if anything is, names it; then the next check
unfoldable pub unless : Option Reason → ℕ → Checked → Checked
unless None s next = next
unless (Some why) s next = Err (at why s)

-- the number that stands for no slot
unfoldable pub slot_number : Option ℕ → ℕ
slot_number None = 0xFFFF_FFFF_FFFF_FFFF
slot_number (Some s) = s
