-- What is printed of a call's answer: its refusal's number (0 for none), its slot (- for none), its values.
use Rattle.std.specs.Prelude.{List, ℕ, Option, None, Some, Result, Ok, Err, codes, decimal, ◌++◌}
use Rattle.meaning.specs.Refusals.{number_of}
use Rattle.meaning.specs.declared.Refusal.{Refusal}

-- a refusal's number and its slot
unfoldable pub refusal_text : ℕ → Option ℕ → List ℕ
refusal_text n None = codes " " ++ decimal n ++ codes " -"
refusal_text n (Some slot) = codes " " ++ decimal n ++ codes " " ++ decimal slot

-- no refusal
abbrev pub passed_text : List ℕ
passed_text = codes " 0 -"

-- a refusal
abbrev pub refused_text : Refusal → List ℕ
refused_text r = refusal_text (number_of r.reason) r.named

-- a value
unfoldable pub value_text : Result ℕ Refusal → List ℕ
value_text (Ok n) = passed_text ++ codes " " ++ decimal n
value_text (Err r) = refused_text r

-- no value
unfoldable pub done_text : {A : Type 0} → Result A Refusal → List ℕ
done_text (Ok _) = passed_text
done_text (Err r) = refused_text r

-- a leaf's start and count
unfoldable pub leaf_text : Result (ℕ × ℕ) Refusal → List ℕ
leaf_text (Ok (start, count)) = passed_text ++ codes " " ++ decimal start ++ codes " " ++ decimal count
leaf_text (Err r) = refused_text r
