-- What each call says, in one form for all calls: its outcome is refused, and it says the refusal; or done, and it says the values of what was done.
-- The maps of Answers, which `says` is made of, are each of this form.
use mathlib.Core.Path.{◌≡◌, refl}
use mathlib.Core.List.{List, [], ◌∷◌}
use Prim.Native.Nat.{ℕ, ◌+◌, ◌*◌}
use native.Mathlib.Omega.{arith}
use Rattle.meaning.specs.declared.Edition.{Edition}
use Rattle.meaning.specs.declared.Refusal.{Refusal}
use Rattle.meaning.specs.Lists.{part}
use Rattle.meaning.specs.Change.{Change, Store}
use Rattle.meaning.specs.Calls.{Outcome, refused, done}
use Rattle.meaning.specs.Calls.{length_call, read_call, show_call, audit_call, create_call, write_call, resize_call, delete_call}
use Rattle.meaning.specs.Answers.{answer_of, finish_answer, leaf_answer, read_out, shown_part}
use Rattle.meaning.specs.Answers.{Said, yields, refuses, value_said, done_said, leaf_said, said_with}
use Rattle.meaning.specs.Run.{create, audit, write, resize, delete, tell_length, read, show_leaf, says}

-- what an outcome says, given its values
unfoldable pub said_by : {A : Type 0} → (A → List ℕ) → Outcome A → Said
said_by values (refused r) = refuses r
said_by values (done a cs) = yields (values a)

-- the values of a slot, a length or a count
abbrev pub one_number : ℕ → List ℕ
one_number n = n ∷ []

-- of a change
abbrev pub no_number : Unit {0} → List ℕ
no_number v = []

-- of bytes read
abbrev pub all_bytes : List ℕ → List ℕ
all_bytes d = d

-- of a leaf shown, which is in slot v .0 with v.1 data bytes: where they start in the pool, how many they are, and the bytes
abbrev pub leaf_shown : Edition → (P : List ℕ) → ℕ × ℕ → List ℕ
leaf_shown e P v = (e.size * v.0 + 16) ∷ v.1 ∷ part (e.size * v.0 + 16) v.1 P

-- what is said of an outcome that is refused: it is
pub said_refused : {A : Type 0} (values : A → List ℕ) (o : Outcome A) (q : Refusal) → said_by values o ≡ refuses q → o ≡ refused q
unfolding said_by
said_refused values (refused r) q h = cc
said_refused values (done a cs) q h = let z : ◌≡◌ {A = ℕ} 0 1 = cc in absurd (omega arith)

-- and the other way round
pub refused_said : {A : Type 0} (values : A → List ℕ) (o : Outcome A) (q : Refusal) → o ≡ refused q → said_by values o ≡ refuses q
unfolding said_by
refused_said values o q h = rw h

-- what is said of one that is done: it is
pub said_done : {A : Type 0} (values : A → List ℕ) (o : Outcome A) (vs : List ℕ) → said_by values o ≡ yields vs
    → (a : A) × (cs : List Change) × (o ≡ done a cs) × (values a ≡ vs)
unfolding said_by
said_done values (refused r) vs h = let z : ◌≡◌ {A = ℕ} 0 1 = cc in absurd (omega arith)
said_done values (done a cs) vs h = (a, cs, refl, cc)

-- the maps: a length, a count of live slots, or a new slot
value_said_lem : (o : Outcome ℕ) → value_said (answer_of o) ≡ said_by one_number o
unfolding value_said answer_of said_by
value_said_lem (refused r) = refl
value_said_lem (done n cs) = refl

-- a change
done_said_lem : (o : Outcome (Unit {0})) → done_said (answer_of o) ≡ said_by no_number o
unfolding done_said answer_of said_by
done_said_lem (refused r) = refl
done_said_lem (done v cs) = refl

-- bytes read
read_said : (o : Outcome (List ℕ)) → said_with (done_said (finish_answer o)) (read_out o []) ≡ said_by all_bytes o
unfolding said_with done_said finish_answer read_out said_by
read_said (refused r) = refl
read_said (done d cs) = refl

-- a leaf shown
leaf_said_lem : (e : Edition) (P : List ℕ) (o : Outcome (ℕ × ℕ)) → said_with (leaf_said (leaf_answer e o)) (shown_part e P o) ≡ said_by (leaf_shown e P) o
unfolding said_with leaf_said leaf_answer shown_part said_by
leaf_said_lem e P (refused r) = refl
leaf_said_lem e P (done v cs) = refl

-- each call, by its outcome
module _ (e : Edition) (S : Store) where
  pub says_create : says e S create ≡ said_by one_number (create_call e S.pool S.records)
  unfolding says
  says_create = value_said_lem _

  pub says_audit : says e S audit ≡ said_by one_number (audit_call e S.pool S.records)
  unfolding says
  says_audit = value_said_lem _

  pub says_write : (r offset : ℕ) (d : List ℕ) → says e S (write r offset d) ≡ said_by no_number (write_call e S.pool S.records r offset d)
  unfolding says
  says_write r offset d = done_said_lem _

  pub says_resize : (r len : ℕ) → says e S (resize r len) ≡ said_by no_number (resize_call e S.pool S.records r len)
  unfolding says
  says_resize r len = done_said_lem _

  pub says_delete : (r : ℕ) → says e S (delete r) ≡ said_by no_number (delete_call e S.pool S.records r)
  unfolding says
  says_delete r = done_said_lem _

  pub says_length : (r : ℕ) → says e S (tell_length r) ≡ said_by one_number (length_call e S.pool S.records r)
  unfolding says
  says_length r = value_said_lem _

  pub says_read : (r offset size : ℕ) → says e S (read r offset size) ≡ said_by all_bytes (read_call e S.pool S.records r offset size)
  unfolding says
  says_read r offset size = read_said _

  pub says_show : (r k : ℕ) → says e S (show_leaf r k) ≡ said_by (leaf_shown e S.pool) (show_call e S.pool S.records r k)
  unfolding says
  says_show r k = leaf_said_lem e S.pool _
