-- The pool check as the code has it: of the blobs that it finds, the named one is noted.
use Rattle.std.specs.Prelude.{List, [], ◌∷◌, ℕ, eqb, Bool, Option, Some}
use Rattle.std.specs.Option.{option_eq}
use Rattle.meaning.specs.Lists.{pick}
use Rattle.meaning.specs.Bytes.{state}
use Rattle.meaning.specs.Tree.{Blob, root_of}
use Rattle.meaning.specs.Walk.{Found, fine, from_root, roots, pool_check}
use Rattle.meaning.specs.declared.Edition.{Edition}
use Rattle.check_blob.specs.notes.{Noted, map_found, note_blob}

-- what was noted so far
unfoldable pub kept : (b k : ℕ) → (o : List ℕ) → Noted
kept b k o = record { bytes = b; leaves = k; row = o }

-- whether slot i is the named root: with none named, no slot is
unfoldable pub is_named : (named : Option ℕ) → (i : ℕ) → Bool
is_named named i = option_eq eqb named (Some i)

-- the blob with the named root is noted, any other leaves things as they were
unfoldable pub note_if_named : (named : Option ℕ) → Noted → Blob → Noted
note_if_named named x b = pick (is_named named (root_of b)) (note_blob x.row b) x

unfoldable pub note_named : (named : Option ℕ) → Noted → List Blob → Noted
note_named named x [] = x
note_named named x (b ∷ bs) = note_named named (note_if_named named x b) bs

module _ (e : Edition) (N : ℕ) (P R : List ℕ) (named : Option ℕ) where
  -- the walk from slot i, if it is a root
  unfoldable pub root_step : (i : ℕ) → Noted → (seen : List ℕ) → Found Noted
  root_step i x seen =
      pick (eqb (state R i) 2) (map_found (note_if_named named x) (from_root e N P R seen i)) (fine x seen)

  unfoldable pub roots_noted : List ℕ → Noted → (seen : List ℕ) → Found Noted
  roots_noted slots x seen = map_found (note_named named x) (roots e N P R slots seen)

  unfoldable pub pool_noted : (o : List ℕ) → Found Noted
  pool_noted o = map_found (note_named named (kept 0 0 o)) (pool_check e N P R)
