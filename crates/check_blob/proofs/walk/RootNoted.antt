-- The walk from one root: what it notes is what the visit of the root notes, with no byte and no leaf so far.
use mathlib.Core.Path.{◌≡◌, refl, ◌∙◌}
use mathlib.Core.Bool.{true}
use mathlib.Core.List.{List}
use Prim.Native.Nat.{ℕ, ◌+◌, ◌*◌, ◌≤◌, ◌<◌, min}
use native.Mathlib.Omega.{arith}
use lib.ListN.{length}
use Rattle.meaning.specs.Bytes.{block, height_of}
use Rattle.meaning.specs.Tree.{Tree}
use Rattle.meaning.specs.Walk.{Found, fault, fine, and_then, visit, from_root}
use Rattle.meaning.specs.declared.Edition.{Edition}
use Rattle.meaning.specs.declared.Role.TheVariants.{Root}
use Rattle.check_blob.specs.visit.{Sized, Within}
use Rattle.check_blob.proofs.visit.VisitAsDefined.{slot_fits}
use Rattle.check_blob.specs.notes.{met, map_found, note_tree, note_blob, note, note_root, Fresh, BlockStart, Walked}

root_noted : (h : ℕ) (o : List ℕ) (F : Found (Tree h))
    → map_found (note_tree h 0 0 o) F ≡ map_found (note_blob o) (and_then F (λ t seen'. fine (record { height = h; tree = t }) seen'))
unfolding map_found and_then note_blob
root_noted h o (fault r) = refl
root_noted h o (fine t seen) = refl

pub root_is : (e : Edition) (N : ℕ) (P R seen : List ℕ) (s : ℕ) (o : List ℕ) (b : List ℕ) → b ≡ block e P s
    → (k : ℕ) → k ≡ height_of b → (h : ℕ) → h ≡ min k e.top → (r : Walked) (sx ox : List ℕ)
    → met r sx ox ≡ note e N P R h Root true seen s 0 0 o → met r sx ox ≡ note_root e N P R seen s o
unfolding note_root from_root note
root_is e N P R seen s o b eb k ek h eh r sx ox er =
    er ∙ rw (eh, ek, eb) (root_noted (min (height_of (block e P s)) e.top) o
    (visit e N P R (min (height_of (block e P s)) e.top) Root true seen s))

-- a root lies in the pool, and is where a walk may start
module _ (e : Edition) (n : ℕ) (P R seen : List ℕ) (s : ℕ) (z : Sized e n P R seen) (w : s < n) where
  pub root_in_pool : e.size * s + e.size ≤ length P
  root_in_pool = slot_fits e.size n s P z.pool w

  pub root_start : n ≤ e.most → BlockStart e n P R seen Root s 0 0
  unfolding Within Fresh
  root_start f =
      record { sized = z; few = f; within = w; counted = record { leaves = omega arith; bytes = omega arith }; fresh = refl }
