-- Behind refusal 3 and the blob check the row's first places are the slots of the blob's leaves.
use Rattle.std.specs.Prelude.{Ok}
use mathlib.Core.Path.{◌≡◌, ap, ◌∙◌, sym}
use mathlib.Core.List.{List}
use Prim.Native.Nat.{ℕ, ◌+◌, ◌≤◌, ◌<◌}
use native.Mathlib.Omega.{arith}
use lib.ListN.{length, take, replicate, length-replicate}
use Rattle.meaning.specs.Edition.{Proper}
use Rattle.meaning.specs.Tree.{leaves_of}
use Rattle.meaning.specs.Walk.{blob_check}
use Rattle.meaning.specs.declared.Edition.{Edition}
use Rattle.laws.proofs.Walked.{leaf_slots, leaf_slots_length}
use Rattle.laws.proofs.Marks.{walk_few}
use Rattle.check_gate.specs.Gate.{Whole}
use Rattle.check_blob.specs.notes.{met, Walked}
use Rattle.check_blob.proofs.notes.Putting.{put_there, put_length}
use Rattle.check_blob.specs.Rooted.{open_noted}
use Rattle.check_blob.proofs.Opening.{Blobbed, open_below, open_found}

-- a blob that was found, in a row of as many places as there are slots
module _ (e : Edition) (p : Proper e) (n : ℕ) (P R : List ℕ) (w : Whole e n P R) (r b k : ℕ) (o sx ox : List ℕ)
    (f : Blobbed e n P R r b k o sx ox) (lr : r < n) (lo : length o ≡ n) where
  few : length (leaves_of f.blob) ≤ n
  unfolding blob_check
  few = walk_few e p n P R w.pool (replicate n 0) r f.found (length-replicate n 0) lr

  slots_long : length (leaf_slots f.blob) ≡ k
  slots_long = leaf_slots_length f.blob ∙ sym f.leaves

  -- the row's first k places are the leaves' slots
  pub row_slots_lem : take k ox ≡ leaf_slots f.blob
  row_slots_lem =
      let s = slots_long in
      let q = put_there o 0 (leaf_slots f.blob) (omega (arith, s, few, f.leaves)) in
      let z : 0 + length (leaf_slots f.blob) ≡ length (leaf_slots f.blob) = omega arith in
      rw (f.row, ← s) (rw z at q)

  row_length : k ≤ length ox
  row_length = omega (arith, f.leaves, few, ap length f.row, put_length o 0 (leaf_slots f.blob))

-- the leaves that the code's answer counts lie in the row
pub found_length : (e : Edition) (n : ℕ) (P R : List ℕ) (r : ℕ) (o : List ℕ) (w : Walked) (sx ox : List ℕ) → met w sx ox ≡ open_noted e n P R r o
    → (b k : ℕ) → w ≡ Ok (b, k) → Proper e → Whole e n P R → length o ≡ n → k ≤ length ox
found_length e n P R r o w sx ox ew b k eb p z lo =
    row_length e p n P R z r b k o sx ox (open_found e n P R r o w sx ox ew b k eb) (open_below e n P R r o w sx ox ew b k eb) lo
