-- Behind refusal 3 and the blob check the leaf at a place of the row is the blob's leaf of that number.
use mathlib.Core.Path.{◌≡◌, refl, ap, ◌∙◌, sym}
use mathlib.Core.Bool.{Bool, true, false}
use mathlib.Core.List.{List, []}
use Prim.Native.Nat.{ℕ, ◌<◌}
use native.Mathlib.Omega.{arith}
use borrow.Author.Tests.{leb-false}
use lib.Dec.{leb}
use lib.ListN.{length, get_or, take, replicate, get_or-map}
use Rattle.meaning.specs.Edition.{Proper}
use Rattle.meaning.specs.Bytes.{block, count_of}
use Rattle.meaning.specs.Tree.{leaves_of}
use Rattle.meaning.specs.Walk.{blob_check}
use Rattle.meaning.specs.Calls.{refuse_if, show_on}
use Rattle.meaning.specs.declared.Edition.{Edition}
use Rattle.laws.proofs.Walked.{leaf_slots, leaf_slots_length, LeafBlock, walk_leaf_at}
use Rattle.check_gate.specs.Gate.{Whole}
use Rattle.check_blob.proofs.Opening.{Blobbed}
use Rattle.check_blob.proofs.Rows.{row_slots_lem}
use Rattle.call_show.specs.place.{Below, show_spelt}

-- a blob that was found, in a row of as many places as there are slots
module _ (e : Edition) (p : Proper e) (n : ℕ) (P R : List ℕ) (w : Whole e n P R) (r b k : ℕ) (o sx ox : List ℕ)
    (f : Blobbed e n P R r b k o sx ox) (lr : r < n) (lo : length o ≡ n) where
  slots : take k ox ≡ leaf_slots f.blob
  slots = row_slots_lem e p n P R w r b k o sx ox f lr lo

  leaf_block : (i : ℕ) → i < length (take k ox) → LeafBlock e n P (get_or (leaf_slots f.blob) i 0)
  unfolding blob_check
  leaf_block i l = (walk_leaf_at e p n P R w.pool (replicate n 0) r f.found lr i (rw slots at l)).0

  pub row_below : Below e n P (take k ox)
  row_below =
      record {
        slot = λ i l. rw slots (leaf_block i l).within;
        count = λ i l. rw slots (omega (arith, (leaf_block i l).count, (leaf_block i l).most));
      }

  shown_within : (i : ℕ) → i < length (leaves_of f.blob)
      → ((get_or (leaves_of f.blob) i (0, [])).0 ≡ get_or (leaf_slots f.blob) i 0)
      × (length (get_or (leaves_of f.blob) i (0, [])).1 ≡ count_of (block e P (get_or (leaf_slots f.blob) i 0)))
  unfolding blob_check leaf_slots
  shown_within i l =
      let a = walk_leaf_at e p n P R w.pool (replicate n 0) r f.found lr i (rw (leaf_slots_length f.blob) l) in
      (sym (get_or-map (λ x. x.0) (leaves_of f.blob) i (0, [])), ap length a.1 ∙ sym a.0.count)

  shown_by : (i : ℕ) (t : Bool) → leb (length (leaves_of f.blob)) i ≡ t → show_on e n P R i f.blob ≡ show_spelt e P i (take k ox)
  unfolding show_on show_spelt refuse_if
  shown_by i true q = rw (slots, leaf_slots_length f.blob, q)
  shown_by i false q =
      let a = shown_within i (leb-false _ _ q) in
      rw (slots, leaf_slots_length f.blob, q, a.0, a.1)

  -- the leaf of the blob is that of the row
  pub show_spelt_lem : (i : ℕ) → show_on e n P R i f.blob ≡ show_spelt e P i (take k ox)
  show_spelt_lem i = shown_by i (leb (length (leaves_of f.blob)) i) refl
