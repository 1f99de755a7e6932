-- Behind refusal 3 and the blob check the row spells the blob's bytes, and every stretch of them lies in one block.
use mathlib.Core.Path.{◌≡◌, refl, ap, ◌∙◌, sym}
use mathlib.Core.List.{List, [], ◌∷◌, ◌++◌, map}
use Prim.Native.Nat.{ℕ, ◌+◌, ◌≤◌, ◌<◌}
use native.Mathlib.Omega.{arith}
use lib.ListN.{length, take, replicate}
use Rattle.meaning.specs.Lists.{joined}
use Rattle.meaning.specs.Edition.{Proper}
use Rattle.meaning.specs.Bytes.{block, data_of}
use Rattle.meaning.specs.Tree.{content_of, length_of}
use Rattle.meaning.specs.Walk.{blob_check}
use Rattle.meaning.specs.Calls.{refuse_past, read_on}
use Rattle.meaning.specs.declared.Edition.{Edition}
use Rattle.laws.proofs.Walked.{leaf_slots, leaf_in, walk_leaves, block_length}
use Rattle.laws.proofs.Positions.{blob_content, bytes_of, read_stretch}
use Rattle.check_gate.specs.Gate.{Whole}
use Rattle.check_blob.proofs.Opening.{Blobbed}
use Rattle.check_blob.proofs.Rows.{row_slots_lem}
use Rattle.call_read.specs.copy.{spelt, Readable, read_spelt}

leaves_spell : (e : Edition) (P ss : List ℕ) → joined (map (λ l. l.1) (map (leaf_in e P) ss)) ≡ joined (map (λ s. data_of (block e P s)) ss)
unfolding joined
leaves_spell e P [] = refl
leaves_spell e P (s ∷ ss) = ap (λ (x : List ℕ). data_of (block e P s) ++ x) (leaves_spell e P ss)

-- a blob that was found, in a row of as many places as there are slots
module _ (e : Edition) (p : Proper e) (n : ℕ) (P R : List ℕ) (w : Whole e n P R) (r b k : ℕ) (o sx ox : List ℕ)
    (f : Blobbed e n P R r b k o sx ox) (lr : r < n) (lo : length o ≡ n) where
  slots : take k ox ≡ leaf_slots f.blob
  slots = row_slots_lem e p n P R w r b k o sx ox f lr lo

  -- the row's first k places spell its bytes
  spelt_is : spelt e P (take k ox) ≡ content_of f.blob
  unfolding spelt blob_check bytes_of
  spelt_is =
      rw slots
      (sym (blob_content f.blob ∙ rw (walk_leaves e p n P R w.pool (replicate n 0) r f.found lr) (leaves_spell e P (leaf_slots f.blob))))

  pub row_bytes : b ≡ length (spelt e P (take k ox))
  unfolding length_of
  row_bytes = f.bytes ∙ ap length (sym spelt_is)

  pub row_readable : Readable e n P (take k ox)
  unfolding blob_check length_of
  row_readable =
      record {
        stretch = λ q m l h g.
            let a : q < length (content_of f.blob) = rw spelt_is at l in
            let c : q + m ≤ length (content_of f.blob) = rw spelt_is at g in
            let t = read_stretch e p n P R w.pool (replicate n 0) r f.found lr q m _ a h c refl in
            record {
              leaf = rw slots t.leaf;
              within = rw slots t.within;
              room = omega (arith, t.room, block_length e p n P w.pool _ t.within);
              bytes = rw (spelt_is, slots) t.bytes;
            };
      }

  -- the read of the blob is that of the row
  pub read_spelt_lem : (offset size : ℕ) → read_on e n P R offset size f.blob ≡ read_spelt offset size (spelt e P (take k ox))
  unfolding read_on refuse_past read_spelt length_of
  read_spelt_lem offset size = rw spelt_is
