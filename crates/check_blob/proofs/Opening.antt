-- What every reading call on one blob shares: refusal 3, the blob check, and the blob behind them.
use Rattle.std.specs.Prelude.{Err, Ok}
use mathlib.Core.Path.{◌≡◌, refl, ap, ◌∙◌, sym}
use mathlib.Core.Bool.{Bool, true, false, not}
use mathlib.Core.List.{List}
use Prim.Native.Nat.{ℕ, ◌<◌}
use native.Mathlib.Omega.{arith}
use borrow.Author.Tests.{ltb-true, eqb-true, not-true, not-false}
use lib.Dec.{eqb, ltb}
use lib.ListN.{length, replicate, length-replicate}
use Rattle.meaning.specs.declared.Reason.TheVariants.{NotARoot}
use Rattle.meaning.specs.Lists.{pick, both}
use Rattle.meaning.specs.Bytes.{state}
use Rattle.meaning.specs.Tree.{Blob, content_of, leaves_of, length_of}
use Rattle.meaning.specs.Refusals.{nowhere}
use Rattle.meaning.specs.Walk.{Found, fault, fine, from_root, blob_check}
use Rattle.meaning.specs.Calls.{Outcome, refused, refuse_if, after_check, rooted, reading}
use Rattle.meaning.specs.declared.Edition.{Edition}
use Rattle.meaning.specs.declared.Refusal.{Refusal}
use Rattle.laws.proofs.Inversions.{both_true}
use Rattle.laws.proofs.Walked.{leaf_slots}
use Rattle.check_gate.specs.Gate.{Whole}
use Rattle.check_blob.specs.visit.{Sized}
use Rattle.check_blob.specs.notes.{Noted, met, map_found, put_all, note_leaves, note_tree, note_blob, note_root, Walked}
use Rattle.check_blob.specs.Rooted.{open_noted}
use Rattle.check_blob.proofs.notes.Answering.{noted_fault, noted_fine}

-- flags all zero are of the right length
pub whole_sized : (e : Edition) (n : ℕ) (P R seen : List ℕ) → Whole e n P R → seen ≡ replicate n 0 → Sized e n P R seen
whole_sized e n P R seen w s = record { pool = w.pool; records = w.records; flags = ap length s ∙ length-replicate n 0 }

-- behind refusal 3 the root lies in the pool, and its record is a root's
module _ (R : List ℕ) (n r : ℕ) (t : Bool) (et : t ≡ both (ltb r n) (eqb (state R r) 2)) (p : not t ≡ false) where
  pub root_below : r < n
  root_below = ltb-true r n (both_true _ _ (sym et ∙ not-false t p)).0

  pub root_recorded : state R r ≡ 2
  root_recorded = eqb-true (state R r) 2 (both_true (ltb r n) _ (sym et ∙ not-false t p)).1

-- a blob that the walk found, with what was noted of it
pub record Blobbed (e : Edition) (n : ℕ) (P R : List ℕ) (r b k : ℕ) (o sx ox : List ℕ) : Type 0 where
  pub blob : Blob
  pub found : blob_check e n P R r ≡ fine blob sx
  pub bytes : b ≡ length_of blob
  pub leaves : k ≡ length (leaves_of blob)
  pub row : ox ≡ put_all o 0 (leaf_slots blob)

-- the code's two ways: not a root, or the walk's answer
module _ (e : Edition) (n : ℕ) (P R : List ℕ) (r : ℕ) (o : List ℕ) (t : Bool) (et : t ≡ both (ltb r n) (eqb (state R r) 2)) where
  pub open_unrooted : not t ≡ true → (q : Refusal) → q ≡ nowhere NotARoot → (sx ox : List ℕ) → met (Err q) sx ox ≡ open_noted e n P R r o
  unfolding open_noted met pick
  open_unrooted p q eq sx ox = rw eq (simp (← et, not-true t p))

  pub open_walked : not t ≡ false → (seen : List ℕ) → seen ≡ replicate n 0 → (w : Walked) (sx ox : List ℕ)
      → met w sx ox ≡ note_root e n P R seen r o → met w sx ox ≡ open_noted e n P R r o
  unfolding open_noted pick
  open_walked p seen es w sx ox ew = ew ∙ rw es (simp (← et, not-false t p))

-- what a caller learns from the answer
pick_fine : (t : Bool) (F : Found Noted) (q : Refusal) (x : Noted) (sx : List ℕ) → fine x sx ≡ pick t F (fault q) → (t ≡ true) × (fine x sx ≡ F)
unfolding pick
pick_fine true F q x sx e = (refl, e)
pick_fine false F q x sx e = (cc, cc)

noted_blob_fault : (o : List ℕ) (f : Refusal) (t : Bool) (F : Found Blob) → fault f ≡ pick t (map_found (note_blob o) F) (fault (nowhere NotARoot))
    → {A : Type 0} (k : Blob → Outcome A) → refuse_if (not t) NotARoot (after_check F k) ≡ refused f
unfolding pick refuse_if after_check
noted_blob_fault o f true F e k = rw (noted_fault (note_blob o) f F e)
noted_blob_fault o f false F e k = cc

module _ (e : Edition) (n : ℕ) (P R : List ℕ) (r : ℕ) (o : List ℕ) (w : Walked) (sx ox : List ℕ) (ew : met w sx ox ≡ open_noted e n P R r o) where
  pub open_fault : (f : Refusal) → w ≡ Err f → {A : Type 0} (k : Blob → Outcome A) → reading e n P R r k ≡ refused f
  unfolding met open_noted reading rooted note_root blob_check
  open_fault f ef k = noted_blob_fault o f (both (ltb r n) (eqb (state R r) 2)) (from_root e n P R (replicate n 0) r) (rw ef at ew) k

  module _ (b k : ℕ) (eb : w ≡ Ok (b, k)) where
    opened : (both (ltb r n) (eqb (state R r) 2) ≡ true)
        × (fine (record { bytes = b; leaves = k; row = ox }) sx ≡ note_root e n P R (replicate n 0) r o)
    unfolding met open_noted
    opened = pick_fine (both (ltb r n) (eqb (state R r) 2)) (note_root e n P R (replicate n 0) r o) (nowhere NotARoot) _ sx (rw eb at ew)

    pub open_below : r < n
    open_below = ltb-true r n (both_true _ _ opened.0).0

    pub open_found : Blobbed e n P R r b k o sx ox
    unfolding note_root note_blob note_tree note_leaves blob_check length_of content_of leaves_of leaf_slots
    open_found =
        let c = noted_fine (note_blob o) (record { bytes = b; leaves = k; row = ox }) sx (from_root e n P R (replicate n 0) r) opened.1 in
        record {
          blob = c.0;
          found = c.1;
          bytes = ap (λ (x : Noted). x.bytes) c.2 ∙ omega arith;
          leaves = ap (λ (x : Noted). x.leaves) c.2 ∙ omega arith;
          row = ap (λ (x : Noted). x.row) c.2;
        }

    pub open_reads : {A : Type 0} (f : Blob → Outcome A) → reading e n P R r f ≡ f open_found.blob
    unfolding reading rooted refuse_if after_check
    open_reads f = rw (opened.0, open_found.found)
