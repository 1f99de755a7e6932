-- A leaf's block, byte for byte: with a version put at 8 and bytes put inside its row, it is the written block of the row with those bytes put.
use mathlib.Core.Path.{◌≡◌, refl, ap, ◌∙◌, sym}
use mathlib.Core.Bool.{true}
use mathlib.Core.List.{List, [], ◌∷◌, ◌++◌, append_assoc}
use Prim.Native.Nat.{ℕ, ◌+◌, ◌-◌, ◌≤◌}
use native.Mathlib.Omega.{arith}
use lib.ListN.{length, take, drop, replicate}
use lib.Seq.{take-append-le, drop-append-le, take-append-add, drop-append-add}
use Rattle.meaning.specs.declared.Edition.{Edition}
use Rattle.meaning.specs.Lists.{pasted, bytes}
use Rattle.meaning.specs.Edition.{Proper}
use Rattle.meaning.specs.Bytes.{item_bytes, header, encoded, data_of}
use Rattle.laws.proofs.Numbers.{OfBytes}
use Rattle.laws.proofs.Parts.{pasted_length}
use Rattle.laws.proofs.Codec.{encoded_bytes, header_length, passed_encoded, cell_of, items_of}
use Rattle.laws.proofs.Inversions.{Sound, sound_passed}
use Rattle.plan_write.specs.stretch.{leaf_cell}

-- bytes pasted behind a list
pasted_behind : (a l new : List ℕ) (w : ℕ) → pasted (length a + w) new (a ++ l) ≡ a ++ pasted w new l
unfolding pasted
pasted_behind a l new w =
    let k : length a + w + length new ≡ length a + (w + length new) = omega arith in
    rw (k, take-append-add a l w, drop-append-add a l (w + length new)) (append_assoc a (take w l) (new ++ drop (w + length new) l))

-- bytes pasted inside the first of two lists
pasted_front : (l b new : List ℕ) (w : ℕ) → w + length new ≤ length l → pasted w new (l ++ b) ≡ pasted w new l ++ b
unfolding pasted
pasted_front l b new w h =
    rw (take-append-le w l b (omega arith), drop-append-le (w + length new) l b h) (simp append_assoc)

-- another version in a header
headed_version : (m : List ℕ) (h n s v v' : ℕ) (rest : List ℕ) → length m ≡ 2
    → pasted 8 (bytes 8 v') ((m ++ (h ∷ n ∷ (bytes 4 s ++ bytes 8 v))) ++ rest) ≡ (m ++ (h ∷ n ∷ (bytes 4 s ++ bytes 8 v'))) ++ rest
unfolding pasted bytes
headed_version [] h n s v v' rest e = absurd (omega arith)
headed_version (a ∷ []) h n s v v' rest e = absurd (omega arith)
headed_version (a ∷ b ∷ []) h n s v v' rest e = refl
headed_version (a ∷ b ∷ c ∷ m) h n s v v' rest e = absurd (omega arith)

module _ (e : Edition) (p : Proper e) where
  -- a leaf's block: header, its bytes, zeros
  leaf_bytes : (row : List ℕ) (s v : ℕ) → length row ≤ e.leaf
      → encoded e (leaf_cell row) s v ≡ header e 0 (length row) s v ++ (row ++ replicate (e.size - (16 + length row)) 0)
  unfolding item_bytes
  leaf_bytes row s v fits = encoded_bytes e p (leaf_cell row) s v fits

  -- the block of a leaf with another version and other bytes in its row
  pub leaf_rewritten : (row : List ℕ) (s v v' within : ℕ) (new : List ℕ) → length row ≤ e.leaf → within + length new ≤ length row
      → pasted (16 + within) new (pasted 8 (bytes 8 v') (encoded e (leaf_cell row) s v)) ≡ encoded e (leaf_cell (pasted within new row)) s v'
  unfolding header
  leaf_rewritten row s v v' within new fits inside =
      let long : length (pasted within new row) ≡ length row = pasted_length within new row inside in
      let pad : List ℕ = replicate (e.size - (16 + length row)) 0 in
      let front : List ℕ = header e 0 (length row) s v' in
      let k : length front ≡ 16 = header_length e 0 (length row) s v' p.marked in
      let versioned : pasted 8 (bytes 8 v') (encoded e (leaf_cell row) s v) ≡ front ++ (row ++ pad) =
      ap (pasted 8 (bytes 8 v')) (leaf_bytes row s v fits) ∙ headed_version e.mark 0 (length row) s v v' (row ++ pad) p.marked in
      let put : pasted (16 + within) new (front ++ (row ++ pad)) ≡ front ++ (pasted within new row ++ pad) =
      ap (λ (n : ℕ). pasted (n + within) new (front ++ (row ++ pad))) (sym k) ∙ pasted_behind front (row ++ pad) new within
      ∙ ap (λ (x : List ℕ). front ++ x) (pasted_front row pad new within inside) in
      ap (pasted (16 + within) new) versioned ∙ put
      ∙ ap (λ (n : ℕ). header e 0 n s v' ++ (pasted within new row ++ replicate (e.size - (16 + n)) 0)) (sym long)
      ∙ sym (leaf_bytes (pasted within new row) s v' (omega arith))

  -- where header and payload fill a block, a leaf's block of bytes that passes checks 2 and 3 is the written block of its bytes
  pub leaf_encoded : e.size ≡ 16 + e.leaf → (v s : ℕ) (b : List ℕ) → length b ≡ e.size → OfBytes b → Sound e 0 true true v s b
      → b ≡ encoded e (leaf_cell (data_of b)) s v
  unfolding cell_of items_of
  leaf_encoded fills v s b long small sound = passed_encoded e p fills 0 true true v s b long small.small (sound_passed e 0 true true v s b sound)
