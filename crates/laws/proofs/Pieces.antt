-- Pieces that a head hands out. Bytes are told one by one, so pieces one behind the other are one piece, and a run of askings, joined, is one piece as long
-- as all that was asked, or as all that remained.
use mathlib.Core.Path.{◌≡◌, refl, ap, ◌∙◌, sym}
use mathlib.Core.List.{List, [], ◌∷◌, ◌++◌, map, map-append}
use Prim.Native.Nat.{ℕ, ◌+◌, ◌-◌, ◌≤◌, min}
use native.Mathlib.Nat.{zero-min}
use native.Mathlib.Omega.{arith}
use lib.ListN.{length, length-map}
use Rattle.meaning.specs.declared.Edition.{Edition}
use Rattle.meaning.specs.Lists.{range, joined}
use Rattle.meaning.specs.Head.{head_at, height_at, byte_at, piece, handed, moved, handed_out, pieces, sum}
use Rattle.laws.proofs.Ranges.{range_append, range_length}

module _ (e : Edition) (P : List ℕ) (h r : ℕ) where
  pub piece_length : (p n : ℕ) → length (piece e P h r p n) ≡ n
  unfolding piece
  piece_length p n = length-map (range p n) (byte_at e P h r) ∙ range_length p n

  -- nothing is handed out for nothing
  pub piece_none : (p : ℕ) → piece e P h r p 0 ≡ []
  unfolding piece range
  piece_none p = refl

  -- pieces one behind the other are one piece
  pub piece_append : (p m n : ℕ) → piece e P h r p (m + n) ≡ piece e P h r p m ++ piece e P h r (p + m) n
  unfolding piece
  piece_append p m n = ap (map (byte_at e P h r)) (range_append p m n) ∙ map-append (byte_at e P h r) (range p m) (range (p + m) n)

-- a run of askings of a head on root r of length n, from a place on
module _ (e : Edition) (P : List ℕ) (r n : ℕ) where
  taken : (p k s : ℕ) → handed n p k + min s (n - (p + handed n p k)) ≡ min (k + s) (n - p)
  unfolding handed
  taken p k s = omega arith

  -- where a head stands after two askings, and never past the end
  far : (p j s : ℕ) → min (p + handed n p j + s) n ≡ min (p + (j + s)) n
  unfolding handed
  far p j s = omega arith

  not_past : (p j : ℕ) → p ≤ n → p + handed n p j ≤ n
  unfolding handed
  not_past p j l = omega arith

  -- joined, it is one piece
  pub pieces_are : (ks : List ℕ) (p : ℕ) → joined (pieces e P (head_at r p n) ks) ≡ piece e P (height_at e P r) r p (min (sum ks) (n - p))
  unfolding pieces handed_out moved sum joined
  pieces_are [] p = rw zero-min (sym (piece_none e P (height_at e P r) r p))
  pieces_are (k ∷ ks) p =
      ap (λ (x : List ℕ). piece e P (height_at e P r) r p (handed n p k) ++ x) (pieces_are ks (p + handed n p k))
      ∙ sym (piece_append e P (height_at e P r) r p (handed n p k) (min (sum ks) (n - (p + handed n p k))))
      ∙ ap (piece e P (height_at e P r) r p) (taken p k (sum ks))

  -- the last of them
  pub pieces_last : (ks : List ℕ) (k p : ℕ) → p ≤ n
      → pieces e P (head_at r p n) (ks ++ (k ∷ [])) ≡ pieces e P (head_at r p n) ks ++ (piece e P (height_at e P r) r (min (p + sum ks) n) (handed n (min (p + sum ks) n) k) ∷ [])
  unfolding pieces handed_out moved sum
  pieces_last [] k p l =
      let z : min (p + 0) n ≡ p = omega arith in
      rw z
  pieces_last (j ∷ ks) k p l =
      let z : min (p + handed n p j + sum ks) n ≡ min (p + (j + sum ks)) n = far p j (sum ks) in
      ap (λ (x : List (List ℕ)). piece e P (height_at e P r) r p (handed n p j) ∷ x)
      (pieces_last ks k (p + handed n p j) (not_past p j l) ∙ ap (λ (q : ℕ). pieces e P (head_at r (p + handed n p j) n) ks ++ (piece e P (height_at e P r) r q (handed n q k) ∷ [])) z)
