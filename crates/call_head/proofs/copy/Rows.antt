-- The leaves of one row, one behind the other, as long as places lie in that row: the parent stays the same, and what is there is one piece.
use mathlib.Core.Path.{◌≡◌, ap, ◌∙◌, sym}
use mathlib.Core.List.{List, ◌++◌}
use Prim.Native.Nat.{ℕ, ◌+◌, ◌-◌, ◌/◌, ◌≤◌, ◌<◌}
use native.Mathlib.Omega.{arith}
use borrow.Author.Tests.{ltb-true, ltb-false}
use lib.Dec.{ltb}
use lib.ListN.{length}
use Rattle.meaning.specs.declared.Edition.{Edition}
use Rattle.meaning.specs.Lists.{pasted}
use Rattle.meaning.specs.Head.{below, piece}
use Rattle.laws.proofs.Inversions.{by_test}
use Rattle.laws.proofs.Parts.{pasted_none, pasted_length}
use Rattle.laws.proofs.Building.{pasted_more}
use Rattle.laws.proofs.Pieces.{piece_length, piece_append}
use Rattle.call_head.specs.copy.{Copying, Copied}

-- the leaves of one row
module _ (e : Edition) (P : List ℕ) (h r : ℕ) where
  pub row_starts : (place pos : ℕ) (out : List ℕ) → out ≡ pasted pos (piece e P h r (place + pos) (pos - pos)) out
  row_starts place pos out =
      let z : pos - pos ≡ 0 = omega arith in
      sym (pasted_none pos (piece e P h r (place + pos) (pos - pos)) out (piece_length e P h r (place + pos) (pos - pos) ∙ z))

  module _ (place pos count : ℕ) (out₀ : List ℕ) (g : Copying place pos count (length out₀)) (to : ℕ) (out : List ℕ)
      (eo : out ≡ pasted pos (piece e P h r (place + pos) (to - pos)) out₀) (low : pos ≤ to) where
    pub row_same : to ≤ count → length out ≡ length out₀
    row_same l =
        let n = piece_length e P h r (place + pos) (to - pos) in
        ap length eo ∙ pasted_length pos (piece e P h r (place + pos) (to - pos)) out₀ (omega (arith, g.fits))

    pub row_goes : to < count → Copying place to count (length out)
    row_goes l = record { more = l; fits = omega (arith, g.fits, row_same (omega arith)); word = g.word }

    pub row_more : (q : ℕ) → to < q → q ≤ count → (out' : List ℕ) → out' ≡ pasted to (piece e P h r (place + to) (q - to)) out
        → out' ≡ pasted pos (piece e P h r (place + pos) (q - pos)) out₀
    row_more q l m out' e' =
        let z : place + pos + (to - pos) ≡ place + to = omega arith in
        let w : to - pos + (q - to) ≡ q - pos = omega arith in
        let d : piece e P h r (place + pos) (q - pos) ≡ piece e P h r (place + pos) (to - pos) ++ piece e P h r (place + to) (q - to) =
        ap (piece e P h r (place + pos)) (sym w) ∙ piece_append e P h r (place + pos) (to - pos) (q - to)
        ∙ ap (λ (k : ℕ). piece e P h r (place + pos) (to - pos) ++ piece e P h r k (q - to)) z in
        let a = piece e P h r (place + pos) (to - pos) in
        let b = piece e P h r (place + to) (q - to) in
        let k : to ≡ pos + length a = omega (arith, piece_length e P h r (place + pos) (to - pos)) in
        e' ∙ rw eo (ap (λ (x : ℕ). pasted x b (pasted pos a out₀)) k)
        ∙ pasted_more pos a b out₀ (omega (arith, g.fits, piece_length e P h r (place + pos) (to - pos), piece_length e P h r (place + to) (q - to)))
        ∙ ap (λ (x : List ℕ). pasted pos x out₀) (sym d)

    pub row_done : to ≤ count → count ≤ to → Copied e P h r place pos count to out₀ out
    row_done m l = record { more = omega (arith, g.more); most = m; bytes = eo }

-- along a row: its number, its leaves' parent, and how far it is copied
pub record Along (e : Edition) (P : List ℕ) (h r place pos to row q : ℕ) : Type 0 where
  pub number : row ≡ (place + pos) / e.leaf / e.fan
  pub parent : q ≡ below e P (h - 1) r row
  pub low : pos ≤ to

module _ (e : Edition) (P : List ℕ) (h r place pos row q : ℕ) where
  pub along_starts : row ≡ (place + pos) / e.leaf / e.fan → q ≡ below e P (h - 1) r row → Along e P h r place pos pos row q
  along_starts er eq = record { number = er; parent = eq; low = omega arith }

  module _ (to : ℕ) (a : Along e P h r place pos to row q) where
    pub along_more : (m : ℕ) → to < m → Along e P h r place pos m row q
    along_more m l = record { number = a.number; parent = a.parent; low = omega (arith, a.low) }

    module _ (x : ℕ) (ex : x ≡ (place + to) / e.leaf / e.fan) where
      -- a row that is left was begun
      pub row_begun : (x ≡ row → ⊥) → pos < to
      row_begun n =
          by_test (ltb pos to) (λ t. ltb-true pos to t)
          (λ t. absurd (n (ex ∙ ap (λ (k : ℕ). (place + k) / e.leaf / e.fan) (omega (arith, a.low, ltb-false pos to t)) ∙ sym a.number)))

      -- within it the parent is the same
      pub row_parent : x ≡ row → q ≡ below e P (h - 1) r ((place + to) / e.leaf / e.fan)
      row_parent exy = a.parent ∙ rw (sym exy ∙ ex)
