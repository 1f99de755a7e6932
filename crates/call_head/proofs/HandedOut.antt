-- What is handed out, turn by turn: the piece copied so far stands in front of what was there, and at the end it is as long as was asked or as remained.
use mathlib.Core.Path.{◌≡◌, ap, ◌∙◌, sym}
use mathlib.Core.List.{List, ◌++◌, append_assoc}
use Prim.Native.Nat.{ℕ, ◌+◌, ◌-◌, ◌^◌, ◌≤◌, ◌<◌, min}
use native.Mathlib.Omega.{arith}
use lib.ListN.{length, take, drop, length-append, length-drop}
use lib.Seq.{take-length, take-append-le, drop-append-add, drop-drop}
use Rattle.meaning.specs.declared.Edition.{Edition}
use Rattle.meaning.specs.Lists.{pasted}
use Rattle.meaning.specs.Head.{head_at, height_at, piece, handed, handed_out, out_after}
use Rattle.laws.proofs.Pieces.{piece_length, piece_none, piece_append}
use Rattle.call_head.specs.copy.{Copying}

-- the turns: a piece in front of what was there
pub nothing_handed : (len place n : ℕ) → len ≤ place → 0 ≡ handed len place n
unfolding handed
nothing_handed len place n l = omega arith

pub count_handed : (len place n count : ℕ) → count ≡ min n (len - place) → count ≡ handed len place n
unfolding handed
count_handed len place n count ec = ec

pub copy_starts : (e : Edition) (P : List ℕ) (h r place : ℕ) (out : List ℕ) → out ≡ piece e P h r place 0 ++ drop 0 out
copy_starts e P h r place out = rw (piece_none e P h r place)

pub nothing_copied : (e : Edition) (P : List ℕ) (r len place : ℕ) (out : List ℕ) → len ≤ place → out ≡ out_after e P (head_at r place len) out
unfolding out_after handed_out
nothing_copied e P r len place out l =
    rw (← nothing_handed len place (length out) l) (copy_starts e P (height_at e P r) r place out)

module _ (e : Edition) (P : List ℕ) (h r place pos : ℕ) (out₀ out : List ℕ) (eo : out ≡ piece e P h r place pos ++ drop pos out₀) where
  pub out_length : (count x : ℕ) → count ≡ min (length out₀) x → pos ≤ count → length out ≡ length out₀
  out_length count x ec l = ap length eo ∙ simp (length-append, length-drop, piece_length) (omega arith)

  pub copy_goes : (count len : ℕ) → count ≡ min (length out₀) (len - place) → pos < count → len < 2 ^ 64 → Copying place pos count (length out)
  copy_goes count len ec more word =
      record { more = more; fits = omega (arith, out_length count (len - place) ec (omega arith)); word = omega arith }

  pub copied_more : (q : ℕ) → pos < q → (out' : List ℕ)
      → out' ≡ pasted pos (piece e P h r (place + pos) (q - pos)) out → out' ≡ piece e P h r place q ++ drop q out₀
  unfolding pasted
  copied_more q l out' e' =
      let a = piece e P h r place pos in
      let b = piece e P h r (place + pos) (q - pos) in
      let z : pos + (q - pos) ≡ q = omega arith in
      let la : length a ≡ pos = piece_length e P h r place pos in
      let lb : length b ≡ q - pos = piece_length e P h r (place + pos) (q - pos) in
      let f : take pos out ≡ a = rw eo (ap (λ (j : ℕ). take j (a ++ drop pos out₀)) (sym la) ∙ take-append-le (length a) a (drop pos out₀) (omega arith) ∙ take-length a) in
      let c : drop (pos + length b) out ≡ drop q out₀ =
      rw (eo, lb) (ap (λ (j : ℕ). drop (j + (q - pos)) (a ++ drop pos out₀)) (sym la) ∙ drop-append-add a (drop pos out₀) (q - pos) ∙ drop-drop (q - pos) pos out₀ ∙ rw z) in
      let d : piece e P h r place q ≡ a ++ b = ap (piece e P h r place) (sym z) ∙ piece_append e P h r place pos (q - pos) in
      e' ∙ rw (f, c, d) (sym (append_assoc a b (drop q out₀)))

  pub copied_all : (count len : ℕ) → count ≡ min (length out₀) (len - place) → h ≡ height_at e P r → pos ≤ count → count ≤ pos
      → out ≡ out_after e P (head_at r place len) out₀
  unfolding out_after handed_out
  copied_all count len ec eh l m =
      let z : handed len place (length out₀) ≡ pos = sym (count_handed len place (length out₀) count ec) ∙ omega arith in
      rw (z, ← eh) eo
