-- A block built in a lent part. Each paste makes the front longer by what it pastes; the last one, of zeros, reaches the end.
use mathlib.Core.Path.{◌≡◌, ap, ap₂, ◌∙◌, sym}
use mathlib.Core.List.{List, [], ◌∷◌, ◌++◌, append_assoc, append-nil}
use Prim.Native.Nat.{ℕ, ◌+◌, ◌-◌, ◌≤◌}
use native.Mathlib.Omega.{arith}
use lib.ListN.{length, get_or, take, drop, replicate, length-append, length-replicate, drop_of_length-le}
use lib.Seq.{take_at, length-take-le}
use Rattle.meaning.specs.declared.Edition.{Edition}
use Rattle.meaning.specs.Lists.{pasted, bytes, padded}
use Rattle.meaning.specs.Edition.{Proper}
use Rattle.meaning.specs.Bytes.{header, block_bytes}
use Rattle.laws.proofs.Parts.{pasted_length, drop_pasted}
use Rattle.laws.proofs.Checks.{two_bytes}
use Rattle.laws.proofs.Codec.{header_length, padded_fits}

-- the front up to the end of what is pasted
pub take_pasted_to : {A : Type 0} (a : ℕ) (new l : List A) → a ≤ length l → take (a + length new) (pasted a new l) ≡ take a l ++ new
unfolding pasted
take_pasted_to a new l h =
    let s = append_assoc (take a l) new (drop (a + length new) l) in
    let t : length (take a l) ≡ a = length-take-le a l h in
    let u : length (take a l ++ new) ≡ a + length new = simp (length-append, t) in
    ap (take (a + length new)) (sym s) ∙ take_at (take a l ++ new) (drop (a + length new) l) (a + length new) u

-- two lists pasted one behind the other
pub pasted_more : (a : ℕ) (x y l : List ℕ) → a + (length x + length y) ≤ length l → pasted (a + length x) y (pasted a x l) ≡ pasted a (x ++ y) l
unfolding pasted
pasted_more a x y l h =
    let front : take (a + length x) (pasted a x l) ≡ take a l ++ x = take_pasted_to a x l (omega arith) in
    let rest : drop (a + length x + length y) (pasted a x l) ≡ drop (a + length x + length y) l =
    drop_pasted a x l (omega arith) (a + length x + length y) (omega arith) in
    let n : a + length (x ++ y) ≡ a + length x + length y = simp length-append (omega arith) in
    ap₂ (λ (f : List ℕ) (r : List ℕ). f ++ (y ++ r)) front rest ∙ append_assoc (take a l) x (y ++ drop (a + length x + length y) l)
    ∙ ap (λ (r : List ℕ). take a l ++ r) (sym (append_assoc x y (drop (a + length x + length y) l)))
    ∙ ap (λ (k : ℕ). take a l ++ ((x ++ y) ++ drop k l)) (sym n)

-- what is pasted up to the end
pub pasted_end : {A : Type 0} (a : ℕ) (new l : List A) → a + length new ≡ length l → pasted a new l ≡ take a l ++ new
unfolding pasted
pasted_end a new l h =
    let d : drop (a + length new) l ≡ [] = drop_of_length-le l {i = a + length new} (omega arith) in
    rw (d, append-nil)

-- the header, made of an array's first four bytes and two numbers
pub header_made : (e : Edition) → Proper e → (height count slot version : ℕ) (a b : List ℕ)
    → a ≡ pasted 4 (bytes 4 slot) (get_or e.mark 0 0 ∷ get_or e.mark 1 0 ∷ height ∷ count ∷ replicate 12 0)
    → b ≡ pasted 8 (bytes 8 version) a → b ≡ header e height count slot version
unfolding header pasted bytes
header_made e p height count slot version a b ea eb =
    rw (eb, ea) (ap (λ (m : List ℕ). m ++ (height ∷ count ∷ (bytes 4 slot ++ bytes 8 version))) (two_bytes e.mark p.marked))

-- the block, made of a header, a payload and zeros
pub block_made : (e : Edition) → Proper e → (height count slot version : ℕ) (b payload h b₁ b₂ b₃ : List ℕ)
    → length b ≡ e.size → length payload ≤ e.leaf → h ≡ header e height count slot version
    → b₁ ≡ pasted 0 h b → b₂ ≡ pasted 16 payload b₁
    → b₃ ≡ pasted (16 + length payload) (replicate (length b₂ - (16 + length payload)) 0) b₂
    → b₃ ≡ block_bytes e height count slot version payload
unfolding block_bytes
block_made e p height count slot version b payload h b₁ b₂ b₃ len fits eh e₁ e₂ e₃ =
    let n = length payload in
    let hl : length h ≡ 16 = ap length eh ∙ header_length e height count slot version p.marked in
    let l₁ : length b₁ ≡ e.size = ap length e₁ ∙ pasted_length 0 h b (omega (arith, p.fits)) ∙ len in
    let l₂ : length b₂ ≡ e.size = ap length e₂ ∙ pasted_length 16 payload b₁ (omega (arith, p.fits)) ∙ l₁ in
    let t₁ : take 16 b₁ ≡ h =
    let k : 0 + length h ≡ 16 = omega arith in
    ap (take 16) e₁ ∙ ap (λ (j : ℕ). take j (pasted 0 h b)) (sym k) ∙ take_pasted_to 0 h b (omega arith) in
    let t₂ : take (16 + n) b₂ ≡ h ++ payload =
    ap (take (16 + n)) e₂ ∙ take_pasted_to 16 payload b₁ (omega (arith, p.fits)) ∙ ap (λ (x : List ℕ). x ++ payload) t₁ in
    let r : length (replicate {A = ℕ} (length b₂ - (16 + n)) 0) ≡ length b₂ - (16 + n) = length-replicate (length b₂ - (16 + n)) 0 in
    let w : length (h ++ payload) ≡ 16 + n = simp (length-append, hl) in
    let v : length b₂ - (16 + n) ≡ e.size - length (h ++ payload) = omega arith in
    e₃ ∙ pasted_end (16 + n) (replicate (length b₂ - (16 + n)) 0) b₂ (omega (arith, p.fits))
    ∙ ap₂ ◌++◌ t₂ (ap (λ (k : ℕ). replicate {A = ℕ} k 0) v)
    ∙ sym (padded_fits e.size (h ++ payload) (omega (arith, p.fits)))
    ∙ ap (λ (x : List ℕ). padded e.size (x ++ payload)) eh
