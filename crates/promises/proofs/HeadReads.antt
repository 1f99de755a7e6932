-- A head reads what a read reads. Where length is done, its blob passed the blob check, so the descent by position finds the blob's leaves, and each byte
-- is the one that the content has at that place. So every piece within the length is what one read of that place and size gives.
use mathlib.Core.Path.{◌≡◌, ap, ◌∙◌, sym}
use mathlib.Core.Bool.{true, false, not}
use mathlib.Core.List.{List, []}
use Prim.Native.Nat.{ℕ, ◌+◌, ◌*◌, ◌/◌, ◌%◌, ◌≤◌, ◌<◌}
use native.Mathlib.Nat.{zero-add}
use native.Mathlib.Omega.{arith}
use borrow.Author.Tests.{ltb-true, le-ltb, not-false}
use lib.Dec.{ltb, eqb}
use lib.ListN.{length, get_or, replicate}
use Rattle.meaning.specs.declared.Edition.{Edition}
use Rattle.meaning.specs.Lists.{both, part, number}
use Rattle.meaning.specs.Edition.{Proper}
use Rattle.meaning.specs.Bytes.{block, state}
use Rattle.meaning.specs.Tree.{Blob, content_of, length_of}
use Rattle.meaning.specs.Walk.{fine, from_root, blob_check}
use Rattle.meaning.specs.Change.{Change}
use Rattle.meaning.specs.Calls.{done, refuse_if, after_check, slots_in, rooted, reading, refuse_past, length_on, length_in, length_call, read_on, read_in, read_call}
use Rattle.meaning.specs.Head.{below, height_at, byte_at, piece}
use Rattle.meaning.specs.declared.Reason.TheVariants.{NotARoot}
use Rattle.laws.proofs.Numbers.{number_one}
use Rattle.laws.proofs.Inversions.{both_true}
use Rattle.laws.proofs.Editions.{within_below}
use Rattle.laws.proofs.Ranges.{one_by_one}
use Rattle.laws.proofs.Walked.{leaf_slots, walk_shaped}
use Rattle.laws.proofs.Positions.{place_leaf, read_stretch}
use Rattle.laws.proofs.Descent.{block_here, walk_height, walk_slots}
use Rattle.laws_sound.proofs.again.Outcomes.{Opens, opened_done, opens_passes, refuse_if_done, after_check_done, done_same, sized_lengths}

-- a blob that a walk found, in the pool that it went through
module _ (e : Edition) (pr : Proper e) (N : ℕ) (P R : List ℕ) (pool : length P ≡ e.size * N)
    (seen : List ℕ) (r : ℕ) {b : Blob} {seen' : List ℕ} (found : from_root e N P R seen r ≡ fine b seen') (within : r < N) where
  -- each byte is found by its position
  byte_found : (p : ℕ) → p < length_of b → byte_at e P b.height r p ≡ get_or (content_of b) p 0
  unfolding byte_at length_of
  byte_found p h =
      let s = below e P b.height r (p / e.leaf) in
      let shaped = walk_shaped e pr N P R pool seen r found within in
      let n = place_leaf e pr.some pr.two b shaped p h in
      let at : s ≡ get_or (leaf_slots b) (p / e.leaf) 0 = walk_slots e pr N P R pool seen r found within (p / e.leaf) n in
      let t = read_stretch e pr N P R pool seen r found within p 1 s h (omega (arith, within_below e pr p)) (omega arith) at in
      rw (block_here e pr N P pool s t.within)
      (sym (number_one (16 + p % e.leaf) (block e P s) (omega (arith, t.room))) ∙ ap number t.bytes ∙ number_one p (content_of b) h)

  -- each piece within the blob is a part of its bytes
  piece_found : (p m : ℕ) → p + m ≤ length_of b → piece e P (height_at e P r) r p m ≡ part p m (content_of b)
  unfolding piece length_of
  piece_found p m h =
      let z : 0 + p ≡ p = zero-add p in
      rw (walk_height e pr N P R pool seen r found within)
      (one_by_one (byte_at e P b.height r) 0 (content_of b) (λ i l. byte_found i (omega arith) ∙ ap (λ (k : ℕ). get_or (content_of b) k 0) (sym (zero-add i))) p m (omega arith)
      ∙ ap (λ (k : ℕ). part k m (content_of b)) z)

-- what a length that is done says of its blob
record Met (e : Edition) (P R : List ℕ) (r n : ℕ) : Type 0 where
  opens : Opens e P R
  blob : Blob
  seen : List ℕ
  root : both (ltb r (slots_in e P)) (eqb (state R r) 2) ≡ true
  found : blob_check e (slots_in e P) P R r ≡ fine blob seen
  bytes : length_of blob ≡ n

length_met : (e : Edition) (P R : List ℕ) (r n : ℕ) {cs : List Change} → length_call e P R r ≡ done n cs → Met e P R r n
unfolding length_call length_in reading rooted length_on
length_met e P R r n h =
    let (o, k) = opened_done e P R _ h in
    let (t, m) = refuse_if_done (not (both (ltb r (slots_in e P)) (eqb (state R r) 2))) NotARoot _ k in
    let (b, seen, f, d) = after_check_done (blob_check e (slots_in e P) P R r) _ m in
    record { opens = o; blob = b; seen = seen; root = not-false (both (ltb r (slots_in e P)) (eqb (state R r) 2)) t; found = f; bytes = (done_same d).0 }

-- a read within that blob
read_met : (e : Edition) (P R : List ℕ) (r n offset size : ℕ) (m : Met e P R r n) → offset + size ≤ n
    → read_call e P R r offset size ≡ done (part offset size (content_of m.blob)) []
unfolding read_call read_in reading rooted read_on refuse_past refuse_if after_check
read_met e P R r n offset size m h =
    let t : ltb (length_of m.blob) (offset + size) ≡ false = le-ltb (length_of m.blob) (offset + size) (omega (arith, m.bytes)) in
    opens_passes e P R _ m.opens ∙ rw (m.root, m.found, t)

-- so each piece within the length is what one read gives
pub piece_read : (e : Edition) → Proper e → (P R : List ℕ) (r n : ℕ) {cs : List Change} → length_call e P R r ≡ done n cs
    → (p m : ℕ) → p + m ≤ n → read_call e P R r p m ≡ done (piece e P (height_at e P r) r p m) []
unfolding blob_check
piece_read e pr P R r n h p m l =
    let o = length_met e P R r n h in
    let low : r < slots_in e P = ltb-true r (slots_in e P) (both_true _ _ o.root).0 in
    let pool = (sized_lengths e P R o.opens.sized).whole in
    read_met e P R r n p m o l
    ∙ ap (λ (d : List ℕ). done d []) (sym (piece_found e pr (slots_in e P) P R pool (replicate (slots_in e P) 0) r o.found low p m (omega (arith, o.bytes))))
