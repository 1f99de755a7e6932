-- The bytes that show points at. A leaf's data bytes lie within its block, so where every block of the blob is as it was, they are too.
use mathlib.Core.Path.{◌≡◌, sym, ap, subst, ◌∙◌}
use mathlib.Core.List.{List, [], ◌∷◌, map}
use Prim.Native.Nat.{ℕ, zero, suc, ◌+◌, ◌*◌, ◌≤◌, ◌<◌}
use native.Mathlib.Omega.{arith}
use native.Mathlib.Nat.{mul-le-mul_left}
use borrow.Author.Tests.{leb-false}
use lib.Dec.{leb}
use lib.ListN.{length, get_or, replicate}
use Rattle.meaning.specs.declared.Edition.{Edition}
use Rattle.meaning.specs.Lists.{part, joined}
use Rattle.meaning.specs.Edition.{Proper}
use Rattle.meaning.specs.Bytes.{block}
use Rattle.meaning.specs.Tree.{Tree, Blob, leaves, leaves_of, slots_of}
use Rattle.meaning.specs.Walk.{fine, blob_check}
use Rattle.meaning.specs.Calls.{refuse_if, show_on}
use Rattle.meaning.specs.Answers.{shown_part}
use Rattle.laws.proofs.Numbers.{part_part}
use Rattle.laws.proofs.Inversions.{by_test}
use Rattle.laws.proofs.Walked.{mem_at, walk_here}
use Rattle.laws.proofs.Every.{Every, every_left, every_right, every_append, every_mem}
use Rattle.laws.proofs.TreeSlots.{slots, blob_slots}
use Rattle.laws_history.proofs.Local.{Same}

-- what holds of each slot of a row's trees holds of each leaf's
rows_leaves : (Q : ℕ → Type 0) (h : ℕ) → ((t : Tree h) → Every Q (slots h t) → Every (λ l. Q l.0) (leaves h t))
    → (ts : List (Tree h)) → Every Q (joined (map (slots h) ts)) → Every (λ l. Q l.0) (joined (map (leaves h) ts))
unfolding joined
rows_leaves Q h each [] q = tt
rows_leaves Q h each (t ∷ ts) q =
    every_append (λ l. Q l.0) (leaves h t) _ (each t (every_left Q (slots h t) _ q)) (rows_leaves Q h each ts (every_right Q (slots h t) _ q))

-- what holds of each slot of a tree holds of each leaf's
slots_leaves : (Q : ℕ → Type 0) (h : ℕ) (t : Tree h) → Every Q (slots h t) → Every (λ l. Q l.0) (leaves h t)
unfolding slots leaves
slots_leaves Q zero t q = (q.0, tt)
slots_leaves Q (suc h) t q = rows_leaves Q h (slots_leaves Q h) t.1 q.1

-- a part of a block, where it lies in the pool
block_part : (e : Edition) (N : ℕ) (P : List ℕ) (s n : ℕ) → length P ≡ e.size * N → s < N → 16 + n ≤ e.size
    → part (e.size * s + 16) n P ≡ part 16 n (block e P s)
unfolding block
block_part e N P s n whole within fits =
    let m : e.size * suc s ≤ e.size * N = mul-le-mul_left e.size within in
    sym (part_part (e.size * s) e.size 16 n P fits (omega arith))

-- a blob that the check finds in the first pool, every block of which is as it was in the other
module _ (e : Edition) (p : Proper e) (N : ℕ) (P P* R : List ℕ) (whole : length P ≡ e.size * N) (size : length P* ≡ length P)
    (r : ℕ) (within : r < N) (b : Blob) (seen : List ℕ) (found : blob_check e N P R r ≡ fine b seen) (same : Every (Same e P P*) (slots_of b)) where
  -- the data bytes of its k-th leaf
  leaf_shown_lem : (k : ℕ) → k < length (leaves_of b)
      → part (e.size * (get_or (leaves_of b) k (0, [])).0 + 16) (length (get_or (leaves_of b) k (0, [])).1) P*
      ≡ part (e.size * (get_or (leaves_of b) k (0, [])).0 + 16) (length (get_or (leaves_of b) k (0, [])).1) P
  unfolding blob_check leaves_of
  leaf_shown_lem k h =
      let l = get_or (leaves_of b) k (0, []) in
      let mem = mem_at (leaves_of b) k (0, []) h in
      let here = walk_here e p N P R whole (replicate N 0) r found within l mem in
      let n = length l.1 in
      let q : length l.1 ≤ e.leaf = rw (ap (λ (m : ℕ × List ℕ). length m.1) (sym here.bytes)) here.block.most in
      let fits : 16 + n ≤ e.size = omega (arith, p.fits) in
      let tree = subst (λ (xs : List ℕ). Every (Same e P P*) xs) (blob_slots b) same in
      let was = every_mem (λ m. Same e P P* m.0) (slots_leaves (Same e P P*) b.height b.tree tree) mem in
      block_part e N P* l.0 n (size ∙ whole) here.block.within fits ∙ ap (part 16 n) was
      ∙ sym (block_part e N P l.0 n whole here.block.within fits)

  -- what is shown of the other pool is what is shown of the first
  pub shown_same : (k : ℕ) → shown_part e P* (show_on e N P R k b) ≡ shown_part e P (show_on e N P R k b)
  unfolding show_on refuse_if shown_part
  shown_same k =
      by_test (leb (length (leaves_of b)) k)
      (λ t. rw t)
      (λ t. let h = leb-false (length (leaves_of b)) k t in rw t (leaf_shown_lem k h))
