-- A reading head (request W-201 of document 02): it keeps hold of a pool and of a place in a blob, and hands out the next bytes. Every word is total:
-- any pool bytes, any head. Where a blob passed the blob check, the bytes are the blob's, and that is the promise (crates/promises/specs/Heads.antt).
use Rattle.std.specs.Prelude.{List, [], ◌∷◌, ◌++◌, map, ℕ, zero, suc, ◌+◌, ◌-◌, ◌*◌, ◌/◌, ◌%◌, min, ltb, length, get_or, drop}
use Rattle.meaning.specs.Lists.{pick, part, range, number}
use Rattle.meaning.specs.Bytes.{block, height_of}
use Rattle.meaning.specs.Calls.{Outcome, refused, done, slots_in, length_call}
use Rattle.meaning.specs.declared.Edition.{Edition}

-- a head, beside the pool that it keeps hold of: the blob's root, the place of the next byte, the blob's length
pub record Head : Type 0 where
  pub root : ℕ
  pub place : ℕ
  pub length : ℕ

abbrev pub head_at : (root place length : ℕ) → Head
head_at root place length = record { root = root; place = place; length = length }

-- "Opening it does the blob check once, with the refusals of length; a refused head hands out nothing": it answers as length does, and the head
-- stands at place 0; of a refused head nothing remains.
unfoldable pub head_of : (r : ℕ) → Outcome ℕ → Head
head_of r (refused q) = head_at r 0 0
head_of r (done n cs) = head_at r 0 n

unfoldable pub open_head : Edition → (P R : List ℕ) → (r : ℕ) → Head
open_head e P R r = head_of r (length_call e P R r)

-- where the bytes of a blob lie in pool P: a descent by position, from the root, with no record and no check
module _ (e : Edition) (P : List ℕ) where
  -- the block of a slot; no byte, where the pool has no such slot
  unfoldable pub block_at : (s : ℕ) → List ℕ
  block_at s = pick (ltb s (slots_in e P)) (block e P s) []

  -- a block's child number i
  unfoldable pub child_at : (s i : ℕ) → ℕ
  child_at s i = number (part (16 + 4 * i) 4 (block_at s))

  -- the slot of the j-th block, from the left, that lies d heights below the root r: a child of the block one height above it
  unfoldable pub below : (d r j : ℕ) → ℕ
  below zero r j = r
  below (suc d) r j = child_at (below d r (j / e.fan)) (j % e.fan)

  -- the root's height, as the walk takes it
  unfoldable pub height_at : (r : ℕ) → ℕ
  height_at r = min (height_of (block_at r)) e.top

  -- the byte at a place, of a blob whose root r is h high: it lies in leaf number place / leaf; 0, where the pool has no such slot
  unfoldable pub byte_at : (h r place : ℕ) → ℕ
  byte_at h r place = get_or (block_at (below h r (place / e.leaf))) (16 + place % e.leaf) 0

  -- n bytes from a place on
  unfoldable pub piece : (h r place n : ℕ) → List ℕ
  piece h r place n = map (byte_at h r) (range place n)

-- how many bytes are handed out: "as many as asked or as remain"
unfoldable pub handed : (length place asked : ℕ) → ℕ
handed length place asked = min asked (length - place)

-- "hands out the next bytes"
unfoldable pub handed_out : Edition → (P : List ℕ) → Head → (asked : ℕ) → List ℕ
handed_out e P h asked = piece e P (height_at e P h.root) h.root h.place (handed h.length h.place asked)

-- the head then stands behind them
unfoldable pub moved : Head → (asked : ℕ) → Head
moved h asked = head_at h.root (h.place + handed h.length h.place asked) h.length

-- the lent output, whose length is what is asked: the bytes handed out, and behind them what was there
unfoldable pub out_after : Edition → (P : List ℕ) → Head → (out : List ℕ) → List ℕ
out_after e P h out = handed_out e P h (length out) ++ drop (handed h.length h.place (length out)) out

-- "However the asking is cut up": the pieces that are handed out for these sizes, one after the other
unfoldable pub pieces : Edition → (P : List ℕ) → Head → (sizes : List ℕ) → List (List ℕ)
pieces e P h [] = []
pieces e P h (k ∷ ks) = handed_out e P h k ∷ pieces e P (moved h k) ks

unfoldable pub sum : List ℕ → ℕ
sum [] = 0
sum (k ∷ ks) = k + sum ks
