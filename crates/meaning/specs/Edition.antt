-- Editions: the numbers that document 01 fixes, and what an edition owes for the laws to hold.
use Rattle.std.specs.Prelude.{◌≡◌, [], ◌∷◌, ℕ, ◌+◌, ◌*◌, ◌^◌, ◌≤◌, ◌<◌, length, get_or}
use Rattle.meaning.specs.declared.Edition.{Edition}

-- edition one: document 01's numbers, with the height and the slots of request W-203
unfoldable pub one : Edition
one = record { mark = 0x4c ∷ 0x31 ∷ []; size = 64; leaf = 48; fan = 12; top = 5; most = 65536 }

-- What an edition owes: its mark is two bytes, the first of which no block of zeros has; a payload's count and a height are one byte each; an inner
-- block's children fill the payload; header and payload fit the block; every pool's largest blob is at most top high; a slot number has four bytes.
pub record Proper (e : Edition) : Type 0 where
  pub marked : length e.mark ≡ 2
  pub bytes : (i : ℕ) → get_or e.mark i 0 < 256
  pub solid : 1 ≤ get_or e.mark 0 0
  pub some : 1 ≤ e.leaf
  pub byte : e.leaf < 256
  pub two : 2 ≤ e.fan
  pub fills : e.leaf ≡ 4 * e.fan
  pub fits : 16 + e.leaf ≤ e.size
  pub low : e.top < 256
  pub room : e.most ≤ e.fan ^ e.top
  pub small : e.most ≤ 2 ^ 32
