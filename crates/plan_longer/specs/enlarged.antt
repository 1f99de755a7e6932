-- What a blob that gets longer makes of the slots that it has, by what code has of them: the noted height and first leaf, the block, and the root's
-- block as it was.
use Rattle.std.specs.Prelude.{◌≡◌, List, ℕ, ◌+◌, ◌-◌, ◌*◌, ◌^◌, ◌≤◌, ◌<◌, length, get_or}
use Rattle.meaning.specs.declared.Edition.{Edition}
use Rattle.meaning.specs.Bytes.{Cell, block, count_of, last_version}
use Rattle.meaning.specs.Shape.{most_count}
use Rattle.meaning.specs.Resize.{share}
use Rattle.laws.proofs.Codec.{items_of}
use Rattle.laws_resize.specs.growth.Forms.{grown_row}
use Rattle.laws_resize.specs.rising.{top_at}
use Rattle.plan_longer.specs.declared.fresh.Growth.{Growth}
use Rattle.plan_slot.specs.declared.turn.Turn.{Turn}
use Rattle.plan_slot.specs.turn.{turned, Rises}
use Rattle.plan_slot.specs.renewal.{renewal}
use Rattle.plan_longer.specs.declared.towers.Tower.{Tower}

-- slot s of the pool and its place in the rows; if its height is noted, its block is low and not too full
pub record Spot (e : Edition) (g : Growth) (P hs fs : List ℕ) (s : ℕ) : Type 0 where
  pub place : e.size * s + e.size ≤ length P
  pub heights : s < length hs
  pub firsts : s < length fs
  pub low : e.fan ^ (get_or hs s 0 - 1) ≤ 2 ^ 50
  pub most : 1 ≤ get_or hs s 0 → count_of (block e P s) ≤ most_count e (get_or hs s 0 - 1)
  pub share : 1 ≤ get_or hs s 0 → get_or hs s 0 - 1 ≡ 0 → count_of (block e P s) ≤ share e g.length (get_or fs s 0)

-- a turn and its payload renew a slot whose block is b by the cell c: any slot whose version can rise
pub record Redraws (e : Edition) (b : List ℕ) (c : Cell) (turn : Turn) (payload : List ℕ) : Type 0 where
  pub changes : (R : List ℕ) (s : ℕ) → turned e R s turn payload ≡ renewal e R s b c
  pub rises : (v : ℕ) → v < last_version → Rises turn v

-- what the root holds in the end: kept is its block as it was
unfoldable pub root_end : Edition → Growth → Tower → (free kept : List ℕ) → Cell
root_end e g t free kept = top_at e g.length g.leaves t.blocks free t.height (items_of t.height kept) t.top

-- what another block of the blob holds
unfoldable pub old_end : Edition → Growth → (P free hs fs : List ℕ) → ℕ → Cell
old_end e g P free hs fs s =
    let h = get_or hs s 0 - 1 in
    record { height = h; items = grown_row e g.length g.leaves free h (get_or fs s 0) (items_of h (block e P s)) }
