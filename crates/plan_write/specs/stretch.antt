-- What a write makes of each slot: which stretch of a leaf's bytes it touches, whether those bytes differ, and the change of the slot.
use Rattle.std.specs.Prelude.{◌≡◌, true, List, [], ◌∷◌, Option, None, Some, ℕ, ◌+◌, ◌-◌, ◌*◌, ◌≤◌, ◌<◌, min, eqb, length, get_or}
use Rattle.meaning.specs.declared.Edition.{Edition}
use Rattle.meaning.specs.Lists.{pick, part, pasted, same_list}
use Rattle.meaning.specs.Bytes.{Cell, block, count_of, data_of, state, recorded, last_version}
use Rattle.meaning.specs.Change.{Change, renewed}
use Rattle.laws.proofs.Numbers.{OfBytes}
use Rattle.laws.proofs.Inversions.{Sound}
use Rattle.plan_write.specs.declared.stretch.Stretch.{Stretch}

-- of held bytes that begin at base, those that size bytes from the offset on touch
unfoldable pub touched_by : (base held offset size : ℕ) → Stretch
touched_by base held offset size =
    record { within = offset - base; from = base - offset; count = min (held - (offset - base)) (size - (base - offset)) }

-- the stretch of leaf block b that changes, if d is put at the offset and the block's first byte is that of leaf number first; none, if its bytes stay
unfoldable pub differing : Edition → (b d : List ℕ) → (first offset : ℕ) → Option Stretch
differing e b d first offset =
    let t = touched_by (e.leaf * first) (count_of b) offset (length d) in
    pick (same_list (part (16 + t.within) t.count b) (part t.from t.count d)) None (Some t)

-- the stretch of slot s that changes, by the rows of heights and firsts; a leaf of the blob has 1 in the row of heights
unfoldable pub plan_of : Edition → (P heights firsts d : List ℕ) → (offset s : ℕ) → Option Stretch
plan_of e P heights firsts d offset s = pick (eqb (get_or heights s 0) 1) (differing e (block e P s) d (get_or firsts s 0) offset) None

-- a leaf's bytes with such a stretch put
unfoldable pub stretched : Stretch → (d row : List ℕ) → List ℕ
stretched t d row = pasted t.within (part t.from t.count d) row

-- a leaf
abbrev pub leaf_cell : List ℕ → Cell
leaf_cell row = record { height = 0; items = row }

-- what slot s becomes, if that stretch of it changes
unfoldable pub put_by : Edition → (P R d : List ℕ) → ℕ → Option Stretch → List Change
put_by e P R d s None = []
put_by e P R d s (Some t) = renewed e R (state R s) s (leaf_cell (stretched t d (data_of (block e P s)))) ∷ []

-- what slot s becomes
unfoldable pub write_plan : Edition → (P R heights firsts d : List ℕ) → (offset s : ℕ) → List Change
write_plan e P R heights firsts d offset s = put_by e P R d s (plan_of e P heights firsts d offset s)

-- what is known of a stretch that changes: it lies in the leaf's bytes and in d, and the block is bytes
pub record Changing (b d : List ℕ) (t : Stretch) : Type 0 where
  pub leaf : t.within + t.count ≤ count_of b
  pub source : t.from + t.count ≤ length d
  pub bytes : OfBytes b

-- so much is known of a stretch of a slot that changes
pub record ChosenAt (e : Edition) (P hs d : List ℕ) (s : ℕ) (t : Stretch) : Type 0 where
  pub leaf : get_or hs s 0 ≡ 1
  pub changing : Changing (block e P s) d t

-- a slot has its block in the pool and its places in the rows
pub record Place (e : Edition) (P hs fs : List ℕ) (s : ℕ) : Type 0 where
  pub block : e.size * s + e.size ≤ length P
  pub heights : s < length hs
  pub firsts : s < length fs

-- a leaf that may be written: its block passes checks 2 and 3, and its version is not the last
pub record Leaf (e : Edition) (P R : List ℕ) (s : ℕ) : Type 0 where
  pub sound : Sound e 0 true true (recorded R s) s (block e P s)
  pub young : recorded R s < last_version

-- of a slot that is a leaf of the blob: it is not too full; it may be written
pub record Counted (e : Edition) (P hs : List ℕ) (s : ℕ) : Type 0 where
  pub so : get_or hs s 0 ≡ 1 → count_of (block e P s) ≤ e.leaf

pub record Writable (e : Edition) (P R hs : List ℕ) (s : ℕ) : Type 0 where
  pub so : get_or hs s 0 ≡ 1 → Leaf e P R s
