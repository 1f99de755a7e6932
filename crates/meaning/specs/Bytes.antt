-- Bytes of a block and of a record. Numbers are little-endian.
use Rattle.std.specs.Prelude.{Bool, true, List, [], ◌∷◌, ◌++◌, map, ℕ, zero, suc, ◌-◌, ◌*◌, ◌^◌, leb, ltb, eqb, length, get_or, take, drop}
use Rattle.meaning.specs.Lists.{pick, both, part, joined, number, bytes, padded, fours, same_list}
use Rattle.meaning.specs.declared.Edition.{Edition}

-- what a live block holds besides its slot and version: a leaf's data bytes, or an inner block's child slots
pub record Cell : Type 0 where
  pub height : ℕ
  pub items : List ℕ

unfoldable pub same_cell : Cell → Cell → Bool
same_cell a b = both (eqb a.height b.height) (same_list a.items b.items)

-- the used payload: data bytes, or child slots of four bytes each
unfoldable pub item_bytes : ℕ → List ℕ → List ℕ
item_bytes zero items = items
item_bytes (suc h) items = joined (map (bytes 4) items)

-- a block's first 16 bytes: mark, height, count, own slot number, version
unfoldable pub header : Edition → (height count slot version : ℕ) → List ℕ
header e height count slot version = e.mark ++ (height ∷ count ∷ (bytes 4 slot ++ bytes 8 version))

-- a block's bytes: header, used payload, zeros after
unfoldable pub block_bytes : Edition → (height count slot version : ℕ) → List ℕ → List ℕ
block_bytes e height count slot version payload = padded e.size (header e height count slot version ++ payload)

-- the block of a cell
unfoldable pub encoded : Edition → Cell → (slot version : ℕ) → List ℕ
encoded e c slot version = block_bytes e c.height (length c.items) slot version (item_bytes c.height c.items)

-- a pool has slots of size bytes each
unfoldable pub block : Edition → List ℕ → ℕ → List ℕ
block e P s = part (e.size * s) e.size P

unfoldable pub height_of : List ℕ → ℕ
height_of b = get_or b 2 0

unfoldable pub count_of : List ℕ → ℕ
count_of b = get_or b 3 0

unfoldable pub own_slot : List ℕ → ℕ
own_slot b = number (part 4 4 b)

unfoldable pub version_of : List ℕ → ℕ
version_of b = number (part 8 8 b)

-- a leaf's data bytes, and an inner block's child slots
unfoldable pub data_of : List ℕ → List ℕ
data_of b = part 16 (count_of b) b

unfoldable pub children_of : List ℕ → List ℕ
children_of b = fours (count_of b) (drop 16 b)

-- a record: mark, state (0 free, 1 part, 2 root), a fourth byte, version; the fourth byte is zero
unfoldable pub record_with : (state fourth version : ℕ) → List ℕ
record_with state fourth version = 0x52 ∷ 0x31 ∷ state ∷ fourth ∷ bytes 8 version

unfoldable pub record_of : (state version : ℕ) → List ℕ
record_of state version = record_with state 0 version

unfoldable pub record_at : List ℕ → ℕ → List ℕ
record_at R s = part (12 * s) 12 R

-- a record's state and version, and those of slot s
unfoldable pub state_of : List ℕ → ℕ
state_of r = get_or r 2 0

unfoldable pub recorded_of : List ℕ → ℕ
recorded_of r = number (part 4 8 r)

unfoldable pub state : List ℕ → ℕ → ℕ
state R s = state_of (record_at R s)

unfoldable pub recorded : List ℕ → ℕ → ℕ
recorded R s = recorded_of (record_at R s)

-- a record keeps its layout: mark, state, zero byte; a live one has version at least 1
unfoldable pub sound_record : List ℕ → Bool
sound_record r =
    both (same_list (take 2 r) (0x52 ∷ 0x31 ∷ []))
    (both (leb (state_of r) 2)
    (both (eqb (get_or r 3 0) 0)
    (pick (eqb (state_of r) 0) true (leb 1 (recorded_of r)))))

-- the last version
unfoldable pub last_version : ℕ
last_version = 2 ^ 64 - 1

-- a free slot is usable if its record's version is below the last
unfoldable pub usable_slot : List ℕ → ℕ → Bool
usable_slot R s = both (eqb (state R s) 0) (ltb (recorded R s) last_version)
