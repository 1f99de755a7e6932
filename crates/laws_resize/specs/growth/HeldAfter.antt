-- What each slot holds after write and resize of the blob b: one function of the slot for each, by where the slot's block stood and, for a slot
-- that is
-- taken, by how many usable slots lie below it.
use Rattle.std.specs.Prelude.{List, ℕ, ◌-◌, leb, ltb, eqb, length}
use Rattle.meaning.specs.declared.Edition.{Edition}
use Rattle.meaning.specs.Lists.{pick, both, range, filter}
use Rattle.meaning.specs.Bytes.{Cell, usable_slot}
use Rattle.meaning.specs.Tree.{Blob, root_of, leaves_of, length_of, Held, just}
use Rattle.meaning.specs.Shape.{leaves_for, total}
use Rattle.laws_resize.specs.growth.Sites.{sites_of, sited, held_by, root_row}
use Rattle.laws_resize.specs.growth.Cuts.{written, cut_row, height_of_length, shortened, leftmost}
use Rattle.laws_resize.specs.growth.Forms.{grown, grown_root, grown_new}

-- how many usable slots lie below s
unfoldable pub usable_below : (R : List ℕ) → ℕ → ℕ
usable_below R s = length (filter (usable_slot R) (range 0 s))

-- written: d is the whole new content
unfoldable pub written_held : Edition → Blob → (d : List ℕ) → ℕ → Held
written_held e b d s = held_by (written e d) (sited (sites_of b) s)

-- shorter: what the root holds, and any slot
unfoldable pub shorter_root : Edition → Blob → (len : ℕ) → Cell
shorter_root e b len =
    let h = height_of_length e len in
    record { height = h; items = cut_row e len h 0 (leftmost b.height (b.height - h) b.tree).1 }

unfoldable pub shorter_held : Edition → Blob → (len : ℕ) → ℕ → Held
shorter_held e b len s = pick (eqb s (root_of b)) (just (shorter_root e b len)) (held_by (shortened e len) (sited (sites_of b) s))

-- longer: how many slots are taken, how many heights the root rises, and what any slot holds, where free are the usable slots
unfoldable pub taken : Edition → Blob → (len : ℕ) → ℕ
taken e b len = total e.fan (leaves_for e.leaf len) - total e.fan (length (leaves_of b))

unfoldable pub rise : Edition → Blob → (len : ℕ) → ℕ
rise e b len = height_of_length e len - b.height

unfoldable pub longer_held : Edition → (R free : List ℕ) → Blob → (len : ℕ) → ℕ → Held
longer_held e R free b len s =
    let n = length (leaves_of b) in
    let k = rise e b len in
    pick (eqb s (root_of b)) (just (grown_root e len n free k b.height (root_row b)))
    (pick (both (usable_slot R s) (ltb (usable_below R s) (taken e b len)))
    (just (grown_new e len n free k b.height (root_row b) (usable_below R s)))
    (held_by (grown e len n free) (sited (sites_of b) s)))

-- resize
unfoldable pub resized_held : Edition → (R free : List ℕ) → Blob → (len : ℕ) → ℕ → Held
resized_held e R free b len s = pick (leb (length_of b) len) (longer_held e R free b len s) (shorter_held e b len s)
