-- Shorter and written, by where a block stands: the rules that a slot follows.
use Rattle.std.specs.Prelude.{List, [], ◌∷◌, map, Bool, ℕ, zero, suc, ◌-◌, ◌*◌, ◌^◌, leb, eqb, length, take}
use Rattle.meaning.specs.declared.Edition.{Edition}
use Rattle.meaning.specs.Lists.{pick, both, part}
use Rattle.meaning.specs.Tree.{Tree, slot_of, Held, nothing, just}
use Rattle.meaning.specs.Shape.{up, leaves_for, height_for}
use Rattle.laws_resize.specs.growth.Sites.{Site}

-- written: a leaf holds its stretch of the new content d, and an inner block what it held
unfoldable pub rewritten : Edition → (d : List ℕ) → (h i : ℕ) → List ℕ → List ℕ
rewritten e d zero i row = part (e.leaf * i) (length row) d
rewritten e d (suc h) i row = row

unfoldable pub written : Edition → List ℕ → Site → Held
written e d x = just (record { height = x.height; items = rewritten e d x.height x.first x.items })

-- cut to len bytes: so many bytes of a leaf, so many children of an inner block
unfoldable pub cut_row : Edition → (len : ℕ) → (h i : ℕ) → List ℕ → List ℕ
cut_row e len zero i row = take (len - e.leaf * i) row
cut_row e len (suc h) i row = take (up (leaves_for e.leaf len - i) (e.fan ^ h)) row

-- whether a block has no leaf left
unfoldable pub gone : Edition → (len : ℕ) → Site → Bool
gone e len x = leb (leaves_for e.leaf len) x.first

unfoldable pub cut : Edition → (len : ℕ) → Site → Held
cut e len x = pick (gone e len x) nothing (just (record { height = x.height; items = cut_row e len x.height x.first x.items }))

-- the height that len bytes have
unfoldable pub height_of_length : Edition → ℕ → ℕ
height_of_length e len = height_for e.fan (leaves_for e.leaf len)

-- whether a block stands on the left edge, as high as the new root or higher: the root takes its place
unfoldable pub replaced : Edition → (len : ℕ) → Site → Bool
replaced e len x = both (eqb x.first 0) (leb (height_of_length e len) x.height)

-- shorter, of every block but the root
unfoldable pub shortened : Edition → (len : ℕ) → Site → Held
shortened e len x = pick (replaced e len x) nothing (cut e len x)

-- f of the first element, of none d
unfoldable pub of_first : {A B : Type 0} → B → (A → B) → List A → B
of_first d f [] = d
of_first d f (x ∷ xs) = f x

-- the block that stands on the left edge k steps below the top: its slot and what it holds
unfoldable pub leftmost : (h k : ℕ) → Tree h → ℕ × List ℕ
leftmost zero k t = (t.0, t.1)
leftmost (suc h) zero t = (t.0, map (slot_of h) t.1)
leftmost (suc h) (suc k) t = of_first (0, []) (leftmost h k) t.1
