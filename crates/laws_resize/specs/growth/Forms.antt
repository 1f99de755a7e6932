-- Longer, by numbers: what each slot holds, as code computes it.
-- New leaves are counted from 0, and so are new blocks, in the order in which they are made: the p-th takes the p-th usable slot. A block is made
-- before those below it, child after child; so the children of the new block k are the new blocks k + 1 + c * S, where S is how many blocks a full
-- subtree one lower has. First the right edge is filled, from below; then, while leaves are left, the root's row goes to the next slot, and the
-- root, one higher, gets new children beside it.
use Rattle.std.specs.Prelude.{List, [], ◌∷◌, ◌++◌, ℕ, zero, suc, ◌+◌, ◌-◌, ◌*◌, ◌/◌, ◌%◌, ◌^◌, min, ltb, eqb, length, get_or, replicate}
use Rattle.meaning.specs.declared.Edition.{Edition}
use Rattle.meaning.specs.Lists.{pick, padded}
use Rattle.meaning.specs.Bytes.{Cell}
use Rattle.meaning.specs.Tree.{Held, just}
use Rattle.meaning.specs.Shape.{up, leaves_for}
use Rattle.meaning.specs.Resize.{share}
use Rattle.laws_resize.specs.growth.Sites.{Site}

-- what the definitions take for a slot where no usable one is left: a number past every pool
abbrev pub past : ℕ
past = 2 ^ 32

-- c slots of free, from the k-th on, each size further
unfoldable pub every : (free : List ℕ) → (size c k : ℕ) → List ℕ
every free size zero k = []
every free size (suc c) k = get_or free k past ∷ every free size c (k + size)

module _ (fan : ℕ) where
  -- blocks of a full subtree
  unfoldable pub bulk : (h : ℕ) → ℕ
  bulk zero = 1
  bulk (suc h) = 1 + fan * bulk h

  -- of the p-th block of a new subtree of height h: its height, and how many leaves of the subtree lie before it
  unfoldable pub locate : (h p : ℕ) → ℕ × ℕ
  locate zero p = (0, 0)
  locate (suc h) zero = (suc h, 0)
  locate (suc h) (suc p) =
      let l = locate h (p % bulk h) in
      (l.0, p / bulk h * fan ^ h + l.1)

  -- of the p-th block of a row of new subtrees of height h, the first of which begins with the new leaf j: its height and its first leaf
  unfoldable pub in_row : (h j p : ℕ) → ℕ × ℕ
  in_row h j p = let l = locate h (p % bulk h) in (l.0, j + p / bulk h * fan ^ h + l.1)

  -- children of the right edge's block of height h + 1, in a tree of n leaves
  unfoldable pub last_children : (h n : ℕ) → ℕ
  last_children h n = (n - 1) / fan ^ h % fan + 1

  -- leaves that the right edge's block of height h has room for, and the blocks that they need
  unfoldable pub room : (h n : ℕ) → ℕ
  room zero n = 0
  room (suc h) n = room h n + (fan - last_children h n) * fan ^ h

  unfoldable pub space : (h n : ℕ) → ℕ
  space zero n = 0
  space (suc h) n = space h n + (fan - last_children h n) * bulk h

  -- of the p-th new block, where a tree of height h and n leaves is filled: its height and its first leaf
  unfoldable pub seat : (h n p : ℕ) → ℕ × ℕ
  seat zero n p = (0, 0)
  seat (suc h) n p =
      let here = in_row h (room h n) (p - space h n) in
      let deeper = seat h n p in
      pick (ltb p (space h n)) deeper here

  -- m new leaves: how many children of height h the leaves from j on need, in a block with c places left
  unfoldable pub places : (m c h j : ℕ) → ℕ
  places m c h j = min c (up (m - j) (fan ^ h))

-- m new leaves, of so many bytes each, and their blocks in slots of free
module _ (fan m : ℕ) (bytes : ℕ → ℕ) (free : List ℕ) where
  -- those children's slots, if the first of them is the new block k
  unfoldable pub new_row : (c h j k : ℕ) → List ℕ
  new_row c h j k = every free (bulk fan h) (places fan m c h j) k

  -- what the new block k holds, if it has this height and begins with the new leaf j
  unfoldable pub fresh_cell : (h j k : ℕ) → Cell
  fresh_cell zero j k = record { height = 0; items = replicate (bytes j) 0 }
  fresh_cell (suc h) j k = record { height = suc h; items = new_row fan h j (suc k) }

  -- what a root holds that is one higher than a full one of height h, if the new leaves from j on are left and its row goes to the new block b
  unfoldable pub above : (h j b : ℕ) → Cell
  above h j b = record { height = suc h; items = get_or free b past ∷ new_row (fan - 1) h j (suc b) }

  -- what the root holds in the end, if it held top when it was full; it gets k higher at most
  unfoldable pub root_cell : (k h j b : ℕ) → (top : Cell) → Cell
  root_cell zero h j b top = top
  root_cell (suc k) h j b top =
      let on = root_cell k (suc h) (j + (fan - 1) * fan ^ h) (suc b + (fan - 1) * bulk fan h) (above h j b) in
      pick (ltb j m) on top

  -- what the new block p holds, from b on
  unfoldable pub tall_cell : (k h j b : ℕ) → (top : Cell) → (p : ℕ) → Cell
  tall_cell zero h j b top p = top
  tall_cell (suc k) h j b top p =
      let l = in_row fan h j (p - suc b) in
      let next = suc b + (fan - 1) * bulk fan h in
      let on = tall_cell k (suc h) (j + (fan - 1) * fan ^ h) next (above h j b) p in
      pick (eqb p b) top (pick (ltb p next) (fresh_cell l.0 l.1 p) on)

  -- what the new block p holds, if the right edge has room for j leaves and b blocks, and l is the place of p in it
  unfoldable pub new_cell : (k h : ℕ) → (l : ℕ × ℕ) → (j b : ℕ) → (top : Cell) → (p : ℕ) → Cell
  new_cell k h l j b top p = pick (ltb p b) (fresh_cell l.0 l.1 p) (tall_cell k h j b top p)

-- a blob of n leaves that gets len bytes long
module _ (e : Edition) (len n : ℕ) (free : List ℕ) where
  -- how many leaves are new, and the bytes of the new leaf j
  unfoldable pub new_leaves : ℕ
  new_leaves = leaves_for e.leaf len - n

  unfoldable pub new_bytes : ℕ → ℕ
  new_bytes j = share e len (n + j)

  -- an old block that stays where it is: a leaf fills with zeros, an inner block gets new children
  unfoldable pub grown_row : (h i : ℕ) → List ℕ → List ℕ
  grown_row zero i row = padded (share e len i) row
  grown_row (suc h) i row = row ++ new_row e.fan new_leaves new_bytes free (e.fan - length row) h (room e.fan h n) (space e.fan h n)

  unfoldable pub grown : Site → Held
  grown x = just (record { height = x.height; items = grown_row x.height x.first x.items })

  -- what the old root of height h, whose row that was, holds when it is full
  unfoldable pub top_cell : (h : ℕ) → List ℕ → Cell
  top_cell h row = record { height = h; items = grown_row h 0 row }

  -- the root in the end, and the new block p
  unfoldable pub grown_root : (k h : ℕ) → List ℕ → Cell
  grown_root k h row = root_cell e.fan new_leaves new_bytes free k h (room e.fan h n) (space e.fan h n) (top_cell h row)

  unfoldable pub grown_new : (k h : ℕ) → List ℕ → (p : ℕ) → Cell
  grown_new k h row p =
      new_cell e.fan new_leaves new_bytes free k h (seat e.fan h n p) (room e.fan h n) (space e.fan h n) (top_cell h row) p
