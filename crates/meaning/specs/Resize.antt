-- What resize and write make of a blob, in the words of document 01 and in their order. Quoted words are the paper's, for any leaf and fan-out.
-- The list `worked` in Cases.antt works one resize out, slot by slot.
use Rattle.std.specs.Prelude.{Bool, true, false, List, [], ◌∷◌, ◌++◌, ℕ, zero, suc, ◌-◌, ◌*◌, ◌^◌, min, leb, ltb, eqb, length, get_or, take, drop, replicate}
use Rattle.meaning.specs.Lists.{pick, of_last, map_last, only, padded}
use Rattle.meaning.specs.declared.Edition.{Edition}
use Rattle.meaning.specs.Shape.{leaves_for}
use Rattle.meaning.specs.Tree.{Tree, Blob, slot_of, at_slot, leaves, content_of, leaves_of, length_of}

-- RESIZE, LONGER: "the last leaf fills with zeros, then leaves are added one by one". The paper's height d is h here; d is what a leaf holds.

-- how many bytes of len the i-th leaf holds, counted from 0; and each of k leaves from the i-th on
unfoldable pub share : Edition → (len i : ℕ) → ℕ
share e len i = min e.leaf (len - e.leaf * i)

unfoldable pub shares : Edition → (len i k : ℕ) → List ℕ
shares e len i zero = []
shares e len i (suc k) = share e len i ∷ shares e len (suc i) k

-- the bytes of the last of n leaves, of such content cut or filled with zeros to len
unfoldable pub last_bytes : Edition → (len n : ℕ) → (content : List ℕ) → List ℕ
last_bytes e len n content = padded (share e len (n - 1)) (drop (e.leaf * (n - 1)) content)

-- the last leaf with d for its bytes
unfoldable pub last_leaf : (h : ℕ) → (d : List ℕ) → Tree h → Tree h
last_leaf zero d t = let (slot, bytes) = t in (slot, d)
last_leaf (suc h) d t = let (slot, children) = t in (slot, map_last (last_leaf h d) children)

-- New blocks take their slots from `free`, the usable free slots, rising. So what grows gives two things: the tree, row or blob that is made, and the
-- free slots that are left after it.
pub record Grown (A : Type 0) : Type 0 where
  pub made : A
  pub free : List ℕ

-- "the lowest usable free slot"; of none, a number past every pool
unfoldable pub lowest : (free : List ℕ) → ℕ
lowest free = get_or free 0 (2 ^ 32)

-- "first the lowest usable free slot takes the old root's height, count and payload, and the root becomes height d + 1 with that one child"
unfoldable pub raised : (h : ℕ) → (free : List ℕ) → Tree h → Tree (suc h)
raised h free t = (slot_of h t, at_slot h (lowest free) t ∷ [])

-- "Then at the lowest block of the right edge, inner, with fewer than 12 children": whether there is such a block at or below this one
unfoldable pub roomy : (fan h : ℕ) → Tree h → Bool
roomy fan zero t = false
roomy fan (suc h) t = let (slot, children) = t in pick (ltb (length children) fan) true (of_last (roomy fan h) children)

-- "hang a chain of new blocks one height lower each down to a leaf, each taking the lowest usable free slot, top first"; the leaf holds d
unfoldable pub chain : (h : ℕ) → (d free : List ℕ) → Grown (Tree h)
chain zero d free = record { made = (lowest free, d); free = drop 1 free }
chain (suc h) d free =
    let below = chain h d (drop 1 free) in
    record { made = (lowest free, below.made ∷ []); free = below.free }

-- a row of trees, the last of which grows as f says; of an empty row nothing grows, and the free slots stay
unfoldable pub on_last : {A : Type 0} → (A → Grown A) → List A → (free : List ℕ) → Grown (List A)
on_last f [] free = record { made = []; free = free }
on_last f (x ∷ []) free = let last = f x in record { made = last.made ∷ []; free = last.free }
on_last f (x ∷ (y ∷ ys)) free =
    let rest = on_last f (y ∷ ys) free in
    record { made = x ∷ rest.made; free = rest.free }

-- the chain hung: below the last child if there is such a block there, and else here, as one more child
unfoldable pub hang : (fan h : ℕ) → (d free : List ℕ) → Tree h → Grown (Tree h)
hang fan zero d free t = record { made = t; free = free }
hang fan (suc h) d free t =
    let (slot, children) = t in
    let deeper = on_last (hang fan h d free) children free in
    let new = chain h d free in
    pick (of_last (roomy fan h) children)
    (record { made = (slot, deeper.made); free = deeper.free })
    (record { made = (slot, children ++ (new.made ∷ [])); free = new.free })

-- "To add one when n .. equals 12^d for the present height d: first" the root is raised, and the chain takes the free slots after that one; at any other
-- n the chain hangs in the tree as it is
unfoldable pub add_leaf : (fan : ℕ) → (d : List ℕ) → Blob → (free : List ℕ) → Grown Blob
add_leaf fan d b free =
    let h = b.height in
    let tall = hang fan (suc h) d (drop 1 free) (raised h free b.tree) in
    let wide = hang fan h d free b.tree in
    pick (eqb (length (leaves_of b)) (fan ^ h))
    (record { made = record { height = suc h; tree = tall.made }; free = tall.free })
    (record { made = record { height = h; tree = wide.made }; free = wide.free })

-- leaves of zeros of these lengths, "one by one"
unfoldable pub add_leaves : (fan : ℕ) → (lens : List ℕ) → Blob → (free : List ℕ) → Blob
add_leaves fan [] b free = b
add_leaves fan (len ∷ lens) b free =
    let more = add_leaf fan (replicate len 0) b free in
    add_leaves fan lens more.made more.free

-- the whole: the last of n leaves fills, then as many are added as the new length has more
unfoldable pub longer : Edition → (len : ℕ) → (free : List ℕ) → Blob → Blob
longer e len free b =
    let n = length (leaves_of b) in
    let filled = last_leaf b.height (last_bytes e len n (content_of b)) b.tree in
    add_leaves e.fan (shares e len n (leaves_for e.leaf len - n)) (record { height = b.height; tree = filled }) free

-- RESIZE, SHORTER: "leaves go from the right and the last one left is cut, zeros after".

-- the first n leaves of a row of trees, the last tree cut: what holds none of them goes, so "an inner block with no child goes"
unfoldable pub keep_row : {A : Type 0} → (count : A → ℕ) → (cut : ℕ → A → A) → (n : ℕ) → List A → List A
keep_row count cut n [] = []
keep_row count cut n (x ∷ xs) = pick (eqb n 0) [] (cut n x ∷ keep_row count cut (n - count x) xs)

-- the first n leaves of a tree, and the blocks above them
unfoldable pub keep : (h n : ℕ) → Tree h → Tree h
keep zero n t = t
keep (suc h) n t = let (slot, children) = t in (slot, keep_row (λ x. length (leaves h x)) (keep h) n children)

-- "While the root has one child only, it takes over that child's height, count and payload and the child goes."
unfoldable pub lower : (h : ℕ) → Tree h → Blob
lower zero t = record { height = 0; tree = t }
lower (suc h) t = let (slot, children) = t in only (λ x. lower h (at_slot h slot x)) (record { height = suc h; tree = t }) children

-- the whole: n leaves are left, the last of them is cut, and the root comes down
unfoldable pub shorter : Edition → (len : ℕ) → Blob → Blob
shorter e len b =
    let n = leaves_for e.leaf len in
    lower b.height (last_leaf b.height (last_bytes e len n (content_of b)) (keep b.height n b.tree))

-- either, by the present length
unfoldable pub resized : Edition → (len : ℕ) → (free : List ℕ) → Blob → Blob
resized e len free b = pick (leb (length_of b) len) (longer e len free b) (shorter e len b)

-- WRITE "puts bytes inside the present length": the same blocks in the same slots, each leaf with as many bytes as before.

-- Leaves take their bytes from the front of d. So what is filled gives two things: the tree or row that is made, and the bytes that are left of d.
pub record Spread (A : Type 0) : Type 0 where
  pub made : A
  pub left : List ℕ

-- a row of trees, one after the other
unfoldable pub along : {A : Type 0} → (List ℕ → A → Spread A) → (d : List ℕ) → List A → Spread (List A)
along f d [] = record { made = []; left = d }
along f d (x ∷ xs) =
    let one = f d x in
    let rest = along f one.left xs in
    record { made = one.made ∷ rest.made; left = rest.left }

-- a tree whose leaves take their bytes from d
unfoldable pub refill : (h : ℕ) → (d : List ℕ) → Tree h → Spread (Tree h)
refill zero d t =
    let (slot, bytes) = t in
    record { made = (slot, take (length bytes) d); left = drop (length bytes) d }
refill (suc h) d t =
    let (slot, children) = t in
    let below = along (refill h) d children in
    record { made = (slot, below.made); left = below.left }

-- a blob with d, as long as its content was, for its content
unfoldable pub refilled : (d : List ℕ) → Blob → Blob
refilled d b = record { height = b.height; tree = (refill b.height d b.tree).made }
