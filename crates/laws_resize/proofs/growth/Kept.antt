-- The old blocks of a tree that is filled follow the rule `grown`: a full block stays as it is, for it has no place left and its leaves no byte;
-- and a
-- block of the right edge gets the new children that there is room for.
use mathlib.Core.Path.{◌≡◌, refl, sym, ap, ap₂, ◌∙◌}
use mathlib.Core.Bool.{Bool, true, false}
use mathlib.Core.List.{List, [], ◌∷◌, ◌++◌, map, append_assoc, append-nil, map-append}
use Prim.Native.Nat.{ℕ, zero, suc, ◌+◌, ◌-◌, ◌*◌, ◌^◌, ◌≤◌, min}
use native.Mathlib.Nat.{pow-zero, pow-suc, mul-add, mul_assoc, mul-suc, mul-le-mul_left, min-eq_left}
use native.Mathlib.Omega.{arith}
use lib.ListN.{length, get_or, replicate, length-append, length-map}
use lib.Seq.{take_at, get_or-append-add}
use Rattle.meaning.specs.declared.Edition.{Edition}
use Rattle.meaning.specs.Lists.{pick, padded, joined, map_last}
use Rattle.meaning.specs.Bytes.{Cell}
use Rattle.meaning.specs.Tree.{Tree, slot_of, leaves, cells}
use Rattle.meaning.specs.Shape.{least_count, most_count, InRow, ShapedTree}
use Rattle.meaning.specs.Resize.{share, last_leaf}
use Rattle.laws_resize.proofs.resizing.Ends.{length_snoc, joined_snoc, map_last_snoc, row_apart, some_child}
use Rattle.laws_resize.proofs.resizing.Last.{last_slot}
use Rattle.laws_resize.specs.growth.Room.{count}
use Rattle.laws_resize.specs.growth.Sites.{top_row, counting, sites, entry, ruled}
use Rattle.laws_resize.specs.growth.Forms.{places, new_row, new_leaves, grown_row, grown}
use Rattle.laws_resize.specs.growth.Spot.{room_of, space_of, spot, edge_cell}
use Rattle.laws_resize.specs.growth.Made.{up_to_last, kept}
use Rattle.laws_resize.proofs.growth.FormsByCases.{grown_full}
use Rattle.laws_resize.proofs.growth.Sites.{ruled_append}
use Rattle.laws_resize.proofs.growth.Grow.{Ends, none, last, ends}
use Rattle.laws_resize.proofs.growth.Held.{up_to_last_last}
use Rattle.laws_resize.proofs.growth.PthMade.{of_end_last}
use Rattle.laws_resize.proofs.growth.RootAsItRises.{edge_is}
use Rattle.laws_resize.proofs.growth.Cut.{row_count, full_count, some_count}
use Rattle.laws_resize.proofs.growth.Rooms.{count_last, front_count, numbered}

-- a row with its last leaf changed
pub last_row : (h : ℕ) (d : List ℕ) (k : ℕ) (xs : List (Tree h)) (x : Tree h) → last_leaf (suc h) d (k, xs ++ (x ∷ []))
    ≡ (k, xs ++ (last_leaf h d x ∷ []))
unfolding last_leaf
last_row h d k xs x = ap (λ (row : List (Tree h)). (k, row)) (map_last_snoc (last_leaf h d) xs x)

-- of no row, nothing
last_none : (h : ℕ) (d : List ℕ) (k : ℕ) → last_leaf (suc h) d (k, []) ≡ (k, [])
unfolding last_leaf map_last
last_none h d k = refl

-- room, space and places do not change
abbrev SameRoom : (fan h : ℕ) (d : List ℕ) → Tree h → Type 0
SameRoom fan h d t = (room_of fan h (last_leaf h d t) ≡ room_of fan h t) × (space_of fan h (last_leaf h d t) ≡ space_of fan h t)
    × ((p : ℕ) → spot fan h (last_leaf h d t) p ≡ spot fan h t p)

-- of a row
same_row : (fan h : ℕ) (d : List ℕ) → ((t : Tree h) → SameRoom fan h d t) → (k : ℕ) (l : List (Tree h)) → Ends l → SameRoom fan (suc h) d (k, l)
unfolding room_of space_of spot
same_row fan h d each k l none = rw (last_none h d k) (refl, refl, λ p. refl)
same_row fan h d each k l (last xs x) =
    let i = each x in
    let y = last_leaf h d x in
    let n : length (xs ++ (y ∷ [])) ≡ length (xs ++ (x ∷ [])) = length_snoc xs y ∙ sym (length_snoc xs x) in (
      rw (last_row h d k xs x, of_end_last 0 (room_of fan h) xs y, of_end_last 0 (room_of fan h) xs x, i.0, n),
      rw (last_row h d k xs x, of_end_last 0 (space_of fan h) xs y, of_end_last 0 (space_of fan h) xs x, i.1, n),
      λ p. rw (
        last_row h d k xs x,
        of_end_last 0 (space_of fan h) xs y,
        of_end_last 0 (space_of fan h) xs x,
        of_end_last 0 (room_of fan h) xs y,
        of_end_last 0 (room_of fan h) xs x,
        of_end_last (0, 0) (λ x. spot fan h x p) xs y,
        of_end_last (0, 0) (λ x. spot fan h x p) xs x,
        i.0,
        i.1,
        i.2 p,
      ),
    )

-- of a tree
pub same_room : (fan h : ℕ) (d : List ℕ) (t : Tree h) → SameRoom fan h d t
unfolding room_of space_of spot
same_room fan zero d t = (refl, refl, λ p. refl)
same_room fan (suc h) d t = same_row fan h d (same_room fan h d) t.0 t.1 (ends t.1)

-- the sites of a row are those of its front, and of its last tree
counting_last : (h i : ℕ) (xs : List (Tree h)) (x : Tree h)
    → counting (count h) (sites h) i (xs ++ (x ∷ [])) ≡ counting (count h) (sites h) i xs ++ sites h (i + row_count h xs) x
unfolding counting joined
counting_last h i [] x = let z : i + 0 ≡ i = omega arith in rw (z, append-nil)
counting_last h i (y ∷ ys) x =
    let z : i + length (leaves h y ++ joined (map (leaves h) ys)) ≡ i + count h y + row_count h ys =
    rw (length-append (leaves h y) (joined (map (leaves h) ys))) (omega arith) in
    rw z (ap (◌++◌ (sites h i y)) (counting_last h (i + count h y) ys x) ∙ sym (append_assoc (sites h i y) _ _))

-- a list that is long enough already
padded_same : (n : ℕ) (l : List ℕ) → length l ≡ n → padded n l ≡ l
unfolding padded
padded_same n l q = take_at l (replicate n 0) n q

module _ (e : Edition) (some : 1 ≤ e.leaf) (two : 2 ≤ e.fan) (len n : ℕ) (free : List ℕ) where
  -- a full row stays as it is
  full_row : (h : ℕ) → ((i : ℕ) (t : Tree h) → ShapedTree e h false false t → e.leaf * (i + e.fan ^ h) ≤ len
      → ruled (grown e len n free) (sites h i t) ≡ cells h t)
      → (i : ℕ) (ts : List (Tree h)) → InRow (ShapedTree e h false) false ts → e.leaf * (i + e.fan ^ h * length ts) ≤ len
      → ruled (grown e len n free) (counting (count h) (sites h) i ts) ≡ joined (map (cells h) ts)
  unfolding InRow counting ruled joined
  full_row h each i [] r fits = refl
  full_row h each i (t ∷ []) r fits =
      ruled_append (grown e len n free) (sites h i t) []
      ∙ ap₂ ◌++◌ (each i t r (omega (arith, mul-add e.leaf i (e.fan ^ h), mul-add e.leaf i (e.fan ^ h * 1)))) refl
  full_row h each i (t ∷ (u ∷ us)) r fits =
      let c = length (u ∷ us) in
      let z : i + e.fan ^ h * suc c ≡ i + e.fan ^ h + e.fan ^ h * c = omega (arith, mul-suc (e.fan ^ h) c) in
      let y : e.leaf * (i + e.fan ^ h + e.fan ^ h * c) ≤ len = rw z at fits in
      ruled_append (grown e len n free) (sites h i t) _
      ∙ ap₂ ◌++◌ (each i t r.0 (omega (arith, mul-add e.leaf (i + e.fan ^ h) (e.fan ^ h * c))))
      (full_row h each (i + count h t) (u ∷ us) r.1 (rw (full_count e some two h t r.0) y))

  -- and so a full tree
  full_tree : (h i : ℕ) (t : Tree h) → ShapedTree e h false false t → e.leaf * (i + e.fan ^ h) ≤ len
      → ruled (grown e len n free) (sites h i t) ≡ cells h t
  unfolding ShapedTree sites ruled entry grown cells least_count most_count pick share grown_row
  full_tree zero i t s fits =
      let l : length t.1 ≡ e.leaf = omega (arith, s.0, s.1) in
      let m : min e.leaf (len - e.leaf * i)
      ≡ e.leaf = min-eq_left (omega (arith, pow-zero e.fan, mul-add e.leaf i (e.fan ^ 0), ap (λ (x : ℕ). e.leaf * x) (pow-zero e.fan))) in
      rw (m, padded_same e.leaf t.1 l)
  full_tree (suc h) i t s fits =
      let l : length (map (slot_of h) t.1) ≡ e.fan = length-map t.1 (slot_of h) ∙ omega (arith, s.0, s.1) in
      let w : e.fan ^ h * length t.1 ≡ e.fan ^ suc h = ap (λ (x : ℕ). e.fan ^ h * x) (omega (arith, s.0, s.1)) ∙ sym (pow-suc e.fan h) in
      rw (
        grown_full e len n free h i (map (slot_of h) t.1) l,
        full_row h (full_tree h) i t.1 s.2
            (rw w fits),
      )

-- an old tree on the right edge, as new leaves of these lengths come
module _ (e : Edition) (some : 1 ≤ e.leaf) (two : 2 ≤ e.fan) (len n : ℕ) (free lens : List ℕ) (new : length lens ≡ new_leaves e len n free)
    (long : e.leaf * (n - 1) ≤ len) where
  -- a tree that begins with leaf i, so many full ones before it, and ends with leaf n - 1, whose bytes become d
  pub record AtEdge (h i : ℕ) (d : List ℕ) (root : Bool) (t : Tree h) : Type 0 where
    pub shaped : ShapedTree e h root true t
    pub before : ℕ
    pub begins : i ≡ e.fan ^ h * before
    pub ends : n ≡ i + count h t
    pub bytes : d ≡ padded (share e len (n - 1)) (get_or (leaves h t) (count h t - 1) (0, [])).1

  -- the last tree of such a row
  edge_last : (h k i : ℕ) (d : List ℕ) (root : Bool) (xs : List (Tree h)) (x : Tree h) → AtEdge (suc h) i d root (k, xs ++ (x ∷ []))
      → AtEdge h (i + row_count h xs) d false x
  unfolding ShapedTree leaves joined
  edge_last h k i d root xs x a =
      let f = row_apart (ShapedTree e h false) true xs x a.shaped.2 in
      let c = front_count e some two h xs f.0 in
      let m = some_count e some two h true x f.1 in
      let all : joined (map (leaves h) (xs ++ (x ∷ []))) ≡ joined (map (leaves h) xs) ++ leaves h x =
      joined_snoc (leaves h) xs x in
      let w : length (joined (map (leaves h) (xs ++ (x ∷ [])))) - 1 ≡ row_count h xs + (count h x - 1) = omega (arith, count_last h xs x) in
      let p = ap (λ (y : ℕ). y * a.before) (pow-suc e.fan h) in
      let at : get_or (joined (map (leaves h) (xs ++ (x ∷ [])))) (length (joined (map (leaves h) (xs ++ (x ∷ [])))) - 1) (0, [])
      ≡ get_or (leaves h x) (count h x - 1) (0, []) =
      rw (w, all) (get_or-append-add (joined (map (leaves h) xs)) (leaves h x) (count h x - 1) (0, [])) in
      record {
        shaped = f.1;
        before = e.fan * a.before + length xs;
        begins = omega (arith, a.begins, mul_assoc (e.fan ^ h) e.fan a.before);
        ends = omega (arith, a.ends, count_last h xs x);
        bytes = a.bytes ∙ ap (λ (l : ℕ × List ℕ). padded (share e len (n - 1)) l.1) at;
      }

  -- an inner block of it has a child
  no_leaf : (h k i : ℕ) (d : List ℕ) (root : Bool) → AtEdge (suc h) i d root (k, []) → 1 ≤ 0
  unfolding ShapedTree
  no_leaf h k i d root a = some_child e two h true root _ a.shaped.0

  -- the top of such a tree, filled
  top_row_lem : (h k i : ℕ) (d : List ℕ) (root : Bool) (l : List (Tree h)) → Ends l → AtEdge (suc h) i d root (k, l)
      → edge_cell e.fan lens free (suc h) (last_leaf (suc h) d (k, l))
      ≡ record { height = suc h; items = grown_row e len n free (suc h) i (map (slot_of h) l) }
  unfolding edge_cell grown_row new_row places
  top_row_lem h k i d root l none a = absurd (omega (arith, no_leaf h k i d root a))
  top_row_lem h k i d root l (last xs x) a =
      let y = last_leaf h d x in
      let b = edge_last h k i d root xs x a in
      let same = same_room e.fan h d x in
      let nums = numbered e some two h false x b.shaped b.before n (b.ends ∙ ap (λ (j : ℕ). j + count h x) b.begins) in
      let slots : map (slot_of h) (xs ++ (y ∷ [])) ≡ map (slot_of h) (xs ++ (x ∷ [])) =
      map-append (slot_of h) xs (y ∷ []) ∙ ap (λ (s : ℕ). map (slot_of h) xs ++ (s ∷ [])) (last_slot h d x) ∙ sym (map-append (slot_of h) xs (x ∷ [])) in
      rw (
        last_row h d k xs x,
        of_end_last 0 (room_of e.fan h) xs y,
        of_end_last 0 (space_of e.fan h) xs y,
        same.0,
        same.1,
        nums.0,
        nums.1,
        slots,
        new,
        length_snoc xs y,
        length-map (xs ++ (x ∷ [])) (slot_of h),
        length_snoc xs x,
      )

  -- the top of a tree at the edge, filled
  pub top_grown : (h i : ℕ) (d : List ℕ) (root : Bool) (t : Tree h) → AtEdge h i d root t
      → edge_cell e.fan lens free h (last_leaf h d t) ≡ record { height = h; items = grown_row e len n free h i (top_row h t) }
  unfolding edge_cell last_leaf grown_row top_row leaves
  top_grown zero i d root t a =
      let z : n - 1 ≡ i = omega (arith, a.ends) in
      ap (λ (r : List ℕ). record { height = 0; items = r }) (a.bytes ∙ rw z)
  top_grown (suc h) i d root t a = top_row_lem h t.0 i d root t.1 (ends t.1) a

  -- old blocks, of a row
  abbrev EdgeKept : ℕ → Type 0
  EdgeKept h = (i : ℕ) (d : List ℕ) (root : Bool) (t : Tree h) → AtEdge h i d root t
      → kept e.fan h lens free (last_leaf h d t) ≡ ruled (grown e len n free) (sites h i t)

  -- with the old blocks of the last tree
  kept_row : (h : ℕ) → EdgeKept h → (k i : ℕ) (d : List ℕ) (root : Bool) (l : List (Tree h)) → Ends l → AtEdge (suc h) i d root (k, l)
      → kept e.fan (suc h) lens free (last_leaf (suc h) d (k, l)) ≡ ruled (grown e len n free) (sites (suc h) i (k, l))
  unfolding kept sites ruled entry grown ShapedTree last_leaf
  kept_row h each k i d root l none a = absurd (omega (arith, no_leaf h k i d root a))
  kept_row h each k i d root l (last xs x) a =
      let y = last_leaf h d x in
      let b = edge_last h k i d root xs x a in
      let f = row_apart (ShapedTree e h false) true xs x a.shaped.2 in
      let c = front_count e some two h xs f.0 in
      let m = some_count e some two h true x f.1 in
      let early : e.leaf * (i + e.fan ^ h * length xs) ≤ len =
      omega (arith, mul-le-mul_left {m = i + e.fan ^ h * length xs} {n = n - 1} e.leaf (omega (arith, b.ends))) in
      let top = edge_is e.fan (omega arith) lens free (suc h) (last_leaf (suc h) d (k, xs ++ (x ∷ [])))
      ∙ top_row_lem h k i d root (xs ++ (x ∷ [])) (last xs x) a in
      let below = ap (up_to_last (cells h) (kept e.fan h lens free)) (map_last_snoc (last_leaf h d) xs x)
      ∙ up_to_last_last (cells h) (kept e.fan h lens free) xs y
      ∙ ap₂ ◌++◌ (sym (full_row e some two len n free h (full_tree e some two len n free h) i xs f.0 early)) (each (i + row_count h xs) d false x b)
      ∙ sym (ap (ruled (grown e len n free)) (counting_last h i xs x) ∙ ruled_append (grown e len n free) (counting (count h) (sites h) i xs) _) in
      ap₂ (λ (c : Cell) (rest : List (ℕ × Cell)). (k, c) ∷ rest) top below

  -- old blocks, of a tree
  pub edge_kept : (h : ℕ) → EdgeKept h
  unfolding kept cells last_leaf sites ruled entry grown grown_row leaves
  edge_kept zero i d root t a =
      let z : n - 1 ≡ i = omega (arith, a.ends) in
      ap (λ (r : List ℕ). (t.0, record { height = 0; items = r }) ∷ []) (a.bytes ∙ rw z)
  edge_kept (suc h) i d root t a = kept_row h (edge_kept h) t.0 i d root t.1 (ends t.1) a
