-- The code's walk against the definition's: an equation for each way out of the block visit, and for each turn of the row visit.
-- Bytes and leaves so far go in and come out, so a row's answer is that of its last child, or of the first that fails.
use Rattle.std.specs.Prelude.{Err, Ok}
use mathlib.Core.Path.{◌≡◌, refl, ap, ◌∙◌, sym}
use mathlib.Core.Bool.{Bool, false}
use mathlib.Core.List.{List, [], ◌∷◌, ◌++◌, map, map-append}
use Prim.Native.Nat.{ℕ, zero, suc, ◌+◌, ◌-◌, ◌*◌, ◌≤◌, ◌<◌}
use native.Mathlib.Omega.{arith}
use borrow.Author.Tests.{ne_eqb}
use lib.Dec.{eqb}
use lib.ListN.{length, drop, set, length-append, length-map}
use lib.Seq.{drop-drop}
use Rattle.meaning.specs.Refusals.{Checked}
use Rattle.meaning.specs.Lists.{both, part, number, joined, fours}
use Rattle.meaning.specs.Bytes.{block, count_of, data_of, children_of}
use Rattle.meaning.specs.Tree.{Tree, content, leaves}
use Rattle.meaning.specs.Walk.{Found, fault, fine, and_then, is_empty, one_visit, visit_row, visit}
use Rattle.meaning.specs.declared.Edition.{Edition}
use Rattle.meaning.specs.declared.Refusal.{Refusal}
use Rattle.meaning.specs.declared.Role.{Role}
use Rattle.meaning.specs.declared.Role.TheVariants.{Child}
use Rattle.check_blob.specs.visit as visited
use Rattle.check_blob.specs.notes.{Noted, met, map_found, put_all, note_leaves, note_tree, note_row, note, notes, last_of, Walked}

-- leaves noted one list after the other
put_append : (l : List ℕ) (i : ℕ) (xs ys : List ℕ) → put_all l i (xs ++ ys) ≡ put_all (put_all l i xs) (i + length xs) ys
unfolding put_all
put_append l i [] ys = let z : i + 0 ≡ i = omega arith in rw z
put_append l i (x ∷ xs) ys =
    let z : i + 1 + length xs ≡ i + suc (length xs) = omega arith in
    put_append (set l i x) (i + 1) xs ys ∙ rw z

same_noted : {b b' k k' : ℕ} {o o' : List ℕ} → b ≡ b' → k ≡ k' → o ≡ o'
    → ◌≡◌ {A = Noted} (record { bytes = b; leaves = k; row = o }) (record { bytes = b'; leaves = k'; row = o' })
same_noted e f g = rw (e, f, g)

note_append : (b k : ℕ) (o : List ℕ) (m n : ℕ) (xs ys : List (ℕ × List ℕ))
    → note_leaves b k o (m + n) (xs ++ ys)
    ≡ note_leaves (note_leaves b k o m xs).bytes (note_leaves b k o m xs).leaves (note_leaves b k o m xs).row n ys
unfolding note_leaves
note_append b k o m n xs ys =
    same_noted (omega arith) (ap (λ (z : ℕ). k + z) (length-append xs ys) ∙ omega arith)
    (ap (put_all o k) (map-append (λ l. l.0) xs ys)
    ∙ put_append o k (map (λ l. l.0) xs) (map (λ l. l.0) ys)
    ∙ ap (λ (z : ℕ). put_all (put_all o k (map (λ l. l.0) xs)) (k + z) (map (λ l. l.0) ys)) (length-map xs (λ l. l.0)))

-- a row's leaves are the first child's, then the others'
row_first : (w b k : ℕ) (o : List ℕ) (t : Tree w) (ts : List (Tree w))
    → note_row w b k o (t ∷ ts) ≡ note_row w (note_tree w b k o t).bytes (note_tree w b k o t).leaves (note_tree w b k o t).row ts
unfolding note_row note_tree joined
row_first w b k o t ts =
    ap (λ (m : ℕ). note_leaves b k o m (leaves w t ++ joined (map (leaves w) ts))) (length-append (content w t) (joined (map (content w) ts)))
    ∙ note_append b k o (length (content w t)) (length (joined (map (content w) ts))) (leaves w t) (joined (map (leaves w) ts))

rest_noted : (w b k : ℕ) (o : List ℕ) (t : Tree w) (F : Found (List (Tree w)))
    → map_found (note_row w b k o) (and_then F (λ ts seen'. fine (t ∷ ts) seen'))
    ≡ map_found (note_row w (note_tree w b k o t).bytes (note_tree w b k o t).leaves (note_tree w b k o t).row) F
unfolding map_found and_then
rest_noted w b k o t (fault r) = refl
rest_noted w b k o t (fine ts seen) = ap (λ (x : Noted). fine x seen) (row_first w b k o t ts)

first_noted : (w b k : ℕ) (o : List ℕ) (F : Found (Tree w)) (G : List ℕ → Found (List (Tree w)))
    → map_found (note_row w b k o) (and_then F (λ t seen'. and_then (G seen') (λ ts seen''. fine (t ∷ ts) seen'')))
    ≡ and_then (map_found (note_tree w b k o) F) (λ x seen'. map_found (note_row w x.bytes x.leaves x.row) (G seen'))
unfolding map_found and_then
first_noted w b k o (fault r) G = refl
first_noted w b k o (fine t seen) G = rest_noted w b k o t (G seen)

notes_cons : (e : Edition) (N : ℕ) (P R : List ℕ) (w p : ℕ) (edge : Bool) (c : ℕ) (cs seen : List ℕ) (b k : ℕ) (o : List ℕ)
    → notes e N P R w p edge (c ∷ cs) seen b k o
    ≡ and_then (note e N P R w (Child p) (both edge (is_empty cs)) seen c b k o)
    (λ x seen'. notes e N P R w p edge cs seen' x.bytes x.leaves x.row)
unfolding notes note visit_row
notes_cons e N P R w p edge c cs seen b k o =
    first_noted w b k o (visit e N P R w (Child p) (both edge (is_empty cs)) seen c)
    (λ seen'. visit_row e N P R (visit e N P R w) p edge cs seen')

-- the first of some child slots, from number j on
pub fours_first : (left j : ℕ) (b : List ℕ) → (left ≡ 0 → ⊥)
    → fours left (drop (16 + 4 * j) b) ≡ number (part (16 + 4 * j) 4 b) ∷ fours (left - 1) (drop (16 + 4 * (j + 1)) b)
unfolding fours part
fours_first zero j b n = absurd (n refl)
fours_first (suc left) j b n =
    let p : suc left - 1 ≡ left = omega arith in
    let q : 16 + 4 * j + 4 ≡ 16 + 4 * (j + 1) = omega arith in
    rw (p, drop-drop 4 (16 + 4 * j) b, q)

-- of m child slots, from number j on
pub fours_next : (m j : ℕ) (b : List ℕ) → j < m
    → fours (m - j) (drop (16 + 4 * j) b) ≡ number (part (16 + 4 * j) 4 b) ∷ fours (m - (j + 1)) (drop (16 + 4 * (j + 1)) b)
fours_next m j b l =
    let p : m - (j + 1) ≡ m - j - 1 = omega arith in
    rw p (fours_first (m - j) j b (λ z. omega arith))

-- a child is the last one if none are left after it
none_after : (left : ℕ) (l : List ℕ) → (left ≡ 0 → ⊥) → is_empty (fours (left - 1) l) ≡ eqb left 1
unfolding is_empty fours
none_after zero l n = absurd (n refl)
none_after (suc zero) l n = refl
none_after (suc (suc left)) l n =
    let p : suc (suc left) - 1 ≡ suc left = omega arith in
    let f : eqb (suc (suc left)) 1 ≡ false = ne_eqb (suc (suc left)) 1 (λ q. omega arith) in
    rw (p, f)

-- what follows the one visit of a block
below : (e : Edition) (N : ℕ) (P R : List ℕ) (h : ℕ) → (edge : Bool) → (s : ℕ) → List ℕ → List ℕ → Found (Tree h)
below e N P R zero edge s b seen = fine (s, data_of b) seen
below e N P R (suc h) edge s b seen =
    and_then (visit_row e N P R (visit e N P R h) s edge (children_of b) seen) (λ ts seen'. fine (s, ts) seen')

visit_is : (e : Edition) (N : ℕ) (P R : List ℕ) (h : ℕ) (role : Role) (edge : Bool) (seen : List ℕ) (s : ℕ)
    → visit e N P R h role edge seen s ≡ and_then (one_visit e N P R h role edge seen s) (below e N P R h edge s)
unfolding visit below
visit_is e N P R zero role edge seen s = refl
visit_is e N P R (suc h) role edge seen s = refl

-- a row's leaves are its block's
row_tree : (h b k s : ℕ) (o : List ℕ) (F : Found (List (Tree h)))
    → map_found (note_row h b k o) F ≡ map_found (note_tree (suc h) b k o) (and_then F (λ ts seen'. fine (s, ts) seen'))
unfolding map_found and_then note_row note_tree content leaves
row_tree h b k s o (fault r) = refl
row_tree h b k s o (fine ts seen) = refl

notes_below : (e : Edition) (N : ℕ) (P R : List ℕ) (h : ℕ) (edge : Bool) (seen : List ℕ) (s b k : ℕ) (o : List ℕ) (c : ℕ)
    → c ≡ count_of (block e P s) → (h ≡ 0 → ⊥)
    → notes e N P R (h - 1) s edge (fours c (drop 16 (block e P s))) seen b k o
    ≡ map_found (note_tree h b k o) (below e N P R h edge s (block e P s) seen)
unfolding notes below children_of
notes_below e N P R zero edge seen s b k o c ec n = absurd (n refl)
notes_below e N P R (suc h) edge seen s b k o c ec n =
    let p : suc h - 1 ≡ h = omega arith in
    rw (p, ec) (row_tree h b k s o (visit_row e N P R (visit e N P R h) s edge (fours (count_of (block e P s)) (drop 16 (block e P s))) seen))

leaf_below : (e : Edition) (N : ℕ) (P R : List ℕ) (edge : Bool) (seen : List ℕ) (s b k : ℕ) (o : List ℕ) (c : ℕ) (h : ℕ) → h ≡ 0
    → c ≡ length (data_of (block e P s))
    → met (Ok ((b + c), (k + 1))) seen (set o k s) ≡ map_found (note_tree h b k o) (below e N P R h edge s (block e P s) seen)
unfolding met map_found below note_tree note_leaves content leaves put_all
leaf_below e N P R edge seen s b k o c h z ec = rw (z, ec)

-- the block visit: c is the answer of the one visit, which leaves the flags seen₁
module _ (e : Edition) (N : ℕ) (P R : List ℕ) (h : ℕ) (role : Role) (edge : Bool) (seen : List ℕ) (s b k : ℕ) (o : List ℕ)
    (c : Checked) (seen₁ : List ℕ) (ec : visited.met c (block e P s) seen₁ ≡ one_visit e N P R h role edge seen s) where
  pub note_fault : (r : Refusal) → c ≡ Err r → (sx ox : List ℕ) → met (Err r) sx ox ≡ note e N P R h role edge seen s b k o
  unfolding note met map_found and_then visited.met
  note_fault r er sx ox = rw (visit_is e N P R h role edge seen s, ← ec, er)

  module _ (pc : c ≡ Ok tt) where
    note_in : note e N P R h role edge seen s b k o ≡ map_found (note_tree h b k o) (below e N P R h edge s (block e P s) seen₁)
    unfolding note and_then visited.met
    note_in = rw (visit_is e N P R h role edge seen s, ← ec, pc)

    pub note_leaf : h ≡ 0 → (m : ℕ) → m ≡ length (data_of (block e P s)) → (ox : List ℕ) → ox ≡ set o k s
        → met (Ok ((b + m), (k + 1))) seen₁ ox ≡ note e N P R h role edge seen s b k o
    note_leaf z m em ox eo = rw eo (leaf_below e N P R edge seen₁ s b k o m h z em) ∙ sym note_in

    pub note_inner : (h ≡ 0 → ⊥) → (blk : List ℕ) → blk ≡ block e P s → (m : ℕ) → m ≡ count_of blk → (r : Walked) (sx ox : List ℕ)
        → met r sx ox ≡ notes e N P R (h - 1) s edge (fours m (drop 16 (block e P s))) seen₁ b k o
        → met r sx ox ≡ note e N P R h role edge seen s b k o
    note_inner n blk eb m em r sx ox er = er ∙ notes_below e N P R h edge seen₁ s b k o m (em ∙ ap count_of eb) n ∙ sym note_in

-- the row visit
notes_none : (e : Edition) (N : ℕ) (P R : List ℕ) (w p : ℕ) (edge : Bool) (l seen : List ℕ) (b k : ℕ) (o : List ℕ)
    → met (Ok (b, k)) seen o ≡ notes e N P R w p edge (fours 0 l) seen b k o
unfolding notes met fours visit_row map_found note_row note_leaves joined put_all
notes_none e N P R w p edge l seen b k o = ap (λ (x : Noted). fine x seen) (same_noted (omega arith) (omega arith) refl)

pub notes_end : (e : Edition) (N : ℕ) (P R : List ℕ) (w p : ℕ) (edge : Bool) (m j : ℕ) (l seen : List ℕ) (b k : ℕ) (o : List ℕ)
    (all : Found Noted) → all ≡ notes e N P R w p edge (fours (m - j) l) seen b k o → m ≤ j → met (Ok (b, k)) seen o ≡ all
notes_end e N P R w p edge m j l seen b k o all ea h =
    let z : m - j ≡ 0 = omega arith in
    rw (ea, z) (notes_none e N P R w p edge l seen b k o)

-- c is child j of the m, visited in its role by here, which leaves flags sy and row oy; all is what the whole row comes to
module _ (e : Edition) (N : ℕ) (P R : List ℕ) (w p : ℕ) (edge : Bool) (m j : ℕ) (seen : List ℕ) (b k : ℕ) (o : List ℕ)
    (some : j < m) (c : ℕ) (ec : c ≡ number (part (16 + 4 * j) 4 (block e P p))) (last : Bool) (el : last ≡ last_of edge (m - j))
    (role : Role) (er : role ≡ Child p) (here : Walked) (sy oy : List ℕ) (eh : met here sy oy ≡ note e N P R w role last seen c b k o) where
  abbrev whole : Found Noted
  whole = notes e N P R w p edge (fours (m - j) (drop (16 + 4 * j) (block e P p))) seen b k o

  abbrev rest : List ℕ
  rest = fours (m - (j + 1)) (drop (16 + 4 * (j + 1)) (block e P p))

  whole_is : whole ≡ and_then (met here sy oy) (λ x seen'. notes e N P R w p edge rest seen' x.bytes x.leaves x.row)
  unfolding last_of
  whole_is =
      let r : m - (j + 1) ≡ m - j - 1 = omega arith in
      let l : both edge (is_empty rest) ≡ last = rw (r, none_after (m - j) (drop (16 + 4 * (j + 1)) (block e P p)) (λ z. omega arith)) (sym el) in
      let q : fours (m - j) (drop (16 + 4 * j) (block e P p)) ≡ c ∷ rest = rw (fours_next m j (block e P p) some, ← ec) in
      let h : met here sy oy ≡ note e N P R w (Child p) last seen c b k o = rw er at eh in
      ap (λ (cs : List ℕ). notes e N P R w p edge cs seen b k o) q
      ∙ notes_cons e N P R w p edge c rest seen b k o
      ∙ rw (l, ← h)

  module _ (all : Found Noted) (ea : all ≡ whole) where
    pub notes_stop : (r : Refusal) → here ≡ Err r → (sx ox : List ℕ) → met here sx ox ≡ all
    unfolding met and_then
    notes_stop r er sx ox = rw (ea, whole_is, er)

    pub notes_on : (b' k' : ℕ) → here ≡ Ok (b', k') → all ≡ notes e N P R w p edge rest sy b' k' oy
    unfolding met and_then
    notes_on b' k' eb = rw (ea, whole_is, eb)
