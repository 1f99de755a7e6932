-- A shaped tree has room on its right edge only, and how much is a matter of how many leaves it has: room, space and the places in it are the same
-- numbers whether they are read off the tree or computed from the count of leaves.
use mathlib.Core.Path.{◌≡◌, refl, ap, ◌∙◌}
use mathlib.Core.Bool.{Bool, true, false}
use mathlib.Core.List.{List, [], ◌∷◌, ◌++◌, map}
use Prim.Native.Nat.{ℕ, zero, suc, ◌+◌, ◌-◌, ◌*◌, ◌/◌, ◌^◌, ◌≤◌, ◌<◌}
use native.Mathlib.Nat.{pow-zero, pow-suc, one-le-pow, mul-add-div, mul-add-mod_self_left, mod-eq_of_lt, div-eq_of_lt, add-zero, mul_assoc}
use native.Mathlib.Omega.{arith}
use lib.ListN.{length, length-append}
use Rattle.laws_resize.specs.growth.Forms.{last_children, room, space, seat}
use Rattle.laws_resize.specs.growth.Spot.{room_of, space_of, spot}
use Rattle.meaning.specs.declared.Edition.{Edition}
use Rattle.meaning.specs.Lists.{joined}
use Rattle.meaning.specs.Tree.{Tree, leaves}
use Rattle.meaning.specs.Shape.{most_count, InRow, ShapedTree}
use Rattle.laws_resize.proofs.resizing.Ends.{length_snoc, joined_snoc, row_apart, some_child}
use Rattle.laws.proofs.Every.{Every}
use Rattle.laws_resize.specs.growth.Room.{count, RoomRow, Room}
use Rattle.laws_resize.proofs.growth.Grow.{Ends, none, last, ends}
use Rattle.laws_resize.proofs.growth.PthMade.{of_end_last}
use Rattle.laws_resize.proofs.growth.Cut.{row_count, count_cons, count_none, full_count, some_count}

-- a row's leaves are those before its last tree, and that tree's
pub count_last : (h : ℕ) (xs : List (Tree h)) (x : Tree h) → row_count h (xs ++ (x ∷ [])) ≡ row_count h xs + count h x
count_last h xs x = ap length (joined_snoc (leaves h) xs x) ∙ length-append (joined (map (leaves h) xs)) (leaves h x)

module _ (e : Edition) (some : 1 ≤ e.leaf) (two : 2 ≤ e.fan) where
  -- a full row's leaves
  pub front_count : (h : ℕ) (xs : List (Tree h)) → InRow (ShapedTree e h false) false xs → row_count h xs ≡ e.fan ^ h * length xs
  unfolding InRow
  front_count h [] r = omega (arith, count_none h)
  front_count h (x ∷ []) r = omega (arith, count_cons h x [], count_none h, full_count e some two h x r)
  front_count h (x ∷ (y ∷ ys)) r = omega (arith, count_cons h x (y ∷ ys), full_count e some two h x r.0, front_count h (y ∷ ys) r.1)

  -- a tree's leaves and its room make it full
  abbrev Roomy : ℕ → Type 0
  Roomy h = (root edge : Bool) (t : Tree h) → ShapedTree e h root edge t → Room e.fan h t (e.fan ^ h - count h t)

  -- a tree off the edge has no room
  none_left : (h : ℕ) → Roomy h → (x : Tree h) → ShapedTree e h false false x → Room e.fan h x 0
  none_left h each x s =
      let z : e.fan ^ h - count h x ≡ 0 = omega (arith, full_count e some two h x s) in
      rw z at (each false false x s)

  -- nor have such side by side
  front_room : (h : ℕ) → Roomy h → (xs : List (Tree h)) → InRow (ShapedTree e h false) false xs → Every (λ x. Room e.fan h x 0) xs
  unfolding InRow
  front_room h each [] r = tt
  front_room h each (x ∷ []) r = (none_left h each x r, tt)
  front_room h each (x ∷ (y ∷ ys)) r = (none_left h each x r.0, front_room h each (y ∷ ys) r.1)

  -- a row has the room of its last tree, and that of the places left
  row_room : (h : ℕ) → Roomy h → (edge : Bool) (l : List (Tree h)) → Ends l → 1 ≤ length l → length l ≤ e.fan → InRow (ShapedTree e h false) edge l
      → RoomRow (Room e.fan h) e.fan (e.fan ^ h) l (e.fan ^ suc h - row_count h l)
  row_room h each edge l none low high r = absurd (omega arith)
  row_room h each edge l (last xs x) low high r =
      let f = row_apart (ShapedTree e h false) edge xs x r in
      let n = length_snoc xs x in
      let c = some_count e some two h edge x f.1 in
      let z : e.fan ≡ length xs + suc (e.fan - suc (length xs)) = omega arith in
      record {
        front = xs;
        end = x;
        left = e.fan ^ h - count h x;
        split = refl;
        full = front_room h each xs f.0;
        last = each false edge x f.1;
        fits = omega arith;
        room = omega (arith, pow-suc e.fan h, ap (λ (m : ℕ). m * e.fan ^ h) z, count_last h xs x, front_count h xs f.0);
      }

  -- a shaped tree has the room that its leaves leave
  pub shaped_room : (h : ℕ) → Roomy h
  unfolding ShapedTree leaves most_count
  shaped_room zero root edge t s = omega (arith, pow-zero e.fan)
  shaped_room (suc h) root edge t s =
      row_room h (shaped_room h) edge t.1 (ends t.1) (some_child e two h edge root _ s.0) s.1 s.2

  -- children of the right edge's block, by the count of leaves
  pub last_children_lem : (h q a c : ℕ) → a < e.fan → 1 ≤ c → c ≤ e.fan ^ h → last_children e.fan h (e.fan ^ suc h * q + e.fan ^ h * a + c) ≡ suc a
  unfolding last_children
  last_children_lem h q a c small low high =
      let f = e.fan ^ h in
      let m : e.fan ^ suc h * q + f * a + c - 1 ≡ f * (e.fan * q + a) + (c - 1) =
      omega (arith, pow-suc e.fan h, mul_assoc f e.fan q, ap (λ (x : ℕ). x * q) (pow-suc e.fan h)) in
      let d : (f * (e.fan * q + a) + (c - 1)) / f ≡ e.fan * q + a =
      mul-add-div (one-le-pow h e.fan (omega arith)) (e.fan * q + a) (c - 1) ∙ rw (div-eq_of_lt {n = c - 1} {m = f} (omega arith)) (add-zero _) in
      rw (m, d, mul-add-mod_self_left e.fan q a, mod-eq_of_lt {n = a} {m = e.fan} small) (omega arith)

  -- room and space of a tree that begins with a leaf whose number is so many full trees
  abbrev Numbered : ℕ → Type 0
  Numbered h = (root : Bool) (t : Tree h) → ShapedTree e h root true t → (q n : ℕ) → n ≡ e.fan ^ h * q + count h t
      → (room_of e.fan h t ≡ room e.fan h n) × (space_of e.fan h t ≡ space e.fan h n) ×
      ((p : ℕ) → spot e.fan h t p ≡ seat e.fan h n p)

  -- of a row
  numbered_row : (h : ℕ) → Numbered h → (k : ℕ) (l : List (Tree h)) → Ends l → 1 ≤ length l → length l ≤ e.fan → InRow (ShapedTree e h false) true l
      → (q n : ℕ) → n ≡ e.fan ^ suc h * q + row_count h l
      → (room_of e.fan (suc h) (k, l) ≡ room e.fan (suc h) n) × (space_of e.fan (suc h) (k, l) ≡ space e.fan (suc h) n)
      × ((p : ℕ) → spot e.fan (suc h) (k, l) p ≡ seat e.fan (suc h) n p)
  unfolding room_of space_of spot room space seat
  numbered_row h each k l none low high r q n is = absurd (omega arith)
  numbered_row h each k l (last xs x) low high r q n is =
      let f = row_apart (ShapedTree e h false) true xs x r in
      let m = length_snoc xs x in
      let c = some_count e some two h true x f.1 in
      let a = length xs in
      let g = front_count h xs f.0 in
      let ps = ap (λ (y : ℕ). y * q) (pow-suc e.fan h) in
      let here : n ≡ e.fan ^ h * (e.fan * q + a) + count h x = omega (arith, count_last h xs x, mul_assoc (e.fan ^ h) e.fan q) in
      let there : n ≡ e.fan ^ suc h * q + e.fan ^ h * a + count h x = omega (arith, count_last h xs x) in
      let i = each false x f.1 (e.fan * q + a) n here in
      let w : last_children e.fan h n ≡ suc a = ap (last_children e.fan h) there
      ∙ last_children_lem h q a (count h x) (omega arith) c.0 c.1 in (
        rw (of_end_last 0 (room_of e.fan h) xs x, i.0, m, w),
        rw (of_end_last 0 (space_of e.fan h) xs x, i.1, m, w),
        λ p. rw (
          of_end_last 0 (space_of e.fan h) xs x,
          of_end_last 0 (room_of e.fan h) xs x,
          of_end_last (0, 0) (λ x. spot e.fan h x p) xs x,
          i.0,
          i.1,
          i.2 p,
        ),
      )

  -- room, space and places are those of the count of leaves
  pub numbered : (h : ℕ) → Numbered h
  unfolding ShapedTree leaves most_count room_of space_of spot room space seat
  numbered zero root t s q n is = (refl, refl, λ p. refl)
  numbered (suc h) root t s q n is =
      numbered_row h (numbered h) t.0 t.1 (ends t.1) (some_child e two h true root _ s.0) s.1 s.2 q n is
