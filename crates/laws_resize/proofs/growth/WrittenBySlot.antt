-- Write, slot by slot: each leaf holds its stretch of the new content, and every other block what it held.
use mathlib.Core.Path.{◌≡◌, refl, sym, ap, ap₂, ◌∙◌}
use mathlib.Core.Bool.{Bool, true, false}
use mathlib.Core.List.{List, [], ◌∷◌, ◌++◌, map}
use Prim.Native.Nat.{ℕ, zero, suc, ◌+◌, ◌*◌, ◌≤◌}
use native.Mathlib.Nat.{mul-add, mul-zero}
use native.Mathlib.Omega.{arith}
use lib.ListN.{length, drop, length-append}
use lib.Seq.{drop-drop}
use Rattle.meaning.specs.declared.Edition.{Edition}
use Rattle.meaning.specs.Lists.{part, joined}
use Rattle.meaning.specs.Edition.{Proper}
use Rattle.meaning.specs.Bytes.{Cell}
use Rattle.meaning.specs.Tree.{Tree, Blob, content, leaves, cells, cells_of, slots_of, held}
use Rattle.meaning.specs.Shape.{InRow, ShapedTree, Shaped}
use Rattle.meaning.specs.Resize.{along, refill, refilled}
use Rattle.laws.proofs.Shapes.{OfTree, tree_counted}
use Rattle.laws_resize.proofs.resizing.Refilled.{along_slots}
use Rattle.laws_resize.specs.growth.Sites.{counting, sites, sites_of, sited, entry, ruled, held_by, Once}
use Rattle.laws_resize.specs.growth.Cuts.{rewritten, written}
use Rattle.laws_resize.proofs.growth.Sites.{ruled_append, held_ruled, site_slots}

-- a row of trees that each leave what is past their content leaves what is past all of it
row_left : (h : ℕ) → ((d : List ℕ) (t : Tree h) → (refill h d t).left ≡ drop (length (content h t)) d) → (d : List ℕ) (ts : List (Tree h))
    → (along (refill h) d ts).left ≡ drop (length (joined (map (content h) ts))) d
unfolding along joined
row_left h each d [] = refl
row_left h each d (t ∷ ts) =
    row_left h each (refill h d t).left ts
    ∙ rw (each d t, drop-drop, length-append)

-- a tree takes as many bytes as it holds
pub refill_left : (h : ℕ) (d : List ℕ) (t : Tree h) → (refill h d t).left ≡ drop (length (content h t)) d
unfolding refill content
refill_left zero d t = refl
refill_left (suc h) d t = row_left h (refill_left h) d t.1

module _ (e : Edition) (some : 1 ≤ e.leaf) (two : 2 ≤ e.fan) (d : List ℕ) where
  -- trees side by side, the first of which begins with leaf i
  row_written : (h : ℕ) → ((i : ℕ) (root edge : Bool) (t : Tree h) → ShapedTree e h root edge t
      → cells h (refill h (drop (e.leaf * i) d) t).made ≡ ruled (written e d) (sites h i t))
      → (i : ℕ) (edge : Bool) (ts : List (Tree h)) → InRow (ShapedTree e h false) edge ts
      → joined (map (cells h) (along (refill h) (drop (e.leaf * i) d) ts).made)
      ≡ ruled (written e d) (counting (λ x. length (leaves h x)) (sites h) i ts)
  unfolding InRow along joined counting ruled OfTree
  row_written h each i edge [] r = refl
  row_written h each i edge (t ∷ []) r = ap₂ ◌++◌ (each i false edge t r) refl ∙ sym (ruled_append (written e d) (sites h i t) [])
  row_written h each i edge (t ∷ (u ∷ us)) r =
      let full = (tree_counted e some two h false t r.0).full refl in
      let n : e.leaf * i + length (content h t) ≡ e.leaf * (i + length (leaves h t)) =
      omega (arith, full.1, mul-add e.leaf i (length (leaves h t))) in
      let past : (refill h (drop (e.leaf * i) d) t).left ≡ drop (e.leaf * (i + length (leaves h t))) d =
      refill_left h (drop (e.leaf * i) d) t ∙ drop-drop (length (content h t)) (e.leaf * i) d
      ∙ ap (λ (n : ℕ). drop n d) n in
      ap₂ ◌++◌ (each i false false t r.0)
      (ap (λ (x : List ℕ). joined (map (cells h) (along (refill h) x (u ∷ us)).made)) past
      ∙ row_written h each (i + length (leaves h t)) edge (u ∷ us) r.1)
      ∙ sym (ruled_append (written e d) (sites h i t) _)

  -- a tree that begins with leaf i
  tree_written : (h i : ℕ) (root edge : Bool) (t : Tree h) → ShapedTree e h root edge t
      → cells h (refill h (drop (e.leaf * i) d) t).made ≡ ruled (written e d) (sites h i t)
  unfolding ShapedTree cells refill sites ruled written rewritten entry part
  tree_written zero i root edge t s = refl
  tree_written (suc h) i root edge t s =
      ap₂ (λ (row : List ℕ) (rest : List (ℕ × Cell)). (t.0, record { height = suc h; items = row }) ∷ rest)
      (along_slots h (drop (e.leaf * i) d) t.1) (row_written h (tree_written h) i edge t.1 s.2)

-- write: the leaf with number i holds its stretch, from leaf * i on, and every other block what it held
pub written_held_lem : (e : Edition) → Proper e → (b : Blob) → Shaped e b → Once (slots_of b) → (d : List ℕ) (s : ℕ)
    → held (cells_of (refilled d b)) s ≡ held_by (written e d) (sited (sites_of b) s)
unfolding Shaped cells_of refilled sites_of
written_held_lem e p b shaped once d s =
    let all = tree_written e p.some p.two d b.height 0 true true b.tree shaped in
    ap (λ (cs : List (ℕ × Cell)). held cs s) (rw mul-zero at all)
    ∙ held_ruled (written e d) (sites b.height 0 b.tree) s (rw (site_slots b) once)
