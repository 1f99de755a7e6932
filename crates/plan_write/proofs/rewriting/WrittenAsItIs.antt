-- A blob written with its own content stays as it is. So each leaf holds the part of the content at its place.
use mathlib.Core.Path.{◌≡◌, refl, ap, ◌∙◌, sym}
use mathlib.Core.List.{List, [], ◌∷◌, ◌++◌, map, append_assoc, append-nil}
use Prim.Native.Nat.{ℕ, zero, suc, ◌-◌, ◌*◌, ◌≤◌, min}
use native.Mathlib.Omega.{arith}
use lib.ListN.{length, length-take, length-drop}
use lib.Seq.{take-append_seam, drop-append_seam}
use Rattle.meaning.specs.declared.Edition.{Edition}
use Rattle.meaning.specs.Lists.{part, joined}
use Rattle.meaning.specs.Edition.{Proper}
use Rattle.meaning.specs.Bytes.{Cell}
use Rattle.meaning.specs.Tree.{Tree, Blob, content, content_of, cells_of, just, held}
use Rattle.meaning.specs.Resize.{Spread, along, refill, refilled}
use Rattle.laws_resize.specs.growth.Sites.{Site, sites_of, at, sited, held_by}
use Rattle.laws_resize.specs.growth.Cuts.{written, rewritten}
use Rattle.laws_resize.specs.growth.HeldAfter.{written_held}
use Rattle.laws_resize.proofs.growth.ResizedBySlot.{Standing, write_slot}
use Rattle.laws_resize.proofs.growth.Changes.{held_at}

-- a row of trees that each take their own bytes and leave the rest
row_own : (h : ℕ) → ((t : Tree h) (rest : List ℕ) → refill h (content h t ++ rest) t ≡ record { made = t; left = rest }) → (ts : List (Tree h)) (rest : List ℕ)
    → along (refill h) (joined (map (content h) ts) ++ rest) ts ≡ record { made = ts; left = rest }
unfolding along joined
row_own h each [] rest = refl
row_own h each (t ∷ ts) rest =
    rw (append_assoc (content h t) (joined (map (content h) ts)) rest, each t (joined (map (content h) ts) ++ rest), row_own h each ts rest)

-- a tree filled with its own bytes
refill_own : (h : ℕ) (t : Tree h) (rest : List ℕ) → refill h (content h t ++ rest) t ≡ record { made = t; left = rest }
unfolding refill content
refill_own zero t rest = rw (take-append_seam t.1 rest, drop-append_seam t.1 rest)
refill_own (suc h) t rest = rw (row_own h (refill_own h) t.1 rest)

-- and a blob
pub refilled_own : (b : Blob) → refilled (content_of b) b ≡ b
unfolding refilled content_of
refilled_own b =
    let q : refill b.height (content b.height b.tree) b.tree ≡ record { made = b.tree; left = [] } =
    ap (λ (d : List ℕ). refill b.height d b.tree) (sym (append-nil (content b.height b.tree))) ∙ refill_own b.height b.tree [] in
    ap (λ (t : Tree b.height). record { height = b.height; tree = t }) (ap (λ (s : Spread (Tree b.height)). s.made) q)

-- what a leaf's site holds is its part of the content, which reaches so far
module _ (e : Edition) (p : Proper e) (N : ℕ) (P R : List ℕ) (b : Blob) (standing : Standing e R b) (s : ℕ) (x : Site) (here : sited (sites_of b) s ≡ at x)
    (leaf : x.height ≡ 0) where
  pub leaf_part : x.items ≡ part (e.leaf * x.first) (length x.items) (content_of b)
  unfolding written_held held_by written rewritten
  leaf_part =
      let old : held (cells_of b) s ≡ just (record { height = x.height; items = x.items }) = held_at e p R b standing s x here in
      let new : held (cells_of (refilled (content_of b) b)) s
      ≡ just (record { height = x.height; items = rewritten e (content_of b) x.height x.first x.items }) =
      write_slot e p N P R b standing (content_of b) s ∙ rw here in
      let same : just (record { height = x.height; items = x.items })
      ≡ just (record { height = x.height; items = rewritten e (content_of b) x.height x.first x.items }) =
      sym old ∙ sym (ap (λ (c : Blob). held (cells_of c) s) (refilled_own b)) ∙ new in
      let rows : x.items ≡ rewritten e (content_of b) x.height x.first x.items = cell_rows same in
      rows ∙ ap (λ (h : ℕ). rewritten e (content_of b) h x.first x.items) leaf
    where
      cell_rows : {c d : Cell} → just c ≡ just d → c.items ≡ d.items
      cell_rows {c} {d} q = let r : c ≡ d = cc in ap (λ (y : Cell). y.items) r

  pub leaf_reach : length x.items ≤ length (content_of b) - e.leaf * x.first
  unfolding part
  leaf_reach =
      let q : length x.items ≡ min (length x.items) (length (content_of b) - e.leaf * x.first) = simp (length-take, length-drop) at (ap length leaf_part) in
      omega arith
