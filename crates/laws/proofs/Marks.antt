-- How many slots a walk visits. Each child that it goes to had no flag, and gets one: so the flags that are set grow by one for each block
-- of the tree. The flags are as many as the pool has slots, so a blob has no more blocks than that, and no more leaves.
use Rattle.std.specs.Prelude.{Ok}
use mathlib.Core.Path.{◌≡◌, refl, ap, ◌∙◌}
use mathlib.Core.Bool.{Bool, true}
use mathlib.Core.List.{List, [], ◌∷◌, map}
use Prim.Native.Nat.{ℕ, zero, suc, ◌+◌, ◌*◌, ◌≤◌, ◌<◌, min}
use native.Mathlib.Omega.{arith}
use lib.ListN.{length, get_or, set, length-append, length-set}
use Rattle.meaning.specs.declared.Edition.{Edition}
use Rattle.meaning.specs.declared.Role.{Role}
use Rattle.meaning.specs.declared.Role.TheVariants.{Root, Child}
use Rattle.meaning.specs.Lists.{both, joined}
use Rattle.meaning.specs.Edition.{Proper}
use Rattle.meaning.specs.Bytes.{block, height_of, children_of}
use Rattle.meaning.specs.Tree.{Tree, Blob, cells, leaves_of, cells_of}
use Rattle.meaning.specs.Walk.{link_check, fine, is_empty, visit_row, visit, from_root}
use Rattle.laws.proofs.Totals.{total_ge}
use Rattle.laws.proofs.Shapes.{shaped_blocks}
use Rattle.laws.proofs.Inversions.{passed_linked}
use Rattle.laws.proofs.Walked.{leaf_found, inner_found, none_found, row_found, root_found, walk_shaped}

-- how many flags are set
unfoldable pub marks : List ℕ → ℕ
marks [] = 0
marks (zero ∷ l) = marks l
marks (suc x ∷ l) = suc (marks l)

-- a flag that was not set, set: one more
pub marks_set : (l : List ℕ) (i : ℕ) → i < length l → get_or l i 0 ≡ 0 → marks (set l i 1) ≡ suc (marks l)
unfolding marks
marks_set [] i h z = absurd (omega arith)
marks_set (zero ∷ l) zero h z = refl
marks_set (suc x ∷ l) zero h z = absurd (omega arith)
marks_set (zero ∷ l) (suc i) h z = marks_set l i (omega arith) z
marks_set (suc x ∷ l) (suc i) h z = ap suc (marks_set l i (omega arith) z)

-- to set a flag takes none away
pub marks_kept : (l : List ℕ) (i : ℕ) → marks l ≤ marks (set l i 1)
unfolding marks
marks_kept [] i = omega arith
marks_kept (zero ∷ l) zero = omega arith
marks_kept (suc x ∷ l) zero = omega arith
marks_kept (zero ∷ l) (suc i) = marks_kept l i
marks_kept (suc x ∷ l) (suc i) = omega (arith, marks_kept l i)

-- a flag that is set counts
pub marks_some : (l : List ℕ) (i : ℕ) → i < length l → 1 ≤ marks (set l i 1)
unfolding marks
marks_some [] i h = absurd (omega arith)
marks_some (x ∷ l) zero h = omega arith
marks_some (zero ∷ l) (suc i) h = marks_some l i (omega arith)
marks_some (suc x ∷ l) (suc i) h = omega arith

-- no more are set than there are
pub marks_all : (l : List ℕ) → marks l ≤ length l
unfolding marks
marks_all [] = omega arith
marks_all (zero ∷ l) = omega (arith, marks_all l)
marks_all (suc x ∷ l) = omega (arith, marks_all l)

module _ (e : Edition) (N : ℕ) (P R : List ℕ) where
  -- a visit that went well passed check 1
  pub visit_link : (h : ℕ) (role : Role) (edge : Bool) (seen : List ℕ) (s : ℕ) {t : Tree h} {seen' : List ℕ}
      → visit e N P R h role edge seen s ≡ fine t seen' → link_check N R seen role s ≡ Ok tt
  visit_link zero role edge seen s v = (leaf_found e N P R role edge seen s v).link
  visit_link (suc h) role edge seen s v = (inner_found e N P R h role edge seen s v).link

  -- a child that passes check 1 had no flag, so that its own is one more
  fresh : (q : ℕ) (seen : List ℕ) (s m c : ℕ) → link_check N R seen (Child q) s ≡ Ok tt → length seen ≡ N
      → suc m ≡ marks (set seen s 1) + c → m ≡ marks seen + c
  fresh q seen s m c link all sum =
      let l = passed_linked N R seen q s link in
      omega (arith, marks_set seen s (omega (arith, l.within)) l.unseen)

  -- a row's flags, from each child's
  rows_marks : (h : ℕ)
      → ((q : ℕ) (edge : Bool) (seen : List ℕ) (s : ℕ) (t : Tree h) (seen' : List ℕ) → visit e N P R h (Child q) edge seen s ≡ fine t seen'
      → length seen ≡ N → (length seen' ≡ N) × (suc (marks seen') ≡ marks (set seen s 1) + length (cells h t)))
      → (q : ℕ) (edge : Bool) (cs seen : List ℕ) {ts : List (Tree h)} {seen' : List ℕ}
      → visit_row e N P R (visit e N P R h) q edge cs seen ≡ fine ts seen' → length seen ≡ N
      → (length seen' ≡ N) × (marks seen' ≡ marks seen + length (joined (map (cells h) ts)))
  unfolding joined
  rows_marks h each q edge [] seen v all =
      let n = none_found e N P R h q edge seen v in
      rw (← n.0, ← n.1) (all, omega arith)
  rows_marks h each q edge (c ∷ cs) seen v all =
      let f = row_found e N P R h q edge c cs seen v in
      let one = each q (both edge (is_empty cs)) seen c f.first f.mid f.walked all in
      let mine = fresh q seen c _ _ (visit_link h (Child q) (both edge (is_empty cs)) seen c f.walked) all one.1 in
      let more = rows_marks h each q edge cs f.mid f.others one.0 in
      rw (← f.trees) (more.0, omega (arith, more.1, length-append (cells h f.first) (joined (map (cells h) f.rest))))

  -- a visit sets its own flag and one for each block below it; there are as many flags as before
  pub visit_marks : (h : ℕ) (role : Role) (edge : Bool) (seen : List ℕ) (s : ℕ) {t : Tree h} {seen' : List ℕ}
      → visit e N P R h role edge seen s ≡ fine t seen' → length seen ≡ N
      → (length seen' ≡ N) × (suc (marks seen') ≡ marks (set seen s 1) + length (cells h t))
  unfolding cells
  visit_marks zero role edge seen s v all =
      let f = leaf_found e N P R role edge seen s v in
      rw (← f.flags) (length-set seen s 1 ∙ all, omega arith)
  visit_marks (suc h) role edge seen s v all =
      let f = inner_found e N P R h role edge seen s v in
      let r = rows_marks h (λ q edge seen c t seen' o. visit_marks h (Child q) edge seen c o) s edge
      (children_of (block e P s)) (set seen s 1) f.walked (length-set seen s 1 ∙ all) in
      rw (← f.tree) (r.0, omega (arith, r.1))

  -- a walk sets its root's flag and one for each other block of the blob
  pub walk_marks : (seen : List ℕ) (r : ℕ) {b : Blob} {seen' : List ℕ} → from_root e N P R seen r ≡ fine b seen' → length seen ≡ N
      → (length seen' ≡ N) × (suc (marks seen') ≡ marks (set seen r 1) + length (cells_of b))
  unfolding cells_of
  walk_marks seen r v all =
      let (t, o, q) = root_found e N P R seen r v in
      rw (← q) (visit_marks (min (height_of (block e P r)) e.top) Root true seen r o all)

  -- a blob has no more blocks than the pool has slots
  pub walk_few_blocks : (seen : List ℕ) (r : ℕ) {b : Blob} {seen' : List ℕ} → from_root e N P R seen r ≡ fine b seen' → length seen ≡ N
      → r < N → length (cells_of b) ≤ N
  walk_few_blocks seen r {b} {seen'} v all within =
      let m = walk_marks seen r v all in
      omega (arith, m.0, m.1, marks_some seen r (omega arith), marks_all seen')

-- and has no more leaves
pub walk_few : (e : Edition) → Proper e → (N : ℕ) (P R : List ℕ) → length P ≡ e.size * N → (seen : List ℕ) (r : ℕ) {b : Blob} {seen' : List ℕ}
    → from_root e N P R seen r ≡ fine b seen' → length seen ≡ N → r < N → length (leaves_of b) ≤ N
walk_few e p N P R whole seen r {b} v all within =
    let s = walk_shaped e p N P R whole seen r v within in
    omega (
      arith,
      walk_few_blocks e N P R seen r v all within,
      shaped_blocks e p.some p.two b s,
      total_ge e.fan (length (leaves_of b)) p.two,
    )
