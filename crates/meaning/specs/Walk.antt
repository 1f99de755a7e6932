-- The walk: a block is visited, then its children in row order, each with all below it. The first fault ends it.
use Rattle.std.specs.Prelude.{Bool, true, false, not, List, [], ◌∷◌, ℕ, zero, suc, ◌+◌, ◌*◌, min, leb, ltb, eqb, get_or, take, drop, replicate, set, Option, Some, None, Ok, Err}
use Rattle.meaning.specs.declared.Reason.{Reason}
use Rattle.meaning.specs.declared.Reason.TheVariants.{Spoiled, Moved, RolledBack, Ahead, WrongShape, Reintroduced}
use Rattle.meaning.specs.Lists.{pick, both, zeros, same_list, range}
use Rattle.meaning.specs.Bytes.{block, height_of, count_of, own_slot, version_of, data_of, children_of, state, recorded}
use Rattle.meaning.specs.Tree.{Tree, Blob}
use Rattle.meaning.specs.Shape.{least_count, most_count}
use Rattle.meaning.specs.Refusals.{at, must, first, unless, Checked}
use Rattle.meaning.specs.declared.Edition.{Edition}
use Rattle.meaning.specs.declared.Refusal.{Refusal}
use Rattle.meaning.specs.declared.Role.{Role}
use Rattle.meaning.specs.declared.Role.TheVariants.{Root, Child}

-- check 2 of a block in slot s whose record has that version: what is wrong, if anything is
unfoldable pub flaw : Edition → (version s : ℕ) → List ℕ → Option Reason
flaw e version s b =
    pick (not (same_list (take 2 b) e.mark)) (Some Spoiled)
    (pick (not (eqb (own_slot b) s)) (Some Moved)
    (pick (ltb (version_of b) version) (Some RolledBack)
    (pick (ltb version (version_of b)) (Some Ahead) None)))

-- bytes of the payload that a count uses
unfoldable pub used : (h count : ℕ) → ℕ
used zero count = count
used (suc h) count = 4 * count

-- check 3 of a block, as one of height h: height, count, zeros after the used payload
unfoldable pub formed : Edition → (h : ℕ) → (root edge : Bool) → List ℕ → Bool
formed e h root edge b =
    both (eqb (height_of b) h)
    (both (leb (least_count e h edge root) (count_of b))
    (both (leb (count_of b) (most_count e h))
    (zeros (drop (16 + used h (count_of b)) (take (16 + e.leaf) b)))))

-- checks 2 and 3, which name the visited slot
unfoldable pub block_check : Edition → (h : ℕ) → (root edge : Bool) → (version s : ℕ) → List ℕ → Checked
block_check e h root edge version s b =
    unless (flaw e version s b) s (must (formed e h root edge b) (at WrongShape s) (Ok tt))

-- a block is visited as a root, or as a child of its parent
unfoldable pub is_root : Role → Bool
is_root Root = true
is_root (Child p) = false

-- check 1, for a child slot; flags say which slots are already visited
unfoldable pub link_check : (N : ℕ) → (R seen : List ℕ) → Role → ℕ → Checked
link_check N R seen Root s = Ok tt
link_check N R seen (Child p) s =
    must (both (ltb s N) (both (not (eqb (state R s) 2)) (eqb (get_or seen s 0) 0))) (at WrongShape p)
    (must (eqb (state R s) 1) (at Reintroduced s) (Ok tt))

-- what a walk finds: the first fault, or a value and the slots visited, a flag for each slot
pub data Found (A : Type 0) : Type 0 where
  fault : Refusal → Found A
  fine : A → List ℕ → Found A

unfoldable pub and_then : {A B : Type 0} → Found A → (A → List ℕ → Found B) → Found B
and_then (fault r) k = fault r
and_then (fine a seen) k = k a seen

unfoldable pub passing : {A : Type 0} → Checked → Found A → Found A
passing (Ok v) f = f
passing (Err r) f = fault r

unfoldable pub is_empty : List ℕ → Bool
is_empty [] = true
is_empty (x ∷ xs) = false

module _ (e : Edition) (N : ℕ) (P R : List ℕ) where
  -- one visit of slot s, as a block of height h: checks 1, 2 and 3, and from there on it counts as visited
  unfoldable pub one_visit : (h : ℕ) → Role → (edge : Bool) → (seen : List ℕ) → ℕ → Found (List ℕ)
  one_visit h role edge seen s =
      passing (link_check N R seen role s)
      (passing (block_check e h (is_root role) edge (recorded R s) s (block e P s))
      (fine (block e P s) (set seen s 1)))

  -- to visit a row is to visit blocks one height lower, in row order
  unfoldable pub visit_row : {A : Type 0} → (Role → Bool → List ℕ → ℕ → Found A) → (parent : ℕ) → (edge : Bool) → List ℕ → List ℕ → Found (List A)
  visit_row visit p edge [] seen = fine [] seen
  visit_row visit p edge (c ∷ cs) seen =
      and_then (visit (Child p) (both edge (is_empty cs)) seen c)
      (λ t seen'. and_then (visit_row visit p edge cs seen') (λ ts seen''. fine (t ∷ ts) seen''))

  -- to visit a block is to visit its row
  unfoldable pub visit : (h : ℕ) → Role → (edge : Bool) → (seen : List ℕ) → ℕ → Found (Tree h)
  visit zero role edge seen s =
      and_then (one_visit zero role edge seen s) (λ b seen'. fine (s, data_of b) seen')
  visit (suc h) role edge seen s =
      and_then (one_visit (suc h) role edge seen s)
      (λ b seen'. and_then (visit_row (visit h) s edge (children_of b) seen') (λ ts seen''. fine (s, ts) seen''))

  -- the walk from one root, which is on the right edge; a height above the top fails check 3
  unfoldable pub from_root : List ℕ → ℕ → Found Blob
  from_root seen r =
      let h = min (height_of (block e P r)) e.top in
      and_then (visit h Root true seen r) (λ t seen'. fine (record { height = h; tree = t }) seen')

  -- the blob check is the walk from one root
  unfoldable pub blob_check : ℕ → Found Blob
  blob_check r = from_root (replicate N 0) r

  -- the walks from each root record, in rising slot order, with one shared set of visited slots
  unfoldable pub roots : List ℕ → List ℕ → Found (List Blob)
  roots [] seen = fine [] seen
  roots (s ∷ ss) seen =
      pick (eqb (state R s) 2)
      (and_then (from_root seen s) (λ b seen'. and_then (roots ss seen') (λ bs seen''. fine (b ∷ bs) seen'')))
      (roots ss seen)

  -- one slot of the closing pass: a free slot with a non-zero byte is 9, a part not visited is 8
  unfoldable pub closing_check : (seen : List ℕ) → ℕ → Checked
  closing_check seen s =
      must (pick (eqb (state R s) 0) (zeros (block e P s)) true) (at Reintroduced s)
      (must (pick (eqb (state R s) 1) (eqb (get_or seen s 0) 1) true) (at WrongShape s) (Ok tt))

  -- through these slots
  unfoldable pub closing : List ℕ → (seen : List ℕ) → Checked
  closing [] seen = Ok tt
  closing (s ∷ ss) seen = first (closing_check seen s) (closing ss seen)

  -- the pool check: the walks from all roots, then the closing pass through all slots, rising
  unfoldable pub pool_check : Found (List Blob)
  pool_check =
      and_then (roots (range 0 N) (replicate N 0))
      (λ bs seen. passing (closing (range 0 N) seen) (fine bs seen))
