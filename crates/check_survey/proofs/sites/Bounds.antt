-- What lets the code go on: each block that it comes to fits the pool, and the leaves so far are few enough to be numbered.
use mathlib.Core.Path.{◌≡◌, ap, ◌∙◌}
use mathlib.Core.List.{List, ◌∷◌}
use Prim.Native.Nat.{ℕ, zero, suc, ◌+◌, ◌-◌, ◌*◌, ◌^◌, ◌≤◌, ◌<◌}
use native.Mathlib.Omega.{arith}
use lib.ListN.{length, drop, set, length-set}
use Rattle.meaning.specs.declared.Edition.{Edition}
use Rattle.meaning.specs.Lists.{part, number, fours}
use Rattle.meaning.specs.Bytes.{block, height_of, count_of, children_of}
use Rattle.meaning.specs.Shape.{most_count}
use Rattle.meaning.specs.Tree.{leaves_of}
use Rattle.check_blob.proofs.visit.VisitAsDefined.{slot_fits}
use Rattle.laws.proofs.Every.{Every}
use Rattle.check_survey.specs.sites.Spelt.{Fit, blob_at, Inside, tree_leaves, row_leaves}
use Rattle.check_survey.specs.sites.Marks.{Ready, BlockStart, RowStart, SitesStart}
use Rattle.check_blob.proofs.notes.WalkAsDefined.{fours_next}
use Rattle.check_survey.proofs.sites.NotedAsTheyStand.{inner_leaves, row_leaves_lem}

-- a tree's own block fits
pub inside_fit : (e : Edition) (P : List ℕ) (n h s : ℕ) → Inside e P n h s → Fit e n P h s
unfolding Inside
inside_fit e P n zero s i = i
inside_fit e P n (suc h) s i = i.0

-- and so does each below it
below_fit : (e : Edition) (P : List ℕ) (n h s : ℕ) → Inside e P n (suc h) s → Every (Inside e P n h) (children_of (block e P s))
unfolding Inside
below_fit e P n h s i = i.1

-- rows of the same length
again : (e : Edition) (n : ℕ) (P hs fs hs₁ fs₁ : List ℕ) → Ready e n P hs fs → length hs₁ ≡ length hs → length fs₁ ≡ length fs
    → Ready e n P hs₁ fs₁
again e n P hs fs hs₁ fs₁ r a b = record { pool = r.pool; heights = a ∙ r.heights; firsts = b ∙ r.firsts }

-- a block
module _ (e : Edition) (n : ℕ) (P hs fs : List ℕ) (h s k : ℕ) (start : BlockStart e n P hs fs h s k) where
  within : s < n
  within = (inside_fit e P n h s start.inside).within

  pub in_heights : s < length hs
  in_heights = omega (arith, within, start.ready.heights)

  pub in_firsts : s < length fs
  in_firsts = omega (arith, within, start.ready.firsts)

  pub few_enough : k < 2 ^ 32
  few_enough = omega (arith, start.few)

  pub block_in_pool : e.size * s + e.size ≤ length P
  block_in_pool = slot_fits e.size n s P start.ready.pool within

  pub row_start : (h ≡ 0 → ⊥) → (hs₁ fs₁ : List ℕ) → hs₁ ≡ set hs s (h + 1) → fs₁ ≡ set fs s k
      → (blk : List ℕ) → blk ≡ block e P s → (m : ℕ) → m ≡ count_of blk → RowStart e n P hs₁ fs₁ (h - 1) s 0 m k
  unfolding children_of most_count
  row_start z hs₁ fs₁ eh ef blk eb m em =
      let q : h ≡ suc (h - 1) = omega arith in
      let i : Inside e P n (suc (h - 1)) s = rw (← q) start.inside in
      let f = inside_fit e P n (suc (h - 1)) s i in
      let c : fours m (drop 16 (block e P s)) ≡ children_of (block e P s) = rw (em, eb) in
      let l : k + tree_leaves e P (suc (h - 1)) s < 2 ^ 32 = rw (← q) start.few in
      record {
        ready = again e n P hs fs hs₁ fs₁ start.ready (ap length eh ∙ length-set hs s (h + 1)) (ap length ef ∙ length-set fs s k);
        parent = f.within;
        room = omega (arith, f.most, em, ap count_of eb);
        inside = rw c (below_fit e P n (h - 1) s i);
        low = omega (arith, start.low);
        few = rw c (omega (arith, l, inner_leaves e P (h - 1) s));
      }

-- a row
module _ (e : Edition) (n : ℕ) (P hs fs : List ℕ) (w p from m k : ℕ) (start : RowStart e n P hs fs w p from (m - from) k) where
  module _ (some : from < m) (c : ℕ) (ec : c ≡ number (part (16 + 4 * from) 4 (block e P p))) where
    abbrev rest : List ℕ
    rest = fours (m - (from + 1)) (drop (16 + 4 * (from + 1)) (block e P p))

    first_is : fours (m - from) (drop (16 + 4 * from) (block e P p)) ≡ c ∷ rest
    first_is = rw (fours_next m from (block e P p) some, ← ec)

    below : Every (Inside e P n w) (c ∷ rest)
    below = rw first_is at start.inside

    sum : k + (tree_leaves e P w c + row_leaves e P w rest) < 2 ^ 32
    sum = rw (first_is, row_leaves_lem e P w c rest) at start.few

    pub child_start : BlockStart e n P hs fs w c k
    child_start = record { ready = start.ready; inside = below.0; low = start.low; few = omega (arith, sum) }

    pub row_next : (hs₁ fs₁ : List ℕ) → length hs₁ ≡ length hs → length fs₁ ≡ length fs → (k₁ : ℕ) → k₁ ≡ k + tree_leaves e P w c
        → RowStart e n P hs₁ fs₁ w p (from + 1) (m - (from + 1)) k₁
    row_next hs₁ fs₁ lh lf k₁ ek = record {
      ready = again e n P hs fs hs₁ fs₁ start.ready lh lf;
      parent = start.parent;
      room = omega (arith, start.room);
      inside = below.1;
      low = start.low;
      few = omega (arith, sum);
    }

-- a blob
module _ (e : Edition) (n : ℕ) (P hs fs : List ℕ) (r : ℕ) (start : SitesStart e n P hs fs r) where
  pub root_in_pool : e.size * r + e.size ≤ length P
  root_in_pool = slot_fits e.size n r P start.ready.pool (inside_fit e P n _ r start.inside).within

  pub root_start : (blk : List ℕ) → blk ≡ block e P r → (h : ℕ) → h ≡ height_of blk → BlockStart e n P hs fs h r 0
  unfolding leaves_of blob_at tree_leaves
  root_start blk eb h eh = rw (eh, eb) (record {
    ready = start.ready;
    inside = start.inside;
    low = start.low;
    few = omega (arith, start.few);
  })
