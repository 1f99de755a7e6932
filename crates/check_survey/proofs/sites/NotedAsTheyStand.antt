-- What the code notes against where the blocks stand: an equation for each way out of the block's visit, and for each turn of the row's.
use mathlib.Core.Path.{◌≡◌, refl, ap, ◌∙◌, sym}
use mathlib.Core.List.{List, [], ◌∷◌, ◌++◌, map}
use Prim.Native.Nat.{ℕ, suc, ◌+◌, ◌-◌, ◌*◌, ◌≤◌, ◌<◌}
use native.Mathlib.Omega.{arith}
use lib.ListN.{drop, set, length-append}
use Rattle.meaning.specs.declared.Edition.{Edition}
use Rattle.meaning.specs.Lists.{part, number, joined, fours}
use Rattle.meaning.specs.Bytes.{block, height_of, count_of, children_of}
use Rattle.meaning.specs.Tree.{slot_of, leaves}
use Rattle.check_blob.proofs.notes.WalkAsDefined.{fours_next}
use Rattle.laws_resize.specs.growth.Sites.{Site, counting, sites, sites_of}
use Rattle.check_survey.specs.sites.Spelt.{tree_at, blob_at, tree_sites, row_sites, tree_leaves, row_leaves}
use Rattle.check_survey.specs.sites.Marks.{puts, tall, begin, Marked}

-- sites side by side are noted one list after the other
pub puts_append : (f : Site → ℕ) (xs ys : List (ℕ × Site)) (l : List ℕ) → puts f (xs ++ ys) l ≡ puts f ys (puts f xs l)
unfolding puts
puts_append f [] ys l = refl
puts_append f (x ∷ xs) ys l = puts_append f xs ys (set l x.0 (f x.1))

-- sites are being noted: with those that are left put in, the rows are what they become with all put into the rows at the start
pub record Going (all rest : List (ℕ × Site)) (hs₀ fs₀ hs fs : List ℕ) : Type 0 where
  pub heights : puts tall all hs₀ ≡ puts tall rest hs
  pub firsts : puts begin all fs₀ ≡ puts begin rest fs

module _ (e : Edition) (P : List ℕ) where
  -- a tree of no height is one leaf, and one of some height its top and then its row
  leaf_sites : (k s : ℕ) → tree_sites e P 0 k s ≡ (s, record { height = 0; first = k; items = (tree_at e P 0 s).1 }) ∷ []
  unfolding tree_sites sites tree_at
  leaf_sites k s = refl

  leaf_leaves : (s : ℕ) → tree_leaves e P 0 s ≡ 1
  unfolding tree_leaves leaves
  leaf_leaves s = refl

  inner_sites : (h k s : ℕ) → tree_sites e P (suc h) k s
      ≡ (s, record { height = suc h; first = k; items = map (slot_of h) (tree_at e P (suc h) s).1 }) ∷ row_sites e P h k (children_of (block e P s))
  unfolding tree_sites row_sites sites tree_at
  inner_sites h k s = refl

  pub inner_leaves : (h s : ℕ) → tree_leaves e P (suc h) s ≡ row_leaves e P h (children_of (block e P s))
  unfolding tree_leaves row_leaves leaves tree_at
  inner_leaves h s = refl

  -- a row is its first tree and then the others
  row_sites_lem : (w k c : ℕ) (cs : List ℕ) → row_sites e P w k (c ∷ cs) ≡ tree_sites e P w k c ++ row_sites e P w (k + tree_leaves e P w c) cs
  unfolding row_sites tree_sites tree_leaves counting
  row_sites_lem w k c cs = refl

  pub row_leaves_lem : (w c : ℕ) (cs : List ℕ) → row_leaves e P w (c ∷ cs) ≡ tree_leaves e P w c + row_leaves e P w cs
  unfolding row_leaves tree_leaves joined
  row_leaves_lem w c cs = length-append (leaves w (tree_at e P w c)) (joined (map (leaves w) (map (tree_at e P w) cs)))

  none_sites : (w k : ℕ) → row_sites e P w k [] ≡ []
  unfolding row_sites counting
  none_sites w k = refl

  none_leaves : (w : ℕ) → row_leaves e P w [] ≡ 0
  unfolding row_leaves joined
  none_leaves w = refl

  -- the block of a slot, noted
  module _ (h k s : ℕ) (hs fs hs₁ fs₁ : List ℕ) (eh : hs₁ ≡ set hs s (h + 1)) (ef : fs₁ ≡ set fs s k) where
    pub leaf_noted : h ≡ 0 → Marked (tree_sites e P h k s) hs fs hs₁ fs₁
    unfolding puts
    leaf_noted z = rw (z, leaf_sites k s) (record { heights = eh ∙ rw z; firsts = ef })

    pub leaf_counted : h ≡ 0 → k + 1 ≡ k + tree_leaves e P h s
    leaf_counted z = rw (z, leaf_leaves s)

    module _ (n : h ≡ 0 → ⊥) (blk : List ℕ) (eb : blk ≡ block e P s) (m : ℕ) (em : m ≡ count_of blk) where
      children : fours m (drop 16 (block e P s)) ≡ children_of (block e P s)
      unfolding children_of
      children = rw (em, eb)

      by_height : (g : ℕ) → h ≡ suc g → (hs₂ fs₂ : List ℕ) → Marked (row_sites e P g k (children_of (block e P s))) hs₁ fs₁ hs₂ fs₂
          → Marked (tree_sites e P h k s) hs fs hs₂ fs₂
      unfolding puts
      by_height g q hs₂ fs₂ d =
          rw (q, inner_sites g k s) (record {
            heights = d.heights ∙ ap (puts tall (row_sites e P g k (children_of (block e P s)))) (eh ∙ rw q);
            firsts = d.firsts ∙ ap (puts begin (row_sites e P g k (children_of (block e P s)))) ef;
          })

      pub inner_noted : (hs₂ fs₂ : List ℕ) → Marked (row_sites e P (h - 1) k (fours m (drop 16 (block e P s)))) hs₁ fs₁ hs₂ fs₂
          → Marked (tree_sites e P h k s) hs fs hs₂ fs₂
      inner_noted hs₂ fs₂ d = by_height (h - 1) (omega arith) hs₂ fs₂ (rw children at d)

      pub inner_counted : (x : ℕ) → x ≡ k + row_leaves e P (h - 1) (fours m (drop 16 (block e P s))) → x ≡ k + tree_leaves e P h s
      inner_counted x ex =
          let q : h ≡ suc (h - 1) = omega arith in
          ex ∙ ap (λ (z : ℕ). k + z) (rw children (sym (inner_leaves (h - 1) s)) ∙ ap (λ (z : ℕ). tree_leaves e P z s) (sym q))

  -- no child is left
  none_left : (m j : ℕ) (l : List ℕ) → m ≤ j → fours (m - j) l ≡ []
  unfolding fours
  none_left m j l h = let z : m - j ≡ 0 = omega arith in rw z

  pub row_end : (w k m j : ℕ) (l : List ℕ) (all : List (ℕ × Site)) (hs₀ fs₀ hs fs : List ℕ)
      → Going all (row_sites e P w k (fours (m - j) l)) hs₀ fs₀ hs fs → m ≤ j → Marked all hs₀ fs₀ hs fs
  unfolding puts
  row_end w k m j l all hs₀ fs₀ hs fs g h =
      let n : row_sites e P w k (fours (m - j) l) ≡ [] = rw (none_left m j l h, none_sites w k) in
      record {
        heights = sym (g.heights ∙ ap (λ (xs : List (ℕ × Site)). puts tall xs hs) n);
        firsts = sym (g.firsts ∙ ap (λ (xs : List (ℕ × Site)). puts begin xs fs) n);
      }

  pub row_end_counted : (w k m j : ℕ) (l : List ℕ) (x : ℕ) → x ≡ k + row_leaves e P w (fours (m - j) l) → m ≤ j → k ≡ x
  row_end_counted w k m j l x ex h =
      let n : row_leaves e P w (fours (m - j) l) ≡ 0 = rw (none_left m j l h, none_leaves w) in
      omega arith

  -- a child c and then the others
  module _ (w k p j m : ℕ) (some : j < m) (c : ℕ) (ec : c ≡ number (part (16 + 4 * j) 4 (block e P p)))
      (k₁ : ℕ) (ek : k₁ ≡ k + tree_leaves e P w c) where
    abbrev rest : List ℕ
    rest = fours (m - (j + 1)) (drop (16 + 4 * (j + 1)) (block e P p))

    first_is : fours (m - j) (drop (16 + 4 * j) (block e P p)) ≡ c ∷ rest
    first_is = rw (fours_next m j (block e P p) some, ← ec)

    sites_first : row_sites e P w k (fours (m - j) (drop (16 + 4 * j) (block e P p))) ≡ tree_sites e P w k c ++ row_sites e P w k₁ rest
    sites_first = rw (first_is, ek) (row_sites_lem w k c rest)

    pub row_on : (all : List (ℕ × Site)) (hs₀ fs₀ hs fs hs₁ fs₁ : List ℕ)
        → Going all (row_sites e P w k (fours (m - j) (drop (16 + 4 * j) (block e P p)))) hs₀ fs₀ hs fs
        → Marked (tree_sites e P w k c) hs fs hs₁ fs₁ → Going all (row_sites e P w k₁ rest) hs₀ fs₀ hs₁ fs₁
    row_on all hs₀ fs₀ hs fs hs₁ fs₁ g a = record {
      heights = g.heights ∙ ap (λ (xs : List (ℕ × Site)). puts tall xs hs) sites_first
          ∙ puts_append tall (tree_sites e P w k c) (row_sites e P w k₁ rest) hs
          ∙ ap (puts tall (row_sites e P w k₁ rest)) (sym a.heights);
      firsts = g.firsts ∙ ap (λ (xs : List (ℕ × Site)). puts begin xs fs) sites_first
          ∙ puts_append begin (tree_sites e P w k c) (row_sites e P w k₁ rest) fs
          ∙ ap (puts begin (row_sites e P w k₁ rest)) (sym a.firsts);
    }

    pub row_on_counted : (x : ℕ) → x ≡ k + row_leaves e P w (fours (m - j) (drop (16 + 4 * j) (block e P p)))
        → x ≡ k₁ + row_leaves e P w rest
    row_on_counted x ex =
        let l : row_leaves e P w (fours (m - j) (drop (16 + 4 * j) (block e P p))) ≡ tree_leaves e P w c + row_leaves e P w rest
        = rw first_is (row_leaves_lem w c rest) in
        omega (arith, ek)

-- a blob
pub blob_noted : (e : Edition) (P : List ℕ) (r : ℕ) (blk : List ℕ) → blk ≡ block e P r → (h : ℕ) → h ≡ height_of blk → (hs fs hs' fs' : List ℕ)
    → Marked (tree_sites e P h 0 r) hs fs hs' fs' → Marked (sites_of (blob_at e P r)) hs fs hs' fs'
unfolding sites_of blob_at tree_sites
blob_noted e P r blk eb h eh hs fs hs' fs' d = rw (eh, eb) at d
