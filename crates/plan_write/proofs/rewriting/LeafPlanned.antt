-- The plan of a leaf is the version rule of the definition: it changes exactly if its cell, with its stretch put, differs.
use mathlib.Core.Path.{◌≡◌, refl, ap, ◌∙◌}
use mathlib.Core.List.{List, [], ◌∷◌}
use Prim.Native.Nat.{ℕ, ◌+◌, ◌*◌, ◌≤◌}
use native.Mathlib.Omega.{arith}
use borrow.Author.Tests.{eq-eqb, ne_eqb, eqb-true, eqb-false}
use lib.Dec.{eqb}
use lib.ListN.{length, get_or}
use Rattle.meaning.specs.declared.Edition.{Edition}
use Rattle.meaning.specs.Lists.{pick, both, part, pasted, same_list}
use Rattle.meaning.specs.Bytes.{same_cell, block, count_of, data_of, state}
use Rattle.meaning.specs.Change.{renewed}
use Rattle.laws.proofs.Numbers.{part_length, part_part}
use Rattle.laws.proofs.Parts.{pasted_none}
use Rattle.laws.proofs.Inversions.{by_test, same_self}
use Rattle.plan_write.specs.declared.stretch.Stretch.{Stretch}
use Rattle.plan_write.specs.stretch.{touched_by, differing, plan_of, stretched, leaf_cell, put_by, write_plan}
use Rattle.plan_write.proofs.stretch.Stretches.{fits_both, same_pasted}

-- two leaves are the same if their bytes are
same_leaf : (a b : List ℕ) → same_cell (leaf_cell a) (leaf_cell b) ≡ same_list a b
unfolding same_cell both
same_leaf a b = refl

-- a stretch that lies in the leaf's bytes, or is none
module _ (b d : List ℕ) (room : 16 + count_of b ≤ length b) (t : Stretch)
    (fits : (t.count ≡ 0 → ⊥) → (t.within + t.count ≤ count_of b) × (t.from + t.count ≤ length d)) where
  abbrev Same : Type 0
  Same = same_list (data_of b) (pasted t.within (part t.from t.count d) (data_of b))
      ≡ same_list (part (16 + t.within) t.count b) (part t.from t.count d)

  same_empty : t.count ≡ 0 → Same
  unfolding part same_list
  same_empty z = rw z (ap (same_list (data_of b)) (pasted_none t.within [] (data_of b) refl) ∙ same_self (data_of b))

  same_some : (t.count ≡ 0 → ⊥) → Same
  unfolding data_of
  same_some n =
      let new : List ℕ = part t.from t.count d in
      let k : length new ≡ t.count = part_length t.from t.count d (fits n).1 in
      let long : length (part 16 (count_of b) b) ≡ count_of b = part_length 16 (count_of b) b room in
      same_pasted t.within new (part 16 (count_of b) b) (omega (arith, (fits n).0))
      ∙ ap (λ (x : List ℕ). same_list x new) (ap (λ (m : ℕ). part t.within m (part 16 (count_of b) b)) k
      ∙ part_part 16 (count_of b) t.within t.count b (fits n).0 room)

  -- the leaf's bytes stay exactly if those of the stretch do
  same_stretch : same_cell (leaf_cell (data_of b)) (leaf_cell (stretched t d (data_of b)))
      ≡ same_list (part (16 + t.within) t.count b) (part t.from t.count d)
  unfolding stretched
  same_stretch =
      same_leaf (data_of b) (pasted t.within (part t.from t.count d) (data_of b))
      ∙ by_test (eqb t.count 0)
      (λ q. same_empty (eqb-true t.count 0 q))
      (λ q. same_some (eqb-false t.count 0 q))

-- what a leaf's slot becomes
module _ (e : Edition) (P R hs fs d : List ℕ) (offset s : ℕ) (leaf : get_or hs s 0 ≡ 1) (room : 16 + count_of (block e P s) ≤ length (block e P s)) where
  abbrev b : List ℕ
  b = block e P s

  abbrev t : Stretch
  t = touched_by (e.leaf * get_or fs s 0) (count_of b) offset (length d)

  inside : (t.count ≡ 0 → ⊥) → (t.within + t.count ≤ count_of b) × (t.from + t.count ≤ length d)
  unfolding touched_by
  inside n = fits_both (e.leaf * get_or fs s 0) (count_of b) offset (length d) n

  pub planned_leaf : write_plan e P R hs fs d offset s
      ≡ pick (same_cell (leaf_cell (data_of b)) (leaf_cell (stretched t d (data_of b)))) []
      (renewed e R (state R s) s (leaf_cell (stretched t d (data_of b))) ∷ [])
  unfolding write_plan plan_of differing put_by pick
  planned_leaf =
      by_test (same_list (part (16 + t.within) t.count b) (part t.from t.count d))
      (λ q. rw (same_stretch b d room t inside, eq-eqb (get_or hs s 0) 1 leaf, q))
      (λ q. rw (same_stretch b d room t inside, eq-eqb (get_or hs s 0) 1 leaf, q))

-- a slot that is no leaf of the blob stays
pub planned_other : (e : Edition) (P R hs fs d : List ℕ) (offset s : ℕ) → (get_or hs s 0 ≡ 1 → ⊥) → write_plan e P R hs fs d offset s ≡ []
unfolding write_plan plan_of put_by pick
planned_other e P R hs fs d offset s n = rw (ne_eqb (get_or hs s 0) 1 n)
