-- In a blob that is known each step from a first child to the next comes to the next block of the left edge.
use mathlib.Core.Path.{◌≡◌, refl, ap, ◌∙◌, sym}
use mathlib.Core.List.{List, [], ◌∷◌}
use Prim.Native.Nat.{ℕ, zero, suc, ◌+◌, ◌-◌, ◌*◌, ◌≤◌, ◌<◌}
use native.Mathlib.Omega.{arith}
use lib.ListN.{length, get_or}
use Rattle.meaning.specs.declared.Edition.{Edition}
use Rattle.meaning.specs.Lists.{part, number}
use Rattle.meaning.specs.Edition.{Proper}
use Rattle.meaning.specs.Bytes.{block, count_of, children_of}
use Rattle.meaning.specs.Tree.{Blob}
use Rattle.laws.proofs.Codec.{items_of}
use Rattle.check_blob.proofs.visit.VisitAsDefined.{slot_fits}
use Rattle.check_gate.specs.Gate.{Whole}
use Rattle.laws_resize.specs.growth.Cuts.{leftmost}
use Rattle.laws_resize.specs.growth.Forms.{past}
use Rattle.laws_resize.proofs.growth.WhereBlocksStand.{left_site, left_root, left_step}
use Rattle.check_survey.specs.sites.Spelt.{blob_at}
use Rattle.check_survey.specs.sites.Known.{Known}
use Rattle.check_blob.proofs.notes.WalkAsDefined.{fours_first}
use Rattle.plan_slot.specs.keep.{first_below}

-- an inner block's first child
first_child : (b row : List ℕ) → row ≡ children_of b → (count_of b ≡ 0 → ⊥) → get_or row 0 past ≡ number (part 16 4 b)
unfolding children_of
first_child b row er some = rw er (ap (λ (l : List ℕ). get_or l 0 past) (fours_first (count_of b) 0 b some))

none_past : (row : List ℕ) → length row ≡ 0 → get_or row 0 past ≡ past
none_past [] z = refl
none_past (x ∷ row) z = absurd (omega arith)

inner_row : (h : ℕ) (b : List ℕ) → 1 ≤ h → items_of h b ≡ children_of b
unfolding items_of
inner_row zero b low = absurd (omega arith)
inner_row (suc h) b low = refl

-- in a blob that is known
module _ (e : Edition) (p : Proper e) (n : ℕ) (P R : List ℕ) (w : Whole e n P R) (r len k : ℕ) (row hs fs : List ℕ)
    (g : Known e n P R r len k row hs fs) where
  -- the blob, and the left edge's slots
  abbrev b : Blob
  b = blob_at e P r

  abbrev left : ℕ → ℕ
  left j = (leftmost b.height j b.tree).0

  -- each lies in the pool
  pub left_within : (j : ℕ) → j ≤ b.height → left j < n
  left_within j low = (g.fit (left j) _ (left_site e p b g.standing.shaped g.standing.once j low)).0.within

  -- one that is not a leaf has a first child, which is the next
  left_next : (j : ℕ) → j < b.height → left (suc j) ≡ number (part 16 4 (block e P (left j)))
  left_next j low =
      let shaped = g.standing.shaped in
      let once = g.standing.once in
      let f = g.fit (left j) _ (left_site e p b shaped once j (omega arith)) in
      let step = left_step e p b shaped once j low in
      let children = f.1 ∙ inner_row (b.height - j) (block e P (left j)) (omega arith) in
      let some : (count_of (block e P (left j)) ≡ 0 → ⊥) = λ z.
      let out : left (suc j) ≡ past = step ∙ none_past (leftmost b.height j b.tree).1 (f.2 ∙ z) in
      omega (arith, left_within (suc j) (omega arith), w.few, p.small) in
      step ∙ first_child (block e P (left j)) _ children some

  pub left_below : (j : ℕ) → j ≤ b.height → first_below e P r j ≡ left j
  unfolding first_below
  left_below zero low = sym ((left_root e p b g.standing.shaped g.standing.once).0 ∙ g.named)
  left_below (suc j) low =
      ap (λ (t : ℕ). number (part 16 4 (block e P t))) (left_below j (omega arith)) ∙ sym (left_next j (omega arith))

  pub left_fits : (j : ℕ) → j ≤ b.height → e.size * first_below e P r j + e.size ≤ length P
  left_fits j low = rw (left_below j low) (slot_fits e.size n (left j) P w.pool (left_within j low))
