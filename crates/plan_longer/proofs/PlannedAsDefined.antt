-- Slot by slot the plan is the definition's change: the root, another block of the blob by where it stands, a usable slot that is taken, and any other.
use mathlib.Core.Path.{◌≡◌, ap, ◌∙◌, sym, subst}
use mathlib.Core.Bool.{true, false}
use mathlib.Core.List.{List, [], ◌∷◌}
use Prim.Native.Nat.{ℕ, ◌-◌, ◌≤◌, ◌<◌}
use native.Mathlib.Omega.{arith}
use borrow.Author.Tests.{eqb-true, eqb-false, eq-eqb, ltb-true}
use lib.Dec.{eqb, ltb}
use lib.ListN.{length, get_or}
use Rattle.meaning.specs.declared.Edition.{Edition}
use Rattle.meaning.specs.Edition.{Proper}
use Rattle.meaning.specs.Lists.{pick, both}
use Rattle.meaning.specs.Bytes.{Cell, same_cell, block, height_of, count_of, state, usable_slot}
use Rattle.meaning.specs.Tree.{Blob, root_of, leaves_of, length_of, held, cells_of}
use Rattle.meaning.specs.Shape.{total}
use Rattle.meaning.specs.Change.{Change, renewed, changed}
use Rattle.meaning.specs.Resize.{share, resized}
use Rattle.meaning.specs.Calls.{usable, become, new_blocks}
use Rattle.laws.proofs.Codec.{items_of}
use Rattle.laws.proofs.Inversions.{by_test, both_true}
use Rattle.laws_resize.specs.growth.Sites.{root_row}
use Rattle.laws_resize.specs.growth.Cuts.{height_of_length}
use Rattle.laws_resize.specs.growth.Forms.{grown_row, grown_new}
use Rattle.laws_resize.specs.growth.HeldAfter.{usable_below, taken, rise, resized_held}
use Rattle.laws_resize.proofs.growth.Changes.{change_root, change_old, change_taken, change_other}
use Rattle.laws_resize.proofs.growth.ResizedBySlot.{resize_changes}
use Rattle.laws_resize.specs.rising.{top_at}
use Rattle.laws_resize.proofs.rising.Rises.{root_top}
use Rattle.laws_resize.proofs.rising.Roots.{same_longer}
use Rattle.laws_resize.proofs.rising.SameByCount.{same_grown}
use Rattle.check_gate.specs.Gate.{Whole}
use Rattle.check_survey.specs.sites.Spelt.{blob_at, site_at}
use Rattle.check_survey.specs.sites.Known.{Known}
use Rattle.plan_slot.specs.change.Turns.{over}
use Rattle.plan_slot.proofs.change.SlotLoop.{changes_over, over_same}
use Rattle.plan_slot.specs.renewal.{renewal}
use Rattle.plan_slot.proofs.renewal.DrawnIsChanged.{renewal_same}
use Rattle.plan_longer.specs.declared.fresh.Growth.{Growth}
use Rattle.plan_longer.specs.declared.towers.Tower.{Tower}
use Rattle.plan_longer.specs.enlarged.{root_end, old_end}
use Rattle.plan_longer.specs.taken.{new_end, free_plan}
use Rattle.plan_longer.specs.Plans.{Numbers, grow_plan, grow_plans}
use Rattle.plan_longer.proofs.ReadyToGrow.{root_row_lem, root_count, root_height, noted_at, noted_height, noted_count, noted_share}

-- the same numbers and the same row make the same root, and the same new block
top_same : (e : Edition) (len : ℕ) (free kept row : List ℕ) (n m t u h i g j : ℕ) → n ≡ m → t ≡ u → h ≡ i → g ≡ j → row ≡ items_of i kept
    → top_at e len n t free h (items_of h kept) g ≡ top_at e len m u free i row j
top_same e len free kept row n m t u h i g j en et eh eg er = rw (en, et, eh, eg, er)

new_same : (e : Edition) (len : ℕ) (free kept row : List ℕ) (n m g h i k p : ℕ) → n ≡ m → h ≡ i → g - i ≡ k → row ≡ items_of i kept
    → grown_new e len n free (g - h) h (items_of h kept) p ≡ grown_new e len m free k i row p
new_same e len free kept row n m g h i k p en eh eg er = rw (en, eh, eg, er)

-- a row that gets longer, of a block of that height and count
old_same : (e : Edition) (len n : ℕ) (free : List ℕ) (h i : ℕ) (row b : List ℕ) → h ≡ height_of b → length row ≡ count_of b
    → (h ≡ 0 → length row ≤ share e len i)
    → same_cell (record { height = h; items = row }) (record { height = h; items = grown_row e len n free h i row })
    ≡ both (eqb h (height_of b)) (eqb (length (grown_row e len n free h i row)) (count_of b))
unfolding both
old_same e len n free h i row b eh ec fits = same_grown e len n free h i row fits ∙ rw (eq-eqb h (height_of b) eh, ec)

module _ (e : Edition) (p : Proper e) (n : ℕ) (P R : List ℕ) (r bytes leaves : ℕ) (row hs fs : List ℕ)
    (k : Known e n P R r bytes leaves row hs fs) (w : Whole e n P R) (g : Growth) (t : Tower) (num : Numbers e (blob_at e P r) g t)
    (long : bytes ≤ g.length) (free : List ℕ) where
  -- the blob, and what a slot becomes by the definitions
  abbrev b : Blob
  b = blob_at e P r

  abbrev meant : ℕ → List Change
  meant s = changed e R 1 s (held (cells_of b) s) (resized_held e R free b g.length s)

  longer : length_of b ≤ g.length
  longer = omega (arith, k.bytes)

  -- what the root held, and what it holds in the end
  abbrev was : Cell
  was = record { height = b.height; items = root_row b }

  abbrev top : Cell
  top =
      top_at e g.length (length (leaves_of b)) (total e.fan (length (leaves_of b))) free b.height (root_row b) (height_of_length e g.length)

  root_end_lem : root_end e g t free (block e P r) ≡ top
  unfolding root_end
  root_end_lem =
      top_same e g.length free (block e P r) (root_row b) g.leaves _ t.blocks _ t.height _ t.top _ num.leaves
      (num.blocks ∙ ap (total e.fan) num.leaves) num.height num.top (root_row_lem e p n P R r bytes leaves row hs fs k w)

  -- the root's slot
  root_meant : meant r ≡ pick (same_cell was top) [] (renewed e R (state R r) r top ∷ [])
  root_meant =
      subst (λ s. meant s ≡ pick (same_cell was top) [] (renewed e R (state R s) s top ∷ [])) k.named
      (subst (λ c. meant (root_of b) ≡ pick (same_cell was c) [] (renewed e R (state R (root_of b)) (root_of b) c ∷ []))
      (root_top e p b k.standing.shaped g.length longer free (root_row b))
      (change_root e p R b k.standing free g.length longer))

  top_kept : same_cell was top ≡ both (eqb top.height (height_of (block e P r))) (eqb (length top.items) (count_of (block e P r)))
  top_kept =
      same_longer e p b k.standing.shaped g.length longer free
      ∙ ap (λ (c : ℕ). both (eqb top.height b.height) (eqb (length top.items) c)) (root_count e p n P R r bytes leaves row hs fs k w)
      ∙ ap (λ (h : ℕ). both (eqb top.height h) (eqb (length top.items) (count_of (block e P r))))
      (sym (root_height e p n P R r bytes leaves row hs fs k w))

  root_same : renewal e R r (block e P r) (root_end e g t free (block e P r)) ≡ meant r
  root_same = ap (renewal e R r (block e P r)) root_end_lem ∙ renewal_same e R r (block e P r) was top top_kept ∙ sym root_meant

  -- another block of the blob
  abbrev grown_to : (m s : ℕ) → Cell
  grown_to m s =
      let h = get_or hs s 0 - 1 in
      record { height = h; items = grown_row e g.length m free h (get_or fs s 0) (items_of h (block e P s)) }

  old_end_lem : (s : ℕ) → old_end e g P free hs fs s ≡ grown_to (length (leaves_of b)) s
  unfolding old_end
  old_end_lem s = ap (λ (m : ℕ). grown_to m s) num.leaves

  old_meant : (s : ℕ) → (get_or hs s 0 ≡ 0 → ⊥) → (s ≡ r → ⊥) → renewal e R s (block e P s) (old_end e g P free hs fs s) ≡ meant s
  unfolding site_at
  old_meant s noted other =
      let new = grown_to (length (leaves_of b)) s in
      let at = noted_at e p n P R r bytes leaves row hs fs k w s noted in
      let count = noted_count e p n P R r bytes leaves row hs fs k w s noted in
      let same =
      old_same e g.length (length (leaves_of b)) free (get_or hs s 0 - 1) (get_or fs s 0) (items_of (get_or hs s 0 - 1) (block e P s)) (block e P s)
      (sym (noted_height e p n P R r bytes leaves row hs fs k w s noted)) count
      (λ low. omega (arith, count, noted_share e p n P R r bytes leaves row hs fs k w s noted g.length long low)) in
      ap (renewal e R s (block e P s)) (old_end_lem s)
      ∙ renewal_same e R s (block e P s) (record { height = get_or hs s 0 - 1; items = items_of (get_or hs s 0 - 1) (block e P s) }) new same
      ∙ sym (change_old e p R b k.standing free g.length longer s _ at (λ q. other (q ∙ k.named)))

  -- a usable slot that is taken
  new_end_lem : (q : ℕ) → new_end e g t free (block e P r) q
      ≡ grown_new e g.length (length (leaves_of b)) free (rise e b g.length) b.height (root_row b) q
  unfolding new_end rise
  new_end_lem q =
      new_same e g.length free (block e P r) (root_row b) g.leaves _ t.top t.height _ _ q num.leaves num.height
      (ap (λ (i : ℕ). i - b.height) num.top) (root_row_lem e p n P R r bytes leaves row hs fs k w)

  taken_meant : (s : ℕ) → both (usable_slot R s) (ltb (usable_below R s) t.taken) ≡ true
      → renewed e R 1 s (new_end e g t free (block e P r) (usable_below R s)) ∷ [] ≡ meant s
  taken_meant s yes' =
      let a = both_true (usable_slot R s) (ltb (usable_below R s) t.taken) yes' in
      let few : usable_below R s < taken e b g.length = omega (arith, ltb-true (usable_below R s) t.taken a.1, num.taken) in
      ap (λ (c : Cell). renewed e R 1 s c ∷ []) (new_end_lem (usable_below R s))
      ∙ sym (change_taken e p R b k.standing free g.length longer s a.0 few)

  -- any other slot
  other_meant : (s : ℕ) → get_or hs s 0 ≡ 0 → both (usable_slot R s) (ltb (usable_below R s) t.taken) ≡ false → [] ≡ meant s
  other_meant s none left =
      sym (change_other e p R b k.standing free g.length longer s (k.sites.none s none)
      (ap (λ (m : ℕ). both (usable_slot R s) (ltb (usable_below R s) m)) (sym num.taken) ∙ left))

  -- every slot
  pub grow_same : (s : ℕ) → grow_plans e g t P R free hs fs (block e P r) r s ≡ meant s
  unfolding grow_plans grow_plan free_plan pick
  grow_same s =
      by_test (eqb s r)
      (λ a. rw a (subst (λ z. renewal e R z (block e P r) (root_end e g t free (block e P r)) ≡ meant z) (sym (eqb-true s r a)) root_same))
      (λ a.
      by_test (eqb (get_or hs s 0) 0)
      (λ c.
      by_test (both (usable_slot R s) (ltb (usable_below R s) t.taken))
      (λ d. rw (a, c, d) (taken_meant s d))
      (λ d. rw (a, c, d) (other_meant s (eqb-true (get_or hs s 0) 0 c) d)))
      (λ c. rw (a, c) (old_meant s (eqb-false (get_or hs s 0) 0 c) (eqb-false s r a))))

-- the definition's changes
pub grow_changes : (e : Edition) → Proper e → (n : ℕ) (P R : List ℕ) (r bytes leaves : ℕ) (row hs fs : List ℕ)
    → Known e n P R r bytes leaves row hs fs → Whole e n P R → (g : Growth) (t : Tower) → Numbers e (blob_at e P r) g t
    → bytes ≤ g.length → (free : List ℕ) → free ≡ usable e n P R → t.taken ≤ length free
    → become e n P R 1 (cells_of (blob_at e P r)) (cells_of (resized e g.length (usable e n P R) (blob_at e P r)))
    ≡ over (grow_plans e g t P R free hs fs (block e P r) r) 0 n
unfolding new_blocks taken
grow_changes e p n P R r bytes leaves row hs fs k w g t num long free is enough =
    let b = blob_at e P r in
    resize_changes e p n P R b k.standing g.length (omega (arith, num.taken, ap length is))
    ∙ changes_over e R 1 (held (cells_of b)) (resized_held e R (usable e n P R) b g.length) 0 n
    ∙ sym (over_same (grow_plans e g t P R free hs fs (block e P r) r) _ 0 n
    (λ s. grow_same e p n P R r bytes leaves row hs fs k w g t num long free s
    ∙ ap (λ (f : List ℕ). changed e R 1 s (held (cells_of b) s) (resized_held e R f b g.length s)) is))
