-- What is planned of a slot is what the definitions change in it: where its block stood is noted, and what a block holds lies in its slot.
use mathlib.Core.Path.{◌≡◌, ap, ◌∙◌, sym, subst}
use mathlib.Core.List.{List, [], ◌∷◌}
use Prim.Native.Nat.{ℕ, ◌-◌, ◌≤◌, ◌<◌}
use native.Mathlib.Omega.{arith}
use lib.Dec.{leb, eqb}
use lib.ListN.{length, get_or}
use borrow.Author.Tests.{eq-eqb, eqb-true, eqb-false, leb-true, leb-false}
use Rattle.meaning.specs.declared.Edition.{Edition}
use Rattle.meaning.specs.Lists.{pick, both}
use Rattle.meaning.specs.Edition.{Proper}
use Rattle.meaning.specs.Bytes.{Cell, same_cell, block, height_of, count_of}
use Rattle.meaning.specs.Tree.{Blob, root_of, cells_of, length_of, nothing, just, held}
use Rattle.meaning.specs.Shape.{leaves_for}
use Rattle.meaning.specs.Change.{Change, freed, changed}
use Rattle.meaning.specs.Resize.{resized}
use Rattle.meaning.specs.Calls.{usable, become}
use Rattle.laws.proofs.Inversions.{by_test}
use Rattle.laws.proofs.Codec.{items_of}
use Rattle.laws_resize.proofs.resizing.Resized.{none_new}
use Rattle.laws_resize.specs.growth.Sites.{Site, sites_of, sited, at, root_row}
use Rattle.laws_resize.specs.growth.Cuts.{cut_row, height_of_length, shortened, leftmost}
use Rattle.laws_resize.specs.growth.HeldAfter.{shorter_root, resized_held}
use Rattle.laws_resize.proofs.growth.Changes.{cut_root, cut_kept, cut_gone, cut_other}
use Rattle.laws_resize.proofs.growth.FormsByCases.{short_gone, short_replaced, short_off, short_low}
use Rattle.laws_resize.proofs.growth.WhereBlocksStand.{left_site, root_site}
use Rattle.laws_resize.proofs.growth.ResizedBySlot.{resize_changes}
use Rattle.laws_resize.proofs.rising.Bounds.{shorter_height}
use Rattle.laws_resize.proofs.rising.SameByCount.{same_cut}
use Rattle.laws_resize.proofs.rising.Roots.{shorter_is, same_shorter}
use Rattle.check_survey.specs.sites.Spelt.{blob_at, site_at}
use Rattle.check_survey.specs.sites.Known.{Known}
use Rattle.plan_slot.specs.change.Turns.{over}
use Rattle.plan_slot.proofs.change.SlotLoop.{changes_over, over_same}
use Rattle.plan_slot.specs.renewal.{renewal}
use Rattle.plan_slot.proofs.renewal.DrawnIsChanged.{renewal_same}
use Rattle.plan_tree.specs.declared.cuts.Cut.{Cut}
use Rattle.plan_tree.specs.cuts.{Cuts}
use Rattle.plan_shorter.specs.Plans.{cut_plan, root_end, old_end}

module _ (e : Edition) (p : Proper e) (n : ℕ) (P R : List ℕ) (r len k : ℕ) (row hs fs : List ℕ) (g : Known e n P R r len k row hs fs) where
  abbrev b : Blob
  b = blob_at e P r

  -- c is what the blob is cut to, and kept the block whose row the root takes
  module _ (c : Cut) (q : Cuts e c) (short : c.length < length_of b) (kept : List ℕ)
      (ek : kept ≡ block e P (leftmost b.height (b.height - c.top) b.tree).0) where
    -- that block has the new root's height
    top_low : c.top ≤ b.height
    top_low = omega (arith, q.top, shorter_height e p b g.standing.shaped c.length short)

    -- its row is the one that the definitions cut
    kept_row : items_of c.top kept ≡ (leftmost b.height (b.height - c.top) b.tree).1
    kept_row =
        let s = (leftmost b.height (b.height - c.top) b.tree).0 in
        let z : b.height - (b.height - c.top) ≡ c.top = omega (arith, top_low) in
        let site = left_site e p b g.standing.shaped g.standing.once (b.height - c.top) (omega arith) in
        rw ek (ap (λ (h : ℕ). items_of h (block e P s)) (sym z) ∙ sym (g.fit s _ site).1)

    -- so the root holds in the end what the definitions say
    root_end_lem : root_end e c hs fs kept r P R ≡ shorter_root e b c.length
    unfolding root_end
    root_end_lem = rw (kept_row, q.top) (sym (shorter_is e b c.length))

    module _ (free : List ℕ) where
      -- what the definitions change in a slot
      abbrev change : ℕ → List Change
      change s = changed e R 1 s (held (cells_of b) s) (resized_held e R free b c.length s)

      -- the root
      root_count : same_cell (record { height = b.height; items = root_row b }) (shorter_root e b c.length)
          ≡ both (eqb (shorter_root e b c.length).height (height_of (block e P (root_of b))))
          (eqb (length (shorter_root e b c.length).items) (count_of (block e P (root_of b))))
      unfolding shorter_root
      root_count =
          let f = g.fit (root_of b) _ (root_site e p b g.standing.shaped g.standing.once) in
          let tall : (shorter_root e b c.length).height ≡ height_of_length e c.length = ap (λ (z : Cell). z.height) (shorter_is e b c.length) in
          rw (tall, f.0.height, ← f.2) (same_shorter e b c.length)

      root_same : (s : ℕ) → s ≡ root_of b → renewal e R s (block e P s) (root_end e c hs fs kept r P R) ≡ change s
      root_same s is =
          subst (λ (t : ℕ). renewal e R t (block e P t) (root_end e c hs fs kept r P R) ≡ change t) (sym is)
          (rw root_end_lem
          (renewal_same e R (root_of b) (block e P (root_of b)) (record { height = b.height; items = root_row b }) (shorter_root e b c.length) root_count
          ∙ sym (cut_root e p R b g.standing free c.length short)))

      -- another block of the blob
      module _ (s : ℕ) (noted : get_or hs s 0 ≡ 0 → ⊥) (other : s ≡ r → ⊥) where
        abbrev site : Site
        site = site_at e P s (get_or hs s 0) (get_or fs s 0)

        found : sited (sites_of b) s ≡ at site
        found = g.sites.some s noted

        not_root : s ≡ root_of b → ⊥
        not_root is = other (is ∙ g.named)

        -- that goes
        gone_same : shortened e c.length site ≡ nothing → freed e R s ∷ [] ≡ change s
        gone_same goes = sym (cut_gone e p R b g.standing free c.length short s site found not_root goes)

        -- that stays
        kept_same : shortened e c.length site ≡ just (old_end e c hs fs kept r P R s)
            → renewal e R s (block e P s) (old_end e c hs fs kept r P R s) ≡ change s
        unfolding site_at old_end both
        kept_same stays =
            let f = g.fit s site found in
            let h = get_or hs s 0 - 1 in
            let old = items_of h (block e P s) in
            let new = cut_row e c.length h (get_or fs s 0) old in
            let same : same_cell (record { height = h; items = old }) (record { height = h; items = new })
            ≡ both (eqb h (height_of (block e P s))) (eqb (length new) (count_of (block e P s))) =
            rw (eq-eqb h (height_of (block e P s)) (sym f.0.height), ← f.2) (same_cut e c.length h (get_or fs s 0) old) in
            renewal_same e R s (block e P s) (record { height = h; items = old }) (record { height = h; items = new }) same
            ∙ sym (cut_kept e p R b g.standing free c.length short s site (record { height = h; items = new }) found not_root stays)

        -- either
        other_same : pick (leb c.leaves (get_or fs s 0)) (freed e R s ∷ [])
            (pick (both (eqb (get_or fs s 0) 0) (leb c.top (get_or hs s 0 - 1))) (freed e R s ∷ [])
            (renewal e R s (block e P s) (old_end e c hs fs kept r P R s))) ≡ change s
        unfolding site_at old_end pick both
        other_same =
            by_test (leb c.leaves (get_or fs s 0))
            (λ t. rw t (gone_same (short_gone e c.length site (rw q.leaves at (leb-true c.leaves (get_or fs s 0) t)))))
            (λ t.
            let early : get_or fs s 0 < leaves_for e.leaf c.length = rw q.leaves at (leb-false c.leaves (get_or fs s 0) t) in
            by_test (eqb (get_or fs s 0) 0)
            (λ u. let left = eqb-true (get_or fs s 0) 0 u in
            by_test (leb c.top (get_or hs s 0 - 1))
            (λ v. rw (t, u, v) (gone_same (short_replaced e c.length site left (rw q.top at (leb-true c.top (get_or hs s 0 - 1) v)))))
            (λ v. rw (t, u, v) (kept_same (short_low e c.length site (rw q.top at (leb-false c.top (get_or hs s 0 - 1) v)) early))))
            (λ u. let off = eqb-false (get_or fs s 0) 0 u in
            rw (t, u) (kept_same (short_off e c.length site (omega arith) early))))

      -- any slot
      pub cut_same : (s : ℕ) → cut_plan e c hs fs kept r P R s ≡ change s
      unfolding cut_plan pick
      cut_same s =
          by_test (eqb (get_or hs s 0) 0)
          (λ t. rw t (sym (cut_other e p R b g.standing free c.length short s (g.sites.none s (eqb-true (get_or hs s 0) 0 t)))))
          (λ t.
          by_test (eqb s r)
          (λ u. rw (t, u) (root_same s (eqb-true s r u ∙ sym g.named)))
          (λ u. rw (t, u) (other_same s (eqb-false (get_or hs s 0) 0 t) (eqb-false s r u))))

    -- all slots
    pub cut_changes : over (cut_plan e c hs fs kept r P R) 0 n ≡ become e n P R 1 (cells_of b) (cells_of (resized e c.length (usable e n P R) b))
    cut_changes =
        let free = usable e n P R in
        let none = none_new e p.some p.two b g.standing.shaped c.length free n P R (omega arith) in
        over_same (cut_plan e c hs fs kept r P R) _ 0 n (cut_same free)
        ∙ sym (changes_over e R 1 (held (cells_of b)) (resized_held e R free b c.length) 0 n)
        ∙ sym (resize_changes e p n P R b g.standing c.length (omega arith))
