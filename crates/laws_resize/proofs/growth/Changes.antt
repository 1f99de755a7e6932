-- A resize's change in one slot, case by case. In each case the two sides of `changed` are given: what the slot held, by where its block stood,
-- and what
-- it holds; and a slot that holds what it held is not changed.
use mathlib.Core.Path.{◌≡◌, refl, sym, ap, ap₂, ◌∙◌}
use mathlib.Core.Bool.{Bool, true, false}
use mathlib.Core.List.{List, [], ◌∷◌}
use Prim.Native.Nat.{ℕ, suc, ◌≤◌, ◌<◌}
use native.Mathlib.Omega.{arith}
use lib.Dec.{eqb, ltb}
use lib.ListN.{length}
use borrow.Author.Tests.{eq-eqb, ne_eqb, lt-ltb, le-leb, lt-leb}
use Rattle.meaning.specs.declared.Edition.{Edition}
use Rattle.meaning.specs.Lists.{pick, both}
use Rattle.meaning.specs.Edition.{Proper}
use Rattle.meaning.specs.Bytes.{Cell, same_cell, state, usable_slot}
use Rattle.meaning.specs.Tree.{Blob, root_of, leaves_of, cells_of, length_of, nothing, just, held}
use Rattle.meaning.specs.Change.{freed, renewed, changed}
use Rattle.laws.proofs.Inversions.{by_test, both_true, true_both, same_self}
use Rattle.laws_resize.specs.growth.Sites.{Site, sites_of, Sited, absent, at, sited, held_by, same, root_row}
use Rattle.laws_resize.specs.growth.Cuts.{written, rewritten, shortened}
use Rattle.laws_resize.specs.growth.Forms.{grown_row, grown, grown_root, grown_new}
use Rattle.laws_resize.specs.growth.HeldAfter.{usable_below, written_held, shorter_root, shorter_held, taken, rise, longer_held, resized_held}
use Rattle.laws_resize.proofs.growth.Sites.{held_site}
use Rattle.laws_resize.proofs.growth.WhereBlocksStand.{root_site}
use Rattle.laws_resize.proofs.growth.Usable.{usable_free}
use Rattle.laws_resize.proofs.growth.ResizedBySlot.{Standing}

-- a cell is the same as itself
same_cell_lem : (c : Cell) → same_cell c c ≡ true
unfolding same_cell both
same_cell_lem c = rw (eq-eqb c.height c.height refl) (same_self c.items)

-- a slot that held a cell and holds one is renewed if they differ
changed_both : (e : Edition) (R : List ℕ) (taken s : ℕ) (old new : Cell)
    → changed e R taken s (just old) (just new) ≡ pick (same_cell old new) [] (renewed e R (state R s) s new ∷ [])
unfolding changed
changed_both e R taken s old new = refl

-- shorter: what the root holds, and another block
cut_root_value : (e : Edition) (R free : List ℕ) (b : Blob) (len : ℕ) → len < length_of b
    → resized_held e R free b len (root_of b) ≡ just (shorter_root e b len)
unfolding resized_held shorter_held pick
cut_root_value e R free b len short = rw (lt-leb (length_of b) len short, eq-eqb (root_of b) (root_of b) refl)

cut_value : (e : Edition) (R free : List ℕ) (b : Blob) (len : ℕ) → len < length_of b → (s : ℕ) (x : Site) → sited (sites_of b) s ≡ at x
    → (s ≡ root_of b → ⊥) → resized_held e R free b len s ≡ shortened e len x
unfolding resized_held shorter_held pick held_by
cut_value e R free b len short s x q other = rw (lt-leb (length_of b) len short, ne_eqb s (root_of b) other, q)

-- what a block holds
abbrev pub cell_at : Site → Cell
cell_at x = record { height = x.height; items = x.items }

module _ (e : Edition) (p : Proper e) (R : List ℕ) (b : Blob) (standing : Standing e R b) where
  -- what a slot of the blob holds, and another
  pub held_at : (s : ℕ) (x : Site) → sited (sites_of b) s ≡ at x → held (cells_of b) s ≡ just (cell_at x)
  unfolding held_by same
  held_at s x q = held_site b s standing.once ∙ ap (held_by same) q

  pub held_absent : (s : ℕ) → sited (sites_of b) s ≡ absent → held (cells_of b) s ≡ nothing
  unfolding held_by
  held_absent s q = held_site b s standing.once ∙ ap (held_by same) q

  -- a free slot is not the blob's
  pub free_absent : (s : ℕ) → state R s ≡ 0 → sited (sites_of b) s ≡ absent
  unfolding held_by same
  free_absent s free = go (sited (sites_of b) s) refl
    where
      none : held_by same (sited (sites_of b) s) ≡ nothing
      none = sym (held_site b s standing.once) ∙ standing.apart s free

      go : (v : Sited) → sited (sites_of b) s ≡ v → sited (sites_of b) s ≡ absent
      go absent q = q
      go (at x) q = absurd (let y : just (cell_at x) ≡ nothing = sym (ap (held_by same) q) ∙ none in let z : ◌≡◌ {A = ℕ} 0 1 = cc in omega arith)

  -- nor is the root in a slot that the blob has not
  not_root : (s : ℕ) → sited (sites_of b) s ≡ absent → eqb s (root_of b) ≡ false
  not_root s q = ne_eqb s (root_of b) (λ r.
      let y : at (record { height = b.height; first = 0; items = root_row b }) ≡ absent =
      sym (root_site e p b standing.shaped standing.once) ∙ ap (sited (sites_of b)) (sym r) ∙ q in
      let z : ◌≡◌ {A = ℕ} 0 1 = cc in omega arith)

  -- a slot of the blob is not usable
  not_usable : (s : ℕ) (x : Site) → sited (sites_of b) s ≡ at x → (few : Bool) → both (usable_slot R s) few ≡ false
  not_usable s x q few =
      by_test (both (usable_slot R s) few)
      (λ t. absurd (let y = free_absent s (usable_free R s (both_true (usable_slot R s) few t).0) in let z : ◌≡◌ {A = ℕ} 0 1 = cc in omega arith))
      (λ t. t)

  -- longer
  module _ (free : List ℕ) (len : ℕ) (long : length_of b ≤ len) where
    -- the new blocks, and the root, by the forms
    abbrev new : ℕ → Cell
    new q = grown_new e len (length (leaves_of b)) free (rise e b len) b.height (root_row b) q

    abbrev top : Cell
    top = grown_root e len (length (leaves_of b)) free (rise e b len) b.height (root_row b)

    -- an old block, grown
    abbrev grown_cell : Site → Cell
    grown_cell x = record { height = x.height; items = grown_row e len (length (leaves_of b)) free x.height x.first x.items }

    -- what the root holds
    root_value : resized_held e R free b len (root_of b) ≡ just top
    unfolding resized_held longer_held pick
    root_value = rw (le-leb (length_of b) len long, eq-eqb (root_of b) (root_of b) refl)

    -- what another block holds
    old_value : (s : ℕ) (x : Site) → sited (sites_of b) s ≡ at x → (s ≡ root_of b → ⊥) → resized_held e R free b len s ≡ just (grown_cell x)
    unfolding resized_held longer_held pick held_by grown
    old_value s x q other = rw (le-leb (length_of b) len long, ne_eqb s (root_of b) other, not_usable s x q (ltb (usable_below R s) (taken e b len)), q)

    -- a usable slot with few enough below it is taken: it held nothing
    pub change_taken : (s : ℕ) → usable_slot R s ≡ true → usable_below R s < taken e b len
        → changed e R 1 s (held (cells_of b) s) (resized_held e R free b len s) ≡ renewed e R 1 s (new (usable_below R s)) ∷ []
    unfolding resized_held longer_held pick changed
    change_taken s good few =
        let out = free_absent s (usable_free R s good) in
        let next : both (usable_slot R s) (ltb (usable_below R s) (taken e b len)) ≡ true =
        true_both (usable_slot R s) (ltb (usable_below R s) (taken e b len)) good (lt-ltb (usable_below R s) (taken e b len) few) in
        rw (le-leb (length_of b) len long, held_absent s out, not_root s out, next)

    -- the root
    pub change_root : changed e R 1 (root_of b) (held (cells_of b) (root_of b)) (resized_held e R free b len (root_of b))
        ≡ pick (same_cell (record { height = b.height; items = root_row b }) top) [] (renewed e R (state R (root_of b)) (root_of b) top ∷ [])
    change_root =
        ap₂ (changed e R 1 (root_of b)) (held_at (root_of b) _ (root_site e p b standing.shaped standing.once)) root_value
        ∙ changed_both e R 1 (root_of b) _ top

    -- another block of the blob
    pub change_old : (s : ℕ) (x : Site) → sited (sites_of b) s ≡ at x → (s ≡ root_of b → ⊥)
        → changed e R 1 s (held (cells_of b) s) (resized_held e R free b len s)
        ≡ pick (same_cell (cell_at x) (grown_cell x)) [] (renewed e R (state R s) s (grown_cell x) ∷ [])
    change_old s x q other =
        ap₂ (changed e R 1 s) (held_at s x q) (old_value s x q other) ∙ changed_both e R 1 s (cell_at x) (grown_cell x)

    -- any other slot
    pub change_other : (s : ℕ) → sited (sites_of b) s ≡ absent → both (usable_slot R s) (ltb (usable_below R s) (taken e b len)) ≡ false
        → changed e R 1 s (held (cells_of b) s) (resized_held e R free b len s) ≡ []
    unfolding resized_held longer_held pick changed held_by
    change_other s q not = rw (le-leb (length_of b) len long, held_absent s q, not_root s q, not, q)

  -- shorter
  module _ (free : List ℕ) (len : ℕ) (short : len < length_of b) where
    -- the root
    pub cut_root : changed e R 1 (root_of b) (held (cells_of b) (root_of b)) (resized_held e R free b len (root_of b))
        ≡ pick (same_cell (record { height = b.height; items = root_row b }) (shorter_root e b len)) []
        (renewed e R (state R (root_of b)) (root_of b) (shorter_root e b len) ∷ [])
    cut_root =
        ap₂ (changed e R 1 (root_of b)) (held_at (root_of b) _ (root_site e p b standing.shaped standing.once))
        (cut_root_value e R free b len short)
        ∙ changed_both e R 1 (root_of b) _ (shorter_root e b len)

    -- another block of the blob that stays
    pub cut_kept : (s : ℕ) (x : Site) (c : Cell) → sited (sites_of b) s ≡ at x → (s ≡ root_of b → ⊥) → shortened e len x ≡ just c
        → changed e R 1 s (held (cells_of b) s) (resized_held e R free b len s) ≡ pick (same_cell (cell_at x) c) [] (renewed e R (state R s) s c ∷ [])
    cut_kept s x c q other kept =
        ap₂ (changed e R 1 s) (held_at s x q) (cut_value e R free b len short s x q other ∙ kept) ∙ changed_both e R 1 s (cell_at x) c

    -- one that goes
    pub cut_gone : (s : ℕ) (x : Site) → sited (sites_of b) s ≡ at x → (s ≡ root_of b → ⊥) → shortened e len x ≡ nothing
        → changed e R 1 s (held (cells_of b) s) (resized_held e R free b len s) ≡ freed e R s ∷ []
    unfolding changed
    cut_gone s x q other goes = ap₂ (changed e R 1 s) (held_at s x q) (cut_value e R free b len short s x q other ∙ goes)

    -- any other slot
    pub cut_other : (s : ℕ) → sited (sites_of b) s ≡ absent → changed e R 1 s (held (cells_of b) s) (resized_held e R free b len s) ≡ []
    unfolding resized_held shorter_held pick changed held_by
    cut_other s q = rw (lt-leb (length_of b) len short, held_absent s q, not_root s q, q)

  -- write, by the whole new content
  module _ (d : List ℕ) where
    -- a block of the blob
    pub rewrite_old : (s : ℕ) (x : Site) (c : Cell) → sited (sites_of b) s ≡ at x
        → c ≡ record { height = x.height; items = rewritten e d x.height x.first x.items }
        → changed e R 1 s (held (cells_of b) s) (written_held e b d s) ≡ pick (same_cell (cell_at x) c) [] (renewed e R (state R s) s c ∷ [])
    unfolding written_held held_by written
    rewrite_old s x c q new = ap₂ (changed e R 1 s) (held_at s x q) (rw (q, new)) ∙ changed_both e R 1 s (cell_at x) c

    -- an inner block stays as it is
    pub rewrite_inner : (s : ℕ) (x : Site) (h : ℕ) → sited (sites_of b) s ≡ at x → x.height ≡ suc h
        → changed e R 1 s (held (cells_of b) s) (written_held e b d s) ≡ []
    unfolding rewritten pick
    rewrite_inner s x h q high =
        rewrite_old s x (cell_at x) q (ap (λ (r : List ℕ). record { height = x.height; items = r }) (rw high)) ∙ rw (same_cell_lem (cell_at x))

    -- and so does any other slot
    pub rewrite_other : (s : ℕ) → sited (sites_of b) s ≡ absent → changed e R 1 s (held (cells_of b) s) (written_held e b d s) ≡ []
    unfolding written_held held_by changed
    rewrite_other s q = rw (held_absent s q, q)
