-- The walk both ways. A walk that goes well found a tree whose cells lie at their slots: each reads as the cell, each below the first is a
-- part, no slot was come to twice, and the flags are those of the tree's slots. The other way round, a tree that has its shape and whose
-- cells lie so is walked well and found as it is. Block by block and row by row, as the walk goes.
use Rattle.std.specs.Prelude.{Err, Ok}
use mathlib.Core.Path.{◌≡◌, refl, ap, ap₂, ◌∙◌, sym}
use mathlib.Core.Bool.{Bool, true, false}
use mathlib.Core.List.{List, [], ◌∷◌, ◌++◌, map}
use Prim.Native.Nat.{ℕ, zero, suc, ◌*◌, ◌≤◌, ◌<◌}
use native.Mathlib.Omega.{arith}
use lib.ListN.{length, get_or, drop, set, length-map, length-set}
use Rattle.meaning.specs.declared.Edition.{Edition}
use Rattle.meaning.specs.declared.Role.{Role}
use Rattle.meaning.specs.declared.Role.TheVariants.{Child}
use Rattle.meaning.specs.Lists.{both, joined}
use Rattle.meaning.specs.Edition.{Proper}
use Rattle.meaning.specs.Bytes.{Cell, block, children_of, state, recorded}
use Rattle.meaning.specs.Tree.{Tree, slot_of, cells}
use Rattle.meaning.specs.Shape.{InRow, ShapedTree}
use Rattle.meaning.specs.Walk.{is_root, link_check, Found, fine, is_empty, visit_row, visit}
use Rattle.laws.proofs.Codec.{items_of, cell_of, item_count}
use Rattle.laws.proofs.Inversions.{sound_passed, passed_linked, linked_passed, visited_fine, fine_and_then}
use Rattle.laws.proofs.Roots.{visit_slot}
use Rattle.laws.proofs.Walked.{leaf_found, inner_found, none_found, row_found, block_room}
use Rattle.laws.proofs.Marks.{visit_link}
use Rattle.laws.proofs.TreeSlots.{slots, slots_leaf, below, own_slots}
use Rattle.laws_sound.proofs.sound.TimesListed.{times_none, by_slot, Each, each_none, each_more, each_first, each_rest, each_append, each_left, each_right}
use Rattle.laws_sound.proofs.sound.TimesListed.{Clear, marked, marked_none, marked_append, marked_cons, marked_length, marked_flag, clear_rest}
use Rattle.laws_sound.proofs.sound.TimesListed.{clear_first, clear_append}
use Rattle.laws_sound.proofs.sound.TimesListed.{clear_left, clear_right, flag_set}
use Rattle.laws.proofs.Every.{Every, every_left, every_right, every_weaker, every_append}
use Rattle.laws_sound.proofs.sound.Cells.{cell_slots, row_slots, slots_row}
use Rattle.laws_sound.proofs.sound.Cells.{tree_slots, row_none, row_first, every_each, Reads, reads_row, reads_sound}

-- a row of trees is its first one and a row of the others
pub row_uncons : {A : Type 0} (on : Bool → A → Type 0) (f : A → ℕ) (edge : Bool) (t : A) (ts : List A) → InRow on edge (t ∷ ts)
    → on (both edge (is_empty (map f ts))) t × InRow on edge ts
unfolding InRow both is_empty
row_uncons on f true t [] r = (r, tt)
row_uncons on f false t [] r = (r, tt)
row_uncons on f true t (x ∷ ts) r = r
row_uncons on f false t (x ∷ ts) r = r

-- slots that are parts
abbrev pub Parts : List ℕ → List ℕ → Type 0
Parts R l = Each (λ s. state R s ≡ 1) l

module _ (e : Edition) (N : ℕ) (P R : List ℕ) where
  -- each slot of cells that lie in the pool is below its end
  pub reads_within : (cs : List (ℕ × Cell)) → Every (Reads e N P R) cs → Each (λ s. s < N) (cell_slots cs)
  reads_within cs f = every_each (λ s. s < N) cs (every_weaker (Reads e N P R) (λ c. c.0 < N) (λ c r. r.within) cs f)

  -- so is each slot of a tree
  pub tree_within : (h : ℕ) (t : Tree h) → Every (Reads e N P R) (cells h t) → Each (λ s. s < N) (slots h t)
  tree_within h t f = rw tree_slots (reads_within (cells h t) f)

  -- what a visit finds of a tree that lies in the pool
  unfoldable pub Finds : ℕ → Type 0
  Finds h = (role : Role) (edge : Bool) (seen : List ℕ) (t : Tree h) → link_check N R seen role (slot_of h t) ≡ Ok tt
      → ShapedTree e h (is_root role) edge t → Every (Reads e N P R) (cells h t) → Parts R (drop 1 (slots h t)) → Clear seen (slots h t)
      → visit e N P R h role edge seen (slot_of h t) ≡ fine t (marked seen (slots h t))

  -- a row of trees that lies in the pool is found as it is, if each tree is
  rows_found_so : (h : ℕ) → Finds h → (q : ℕ) (edge : Bool) (seen : List ℕ) (ts : List (Tree h)) → InRow (ShapedTree e h false) edge ts
      → Every (Reads e N P R) (joined (map (cells h) ts)) → Parts R (row_slots h ts) → Clear seen (row_slots h ts)
      → visit_row e N P R (visit e N P R h) q edge (map (slot_of h) ts) seen ≡ fine ts (marked seen (row_slots h ts))
  unfolding visit_row joined is_root Finds below
  rows_found_so h each q edge seen [] shape reads parts clear = rw (row_none h, marked_none)
  rows_found_so h each q edge seen (t ∷ ts) shape reads parts clear =
      let s = row_uncons (ShapedTree e h false) (slot_of h) edge t ts shape in
      let Reads-first = every_left (Reads e N P R) (cells h t) (joined (map (cells h) ts)) reads in
      let reads-rest = every_right (Reads e N P R) (cells h t) (joined (map (cells h) ts)) reads in
      let all = row_first h t ts in
      let parts' : Parts R (slots h t ++ row_slots h ts) = rw (← all) parts in
      let clear' : Clear seen (slots h t ++ row_slots h ts) = rw (← all) clear in
      let mine = each_left (λ s. state R s ≡ 1) (slots h t) (row_slots h ts) parts' in
      let own : slots h t ≡ slot_of h t ∷ drop 1 (slots h t) = own_slots h t in
      let mine' : Parts R (slot_of h t ∷ drop 1 (slots h t)) = rw (← own) mine in
      let free : Clear seen (slot_of h t ∷ drop 1 (slots h t)) = rw (← own) (clear_left seen (slots h t) (row_slots h ts) clear') in
      let low : Each (λ s. s < N) (slot_of h t ∷ drop 1 (slots h t)) = rw (← own) (tree_within h t Reads-first) in
      let link = linked_passed N R seen q (slot_of h t) (record {
        within = each_first (λ s. s < N) (slot_of h t) (drop 1 (slots h t)) low;
        part = each_first (λ s. state R s ≡ 1) (slot_of h t) (drop 1 (slots h t)) mine';
        unseen = clear_first seen (slot_of h t) (drop 1 (slots h t)) free;
      }) in
      let one = each (Child q) (both edge (is_empty (map (slot_of h) ts))) seen t link s.0 Reads-first
      (each_rest (λ s. state R s ≡ 1) (slot_of h t) (drop 1 (slots h t)) mine') (clear_left seen (slots h t) (row_slots h ts) clear') in
      let more = rows_found_so h each q edge (marked seen (slots h t)) ts s.1 reads-rest
      (each_right (λ s. state R s ≡ 1) (slots h t) (row_slots h ts) parts') (clear_right seen (slots h t) (row_slots h ts) clear') in
      fine_and_then _ _ t (marked seen (slots h t)) one ∙ fine_and_then _ _ ts (marked (marked seen (slots h t)) (row_slots h ts)) more
      ∙ ap (fine (t ∷ ts)) (sym (marked_append seen (slots h t) (row_slots h ts)) ∙ ap (marked seen) (sym all))

  -- a tree that lies in the pool is found as it is
  pub found_so : (h : ℕ) → Finds h
  unfolding visit ShapedTree slot_of cells items_of Finds
  found_so zero role edge seen t link shape reads parts clear =
      let s : ℕ = t.0 in
      let check = sound_passed e zero (is_root role) edge (recorded R s) s (block e P s)
      (reads_sound e N P R s zero t.1 (is_root role) edge reads.0 shape.0 shape.1) in
      let give : List ℕ → List ℕ → Found (Tree zero) = λ d l. fine (s, d) l in
      fine_and_then _ _ (block e P s) (set seen s 1) (visited_fine e N P R zero role edge seen s link check)
      ∙ ap₂ give (reads_row e N P R s zero t.1 reads.0)
      (sym (ap (marked seen) (slots_leaf t) ∙ marked_cons seen s [] ∙ marked_none (set seen s 1)))
  found_so (suc h) role edge seen t link shape reads parts clear =
      let s : ℕ = t.0 in
      let cs : List ℕ = map (slot_of h) t.1 in
      let n : length cs ≡ length t.1 = length-map t.1 (slot_of h) in
      let check = sound_passed e (suc h) (is_root role) edge (recorded R s) s (block e P s)
      (reads_sound e N P R s (suc h) cs (is_root role) edge reads.0 (omega (arith, shape.0)) (omega (arith, shape.1))) in
      let all = slots_row h t in
      let parts' : Parts R (row_slots h t.1) = rw all at parts in
      let clear' : Clear seen (s ∷ row_slots h t.1) = rw (← all) clear in
      let below = rows_found_so h (found_so h) s edge (set seen s 1) t.1 shape.2 reads.1 parts'
      (clear_rest seen s (row_slots h t.1) clear') in
      fine_and_then _ _ (block e P s) (set seen s 1) (visited_fine e N P R (suc h) role edge seen s link check)
      ∙ fine_and_then _ _ t.1 (marked (set seen s 1) (row_slots h t.1))
      (ap (λ (l : List ℕ). visit_row e N P R (visit e N P R h) s edge l (set seen s 1)) (reads_row e N P R s (suc h) cs reads.0) ∙ below)
      ∙ ap (fine (s, t.1)) (sym (ap (marked seen) all ∙ marked_cons seen s (row_slots h t.1)))

-- what a visit that went well found: cells that lie at their slots, parts below the first, no slot twice, the flags of its slots
pub record TreeFound (e : Edition) (N : ℕ) (P R : List ℕ) (h : ℕ) (seen : List ℕ) (t : Tree h) (seen' : List ℕ) : Type 0 where
  pub reads : Every (Reads e N P R) (cells h t)
  pub parts : Parts R (drop 1 (slots h t))
  pub clear : Clear seen (slots h t)
  pub flags : seen' ≡ marked seen (slots h t)

-- and so of a row: all of it parts
pub record RowRead (e : Edition) (N : ℕ) (P R : List ℕ) (h : ℕ) (seen cs : List ℕ) (ts : List (Tree h)) (seen' : List ℕ) : Type 0 where
  pub own : map (slot_of h) ts ≡ cs
  pub reads : Every (Reads e N P R) (joined (map (cells h) ts))
  pub parts : Parts R (row_slots h ts)
  pub clear : Clear seen (row_slots h ts)
  pub flags : seen' ≡ marked seen (row_slots h ts)

-- flags that say yes or no
abbrev pub Flags : List ℕ → Type 0
Flags seen = (x : ℕ) → get_or seen x 0 ≤ 1

-- one slot that has no flag is clear
clear_one : (seen : List ℕ) (s : ℕ) → s < length seen → Flags seen → get_or seen s 0 ≡ 0 → Clear seen (s ∷ [])
clear_one seen s low flags new x =
    by_slot x s
    (λ q k. omega (arith, ap (λ (y : ℕ). get_or seen y 0) q))
    (λ n k. omega (arith, flags x))

module _ (e : Edition) (p : Proper e) (N : ℕ) (P R : List ℕ) (whole : length P ≡ e.size * N) where
  -- what a visit of a slot that has no flag tells, if it went well
  unfoldable pub Tells : ℕ → Type 0
  Tells h = (role : Role) (edge : Bool) (seen : List ℕ) (s : ℕ) (t : Tree h) (seen' : List ℕ) → s < N → length seen ≡ N → Flags seen
      → get_or seen s 0 ≡ 0 → visit e N P R h role edge seen s ≡ fine t seen' → TreeFound e N P R h seen t seen'

  -- after slots that were clear, there are as many flags, and each says yes or no
  flags_after : (seen l seen' : List ℕ) → length seen ≡ N → Each (λ s. s < N) l → Clear seen l → seen' ≡ marked seen l
      → (length seen' ≡ N) × Flags seen'
  flags_after seen l seen' all low clear q =
      let low' : Each (λ s. s < length seen) l = λ s h. rw all (low s h) in
      rw q (marked_length seen l ∙ all, λ x. omega (arith, clear x, marked_flag seen l low' clear x))

  -- a row's visit tells it of all its trees, if each child's does of its own
  rows_read : (h : ℕ) → Tells h → (q : ℕ) (edge : Bool) (cs seen : List ℕ) (ts : List (Tree h)) (seen' : List ℕ) → length seen ≡ N → Flags seen
      → visit_row e N P R (visit e N P R h) q edge cs seen ≡ fine ts seen' → RowRead e N P R h seen cs ts seen'
  unfolding joined Tells below
  rows_read h each q edge [] seen ts seen' all flags v =
      let n = none_found e N P R h q edge seen v in
      rw (← n.0, ← n.1) (record {
        own = refl;
        reads = tt;
        parts = rw (row_none h) (each_none (λ s. state R s ≡ 1));
        clear = rw (row_none h) (λ x. omega (arith, flags x, times_none x));
        flags = rw (row_none h, marked_none);
      })
  rows_read h each q edge (c ∷ cs) seen ts seen' all flags v =
      let f = row_found e N P R h q edge c cs seen v in
      let t : Tree h = f.first in
      let edge' : Bool = both edge (is_empty cs) in
      let link = passed_linked N R seen q c (visit_link e N P R h (Child q) edge' seen c f.walked) in
      let one = each (Child q) edge' seen c t f.mid link.within all flags link.unseen f.walked in
      let at = visit_slot e N P R h (Child q) edge' seen c f.walked in
      let low = tree_within e N P R h t one.reads in
      let next = flags_after seen (slots h t) f.mid all low one.clear one.flags in
      let more = rows_read h each q edge cs f.mid f.rest seen' next.0 next.1 f.others in
      let low' : Each (λ s. s < length seen) (slots h t) = λ s h. rw all (low s h) in
      let mine : Parts R (slots h t) = rw (own_slots h t)
      (each_more (λ s. state R s ≡ 1) (slot_of h t) (drop 1 (slots h t)) (rw at link.part) one.parts) in
      rw (← f.trees) (record {
        own = ap₂ ◌∷◌ at more.own;
        reads = every_append (Reads e N P R) (cells h t) (joined (map (cells h) f.rest)) one.reads more.reads;
        parts = rw (row_first h t f.rest) (each_append (λ s. state R s ≡ 1) (slots h t) (row_slots h f.rest) mine more.parts);
        clear = rw (row_first h t f.rest)
            (clear_append seen (slots h t) (row_slots h f.rest) low' one.clear (rw (← one.flags) more.clear));
        flags = more.flags ∙ ap (λ (l : List ℕ). marked l (row_slots h f.rest)) one.flags
            ∙ sym (marked_append seen (slots h t) (row_slots h f.rest)) ∙ ap (marked seen) (sym (row_first h t f.rest));
      })

  -- so does every visit
  pub tree_read : (h : ℕ) → Tells h
  unfolding cells items_of cell_of Tells marked
  tree_read zero role edge seen s t seen' low all flags new v =
      let f = leaf_found e N P R role edge seen s v in
      let b : List ℕ = block e P s in
      let n = item_count b zero (block_room e p N P whole zero s low f.sound.most) in
      rw (← f.tree, ← f.flags) (record {
        reads = (
          record {
            within = low;
            mark = f.sound.mark;
            own = f.sound.own;
            version = f.sound.version;
            height = f.sound.height;
            count = sym n;
            rest = f.sound.rest;
            cell = refl;
          },
          tt,
        );
        parts = rw slots_leaf (each_none (λ s. state R s ≡ 1));
        clear = rw slots_leaf (clear_one seen s (omega arith) flags new);
        flags = rw slots_leaf;
      })
  tree_read (suc h) role edge seen s t seen' low all flags new v =
      let f = inner_found e N P R h role edge seen s v in
      let b : List ℕ = block e P s in
      let n = item_count b (suc h) (block_room e p N P whole (suc h) s low f.sound.most) in
      let one = clear_one seen s (omega arith) flags new in
      let low' : Each (λ x. x < length seen) (s ∷ []) = each_more (λ x. x < length seen) s [] (omega arith) (each_none (λ x. x < length seen)) in
      let flags' : Flags (set seen s 1) = λ x. omega (arith, flag_set seen s x (omega arith) new, one x) in
      let r = rows_read h (tree_read h) s edge (children_of b) (set seen s 1) f.below seen' (length-set seen s 1 ∙ all) flags' f.walked in
      rw (← f.tree) (record {
        reads = (
          record {
            within = low;
            mark = f.sound.mark;
            own = f.sound.own;
            version = f.sound.version;
            height = f.sound.height;
            count = sym (ap length r.own ∙ n);
            rest = f.sound.rest;
            cell = ap (λ (l : List ℕ). record { height = suc h; items = l }) (sym r.own);
          },
          r.reads,
        );
        parts = rw slots_row r.parts;
        clear = rw slots_row (clear_append seen (s ∷ []) (row_slots h f.below) low' one r.clear);
        flags = r.flags ∙ sym (marked_cons seen s (row_slots h f.below)) ∙ ap (marked seen) (sym (slots_row h (s, f.below)));
      })
