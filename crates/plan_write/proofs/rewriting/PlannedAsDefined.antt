-- What is known of the blob says all that write needs: its leaves' blocks pass checks 2 and 3, and the plan of each slot is the definition's change.
use mathlib.Core.Path.{◌≡◌, refl, ap, ◌∙◌, sym, subst}
use mathlib.Core.Bool.{true}
use mathlib.Core.List.{List, [], ◌∷◌}
use Prim.Native.Nat.{ℕ, suc, ◌+◌, ◌-◌, ◌*◌, ◌≤◌, ◌<◌}
use native.Mathlib.Omega.{arith}
use borrow.Author.Tests.{eqb-true, eqb-false}
use lib.Dec.{eqb}
use lib.ListN.{length, get_or}
use Rattle.meaning.specs.declared.Edition.{Edition}
use Rattle.meaning.specs.Lists.{pick, part, pasted}
use Rattle.meaning.specs.Edition.{Proper}
use Rattle.meaning.specs.Bytes.{Cell, block, count_of, data_of, recorded}
use Rattle.meaning.specs.Shape.{least_count, most_count}
use Rattle.meaning.specs.Tree.{Blob, content_of, cells_of, length_of, just, held}
use Rattle.meaning.specs.Resize.{refilled}
use Rattle.meaning.specs.Change.{changed}
use Rattle.meaning.specs.Calls.{become}
use Rattle.laws.proofs.Numbers.{part_length}
use Rattle.laws.proofs.Codec.{items_of}
use Rattle.laws.proofs.Inversions.{by_test, Sound}
use Rattle.laws_resize.specs.growth.Sites.{Site, sites_of, at, sited}
use Rattle.laws_resize.specs.growth.Cuts.{rewritten}
use Rattle.laws_resize.specs.growth.HeldAfter.{written_held}
use Rattle.laws_resize.proofs.growth.ResizedBySlot.{write_changes}
use Rattle.laws_resize.proofs.growth.Changes.{held_at, rewrite_old, rewrite_inner, rewrite_other}
use Rattle.laws.proofs.Every.{Every, every_mem}
use Rattle.laws_sound.proofs.sound.Cells.{Reads, reads_sound}
use Rattle.laws_sound.proofs.sound.Blobs.{Lies}
use Rattle.laws_sound.proofs.sound.Pools.{pool_found}
use Rattle.check_blob.proofs.visit.VisitAsDefined.{slot_fits}
use Rattle.check_survey.specs.sites.Spelt.{blob_at, site_at}
use Rattle.check_survey.specs.sites.Known.{Known}
use Rattle.check_survey.proofs.worn.WornByHeights.{unworn_slot}
use Rattle.plan_slot.specs.change.Turns.{over}
use Rattle.plan_slot.proofs.change.SlotLoop.{changes_over, over_same}
use Rattle.plan_write.specs.stretch.{touched_by, stretched, leaf_cell, write_plan, Counted}
use Rattle.plan_write.proofs.stretch.Stretches.{touched_part}
use Rattle.plan_write.specs.rewriting.{Unworn}
use Rattle.plan_write.proofs.rewriting.WrittenAsItIs.{leaf_part, leaf_reach}
use Rattle.plan_write.proofs.rewriting.LeafPlanned.{planned_leaf, planned_other}

-- a claim of each cell, of the one that a slot holds
every_held : (Q : ℕ × Cell → Type 0) (cs : List (ℕ × Cell)) → Every Q cs → (s : ℕ) (c : Cell) → held cs s ≡ just c → Q (s, c)
unfolding held pick
every_held Q [] h s c q = absurd (let z : ◌≡◌ {A = ℕ} 0 1 = cc in omega arith)
every_held Q (x ∷ cs) h s c q =
    by_test (eqb x.0 s)
    (λ t.
    let r : x.1 ≡ c = cc (rw t at q) in
    let o : x.0 ≡ s = eqb-true x.0 s t in
    subst Q (λ i. (o i, r i)) h.0)
    (λ t. every_held Q cs h.1 s c (rw t at q))

-- a blob of which all this is known
module _ (e : Edition) (p : Proper e) (n : ℕ) (P R : List ℕ) (r len k : ℕ) (row hs fs : List ℕ) (g : Known e n P R r len k row hs fs)
    (whole : length P ≡ e.size * n) where
  abbrev b : Blob
  b = blob_at e P r

  lies : Lies e n P R b
  lies = every_mem (Lies e n P R) (pool_found e p n P R whole g.passed).lie g.among

  -- a slot with 1 in the row of heights is a leaf
  module _ (s : ℕ) (leaf : get_or hs s 0 ≡ 1) where
    abbrev site : Site
    site = record { height = 0; first = get_or fs s 0; items = data_of (block e P s) }

    here : sited (sites_of b) s ≡ at site
    unfolding site_at items_of
    here = g.sites.some s (omega arith) ∙ rw leaf

    within : s < n
    within = (g.fit s site here).0.within

    not_full : count_of (block e P s) ≤ e.leaf
    unfolding most_count
    not_full = (g.fit s site here).0.most

    data_count : length (data_of (block e P s)) ≡ count_of (block e P s)
    data_count = (g.fit s site here).2

    room : 16 + count_of (block e P s) ≤ length (block e P s)
    unfolding block
    room =
        let lb : length (part (e.size * s) e.size P) ≡ e.size = part_length (e.size * s) e.size P (slot_fits e.size n s P whole within) in
        omega (arith, not_full, p.fits)

    sound : Sound e 0 true true (recorded R s) s (block e P s)
    unfolding least_count most_count pick
    sound =
        reads_sound e n P R s 0 (data_of (block e P s)) true true
        (every_held (Reads e n P R) (cells_of b) lies.reads s (leaf_cell (data_of (block e P s))) (held_at e p R b g.standing s site here))
        (omega arith) (omega (arith, not_full, data_count))

  -- a leaf is not too full
  pub counted_known : (s : ℕ) → Counted e P hs s
  counted_known s = record { so = λ q. not_full s q }

  -- each leaf may be written, if the blob is not worn
  pub leaves_known : Unworn e n P R hs fs
  leaves_known = record {
    heights = g.heights;
    firsts = g.firsts;
    each = λ w s l. record {
      so = λ q. record {
        sound = sound s q;
        young = unworn_slot e n P R r len k row hs fs g w s l (omega arith);
      };
    };
  }

  -- inside the blob's length
  module _ (offset : ℕ) (d : List ℕ) (fits : offset + length d ≤ length_of b) where
    abbrev new : List ℕ
    new = pasted offset d (content_of b)

    -- a leaf holds its stretch of the new content
    leaf_row : (s : ℕ) → get_or hs s 0 ≡ 1
        → stretched (touched_by (e.leaf * get_or fs s 0) (count_of (block e P s)) offset (length d)) d (data_of (block e P s))
        ≡ part (e.leaf * get_or fs s 0) (length (data_of (block e P s))) new
    unfolding length_of
    leaf_row s leaf =
        let x = site s leaf in
        let base : ℕ = e.leaf * get_or fs s 0 in
        let own = leaf_part e p n P R b g.standing s x (here s leaf) refl in
        let reach = leaf_reach e p n P R b g.standing s x (here s leaf) refl in
        ap (λ (c : ℕ). stretched (touched_by base c offset (length d)) d (data_of (block e P s))) (sym (data_count s leaf))
        ∙ ap (stretched (touched_by base (length (data_of (block e P s))) offset (length d)) d) own
        ∙ sym (touched_part base (length (data_of (block e P s))) offset d (content_of b) reach fits)

    leaf_same : (s : ℕ) → get_or hs s 0 ≡ 1 → write_plan e P R hs fs d offset s ≡ changed e R 1 s (held (cells_of b) s) (written_held e b new s)
    unfolding rewritten
    leaf_same s leaf =
        let row' = stretched (touched_by (e.leaf * get_or fs s 0) (count_of (block e P s)) offset (length d)) d (data_of (block e P s)) in
        planned_leaf e P R hs fs d offset s leaf (room s leaf)
        ∙ sym (rewrite_old e p R b g.standing new s (site s leaf) (leaf_cell row') (here s leaf) (ap leaf_cell (leaf_row s leaf)))

    -- the plan of any slot is its change
    pub slot_same : (s : ℕ) → write_plan e P R hs fs d offset s ≡ changed e R 1 s (held (cells_of b) s) (written_held e b new s)
    unfolding site_at
    slot_same s =
        by_test (eqb (get_or hs s 0) 0)
        (λ t.
        let z = eqb-true (get_or hs s 0) 0 t in
        planned_other e P R hs fs d offset s (λ q. absurd (omega arith)) ∙ sym (rewrite_other e p R b g.standing new s (g.sites.none s z)))
        (λ t.
        by_test (eqb (get_or hs s 0) 1)
        (λ u. leaf_same s (eqb-true (get_or hs s 0) 1 u))
        (λ u.
        let o = eqb-false (get_or hs s 0) 0 t in
        let v = eqb-false (get_or hs s 0) 1 u in
        let high : get_or hs s 0 - 1 ≡ suc (get_or hs s 0 - 2) = omega arith in
        planned_other e P R hs fs d offset s v
        ∙ sym (rewrite_inner e p R b g.standing new s _ (get_or hs s 0 - 2) (g.sites.some s o) high)))

    -- so are the changes of all slots
    pub all_same : become e n P R 1 (cells_of b) (cells_of (refilled new b)) ≡ over (write_plan e P R hs fs d offset) 0 n
    all_same =
        write_changes e p n P R b g.standing new
        ∙ changes_over e R 1 (held (cells_of b)) (written_held e b new) 0 n
        ∙ sym (over_same (write_plan e P R hs fs d offset) (λ s. changed e R 1 s (held (cells_of b) s) (written_held e b new s)) 0 n slot_same)
