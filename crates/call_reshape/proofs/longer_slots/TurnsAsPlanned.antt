-- The loop over the slots: a slot that is still ahead is as it was, so what is planned of it is what was planned at the start, and one more usable
-- slot lies below the next one if this one is usable.
use mathlib.Core.Path.{◌≡◌, refl, ap, ◌∙◌, sym}
use mathlib.Core.Bool.{Bool}
use mathlib.Core.List.{List}
use mathlib.Core.Logic.{inl}
use Prim.Native.Nat.{ℕ, ◌+◌, ◌*◌, ◌≤◌, ◌<◌}
use native.Mathlib.Nat.{zero-add}
use native.Mathlib.Omega.{arith}
use lib.ListN.{length, length-append}
use Rattle.meaning.specs.declared.Edition.{Edition}
use Rattle.meaning.specs.Lists.{pick, range, filter}
use Rattle.meaning.specs.Bytes.{state, recorded, usable_slot}
use Rattle.meaning.specs.Change.{Change, puts, renewed}
use Rattle.laws_resize.specs.growth.HeldAfter.{usable_below}
use Rattle.check_blob.proofs.visit.VisitAsDefined.{slot_fits}
use Rattle.check_gate.specs.Gate.{Whole}
use Rattle.plan_slot.specs.change.Places.{Places}
use Rattle.plan_slot.specs.change.Turns.{Turning}
use Rattle.plan_slot.proofs.change.SlotLoop.{block_left, record_left, turning_on}
use Rattle.plan_slot.specs.renewal.{renewal}
use Rattle.laws.proofs.Puts.{Single, pick_single, renewed_single}
use Rattle.laws.proofs.Ranges.{range_append, filter_append}
use Rattle.laws.proofs.Inversions.{by_test}
use Rattle.plan_slot.proofs.renewal.DrawnIsChanged.{renewal_single}
use Rattle.plan_longer.specs.declared.fresh.Growth.{Growth}
use Rattle.plan_longer.specs.declared.towers.Tower.{Tower}
use Rattle.plan_longer.specs.enlarged.{old_end}
use Rattle.plan_longer.specs.taken.{free_plan}
use Rattle.plan_longer.specs.Plans.{Here, AllHere, grow_plan, grow_plans}

-- one slot: where it is stored
pub here_places : (e : Edition) (g : Growth) (P R hs fs : List ℕ) (root i : ℕ) → Here e g P R hs fs root i → (scratch : List ℕ)
    → length scratch ≡ e.size → Places e P R scratch i
here_places e g P R hs fs root i here scratch l = record { block = here.spot.place; line = here.line; scratch = l }

-- and what is stored
pub planned_puts : (w : ℕ) (f : Change → List ℕ) (cs ds : List Change) (l l' : List ℕ) → cs ≡ ds → l' ≡ puts w f cs l → l' ≡ puts w f ds l
planned_puts w f cs ds l l' q p = p ∙ ap (λ (c : List Change). puts w f c l) q

-- one more usable slot, or not
one_kept : (R : List ℕ) (i : ℕ) → length (filter (usable_slot R) (range i 1)) ≡ pick (usable_slot R i) 1 0
unfolding filter range pick
one_kept R i = by_test (usable_slot R i) (λ t. rw t) (λ t. rw t)

below_next : (R : List ℕ) (i : ℕ) → usable_below R (i + 1) ≡ usable_below R i + pick (usable_slot R i) 1 0
unfolding usable_below
below_next R i =
    ap (λ (l : List ℕ). length (filter (usable_slot R) l)) (range_append 0 i 1)
    ∙ ap length (filter_append (usable_slot R) (range 0 i) (range (0 + i) 1))
    ∙ length-append (filter (usable_slot R) (range 0 i)) (filter (usable_slot R) (range (0 + i) 1))
    ∙ rw (zero-add i, one_kept R i)

-- at the start none lies below
pub below_start : (R : List ℕ) → 0 ≡ usable_below R 0
unfolding usable_below range filter
below_start R = refl

pub below_more : (R : List ℕ) (i below : ℕ) → below ≡ usable_below R i → (a : Bool) → a ≡ usable_slot R i → (m : ℕ) → m ≡ pick a 1 0
    → below + m ≡ usable_below R (i + 1)
below_more R i below eb a ea m em = rw (eb, em, ea) (sym (below_next R i))

module _ (e : Edition) (g : Growth) (t : Tower) (P₀ R₀ free hs fs kept : List ℕ) (root : ℕ) where
  abbrev plan : ℕ → List Change
  plan = grow_plans e g t P₀ R₀ free hs fs kept root

  plan_single : (s : ℕ) → Single e s (plan s)
  unfolding grow_plans grow_plan free_plan
  plan_single s =
      pick_single e s _ _ _ (renewal_single e R₀ s kept _)
      (pick_single e s _ _ _ (pick_single e s _ _ _ (renewed_single e R₀ 1 s _) (inl refl)) (renewal_single e R₀ s _ _))

  -- before turn i
  module _ (n i : ℕ) (P R : List ℕ) (u : Turning e n (grow_plans e g t P₀ R₀ free hs fs kept root) P₀ R₀ i P R) where
    -- the slot's record and block are as they were
    usable_as : usable_slot R i ≡ usable_slot R₀ i
    unfolding usable_slot state recorded
    usable_as = rw (record_left e n plan P₀ R₀ i P R u)

    version_as : recorded R i ≡ recorded R₀ i
    unfolding recorded
    version_as = rw (record_left e n plan P₀ R₀ i P R u)

    planned_as : (below : ℕ) → grow_plan e g t P R free hs fs kept root below i ≡ grow_plan e g t P₀ R₀ free hs fs kept root below i
    unfolding grow_plan free_plan old_end renewal renewed usable_slot state recorded
    planned_as below = rw (record_left e n plan P₀ R₀ i P R u, block_left e n plan P₀ R₀ i P R u)

    -- so it can be planned
    pub here_now : AllHere e g n P₀ R₀ hs fs root → i < n → Here e g P R hs fs root i
    here_now all l =
        let h = all.each i l in
        let s = h.spot in
        let b = block_left e n plan P₀ R₀ i P R u in
        record {
          spot = record {
            place = omega (arith, s.place, u.pool_long);
            heights = s.heights;
            firsts = s.firsts;
            low = s.low;
            most = λ some. rw b (s.most some);
            share = λ some low. rw b (s.share some low);
          };
          line = omega (arith, h.line, u.records_long);
          small = h.small;
          version = λ some. omega (arith, h.version some, version_as);
          root_version = λ q. omega (arith, h.root_version q, version_as);
        }

    pub line_now : Whole e n P₀ R₀ → i < n → 12 * i + 12 ≤ length R
    line_now w l = slot_fits 12 n i R (u.records_long ∙ w.records) l

    -- and the next one
    pub grow_turn : Whole e n P₀ R₀ → i < n → (below : ℕ) → below ≡ usable_below R₀ i → (P' R' : List ℕ)
        → P' ≡ puts e.size (λ c. c.block) (grow_plan e g t P R free hs fs kept root below i) P
        → R' ≡ puts 12 (λ c. c.line) (grow_plan e g t P R free hs fs kept root below i) R
        → Turning e n (grow_plans e g t P₀ R₀ free hs fs kept root) P₀ R₀ (i + 1) P' R'
    unfolding grow_plans
    grow_turn w l below eb P' R' ep er =
        let q = planned_as below ∙ ap (λ (m : ℕ). grow_plan e g t P₀ R₀ free hs fs kept root m i) eb in
        turning_on e n plan P₀ R₀ i P R u l w.pool w.records (plan_single i) P' R'
        (planned_puts e.size (λ c. c.block) _ _ P P' q ep) (planned_puts 12 (λ c. c.line) _ _ R R' q er)

    pub below_turn : (below : ℕ) → below ≡ usable_below R₀ i → (a : Bool) → a ≡ usable_slot R i → (m : ℕ) → m ≡ pick a 1 0
        → below + m ≡ usable_below R₀ (i + 1)
    below_turn below eb a ea m em = below_more R₀ i below eb a (ea ∙ usable_as) m em
