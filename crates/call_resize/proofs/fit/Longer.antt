-- A blob that gets no shorter: what the code below asks for, and that what it does is the definition's changes.
use mathlib.Core.Path.{◌≡◌, ap, ◌∙◌}
use mathlib.Core.List.{List}
use Prim.Native.Nat.{ℕ, ◌+◌, ◌-◌, ◌*◌, ◌^◌, ◌≤◌, ◌<◌}
use native.Mathlib.Omega.{arith}
use lib.ListN.{length}
use Rattle.meaning.specs.declared.Edition.{Edition}
use Rattle.meaning.specs.Edition.{Proper}
use Rattle.meaning.specs.Bytes.{block, height_of}
use Rattle.meaning.specs.Shape.{height_for}
use Rattle.meaning.specs.Tree.{Blob}
use Rattle.meaning.specs.Change.{puts}
use Rattle.meaning.specs.Calls.{usable}
use Rattle.laws.proofs.Totals.{total_le, total_ge}
use Rattle.laws.proofs.Ranges.{usable_few}
use Rattle.laws_resize.specs.growth.Cuts.{height_of_length}
use Rattle.laws_resize.specs.growth.HeldAfter.{taken}
use Rattle.laws_resize.proofs.rising.Bounds.{longer_leaves}
use Rattle.check_gate.specs.Gate.{Whole}
use Rattle.check_blob.proofs.visit.VisitAsDefined.{slot_fits}
use Rattle.plan_slot.specs.change.Turns.{over}
use Rattle.base_slot.proofs.usable.UsableInOrder.{usable_all}
use Rattle.plan_longer.specs.declared.fresh.Growth.{Growth}
use Rattle.plan_longer.specs.fresh.{Grows}
use Rattle.plan_longer.specs.declared.towers.Tower.{Tower}
use Rattle.plan_longer.specs.towers.{Towers, RootBlock}
use Rattle.plan_longer.specs.Plans.{Numbers, AllHere, grow_plans}
use Rattle.plan_longer.proofs.ReadyToGrow.{root_height, known_all_here, known_towers, known_root, known_grows}
use Rattle.plan_longer.proofs.PlannedAsDefined.{grow_changes}
use Rattle.check_survey.specs.sites.Spelt.{blob_at}
use Rattle.call_resize.specs.fit.Measures.{Measures}
use Rattle.call_resize.specs.fit.Found.{resized_to, Roomy, Longer}

-- a height that was read
pub measured : (e : Edition) (P : List ℕ) (r : ℕ) (root : List ℕ) → root ≡ block e P r → (h : ℕ) → h ≡ height_of root → (leaves want : ℕ) (t : Tower)
    → Measures e h leaves want t → Measures e (height_of (block e P r)) leaves want t
measured e P r root er h eh leaves want t m = rw (← er, ← eh) m

module _ (e : Edition) (p : Proper e) (n : ℕ) (P R : List ℕ) (r leaves : ℕ) (hs fs free : List ℕ) (len want : ℕ)
    (o : Longer e n P R r leaves hs fs free len want) where
  abbrev b : Blob
  b = blob_at e P r

  abbrev bytes : ℕ
  bytes = o.bytes

  abbrev g : Roomy e n P R r bytes leaves hs fs free len want
  g = o.roomy

  abbrev long : bytes ≤ len
  long = o.long

  -- the root lies in the pool, which is whole
  pub long_whole : Whole e n P R
  long_whole = g.whole

  pub long_within : r < n
  long_within = g.found.known.within

  pub long_place : e.size * r + e.size ≤ length P
  long_place = slot_fits e.size n r P long_whole.pool long_within

  -- it has no more leaves than it will have
  pub long_more : leaves ≤ want
  long_more =
      omega (
        arith,
        g.found.known.leaves,
        g.wanted,
        longer_leaves e p b g.found.known.standing.shaped len (omega (arith, g.found.known.bytes)),
      )

  -- which are few
  pub long_few : want ≤ 2 ^ 40
  long_few =
      omega (
        arith,
        g.room,
        total_ge e.fan want p.two,
        total_le e.fan leaves p.two,
        g.found.known.few,
        g.whole.few,
        p.small,
        ap length (g.list ∙ usable_all e n P R),
        usable_few e n P R,
      )

  -- the numbers that were worked out are the blob's
  module _ (t : Tower) (m : Measures e (height_of (block e P r)) leaves want t) where
    abbrev grown : Growth
    grown = record { length = len; leaves = leaves; more = want - leaves }

    numbers : Numbers e b grown t
    unfolding height_of_length taken
    numbers = record {
      leaves = g.found.known.leaves;
      more = ap (λ (w : ℕ). w - leaves) g.wanted;
      height = m.same ∙ root_height e p n P R r bytes leaves g.found.row hs fs g.found.known g.whole;
      top = m.top ∙ ap (height_for e.fan) g.wanted;
      blocks = m.blocks;
      taken = m.taken ∙ rw (g.wanted, g.found.known.leaves);
    }

    -- usable slots are enough
    enough : t.taken ≤ length (usable e n P R)
    enough = omega (arith, m.taken, g.room, ap length (g.list ∙ usable_all e n P R))

    pub long_grows : Grows e grown
    long_grows = known_grows e p n P R r bytes leaves g.found.row hs fs g.found.known g.whole grown t numbers long enough

    pub long_towers : Towers e grown t
    long_towers = known_towers e p n P R r bytes leaves g.found.row hs fs g.found.known g.whole grown t numbers long

    pub long_root : RootBlock e grown t (block e P r)
    long_root = known_root e p n P R r bytes leaves g.found.row hs fs g.found.known g.whole grown t numbers long

    pub long_here : AllHere e grown n P R hs fs r
    long_here = known_all_here e p n P R r bytes leaves g.found.row hs fs g.found.known g.whole grown t numbers long g.fresh

    -- what is stored is the definition's changes
    changes : resized_to e n P R r len ≡ over (grow_plans e grown t P R free hs fs (block e P r) r) 0 n
    unfolding resized_to
    changes =
        grow_changes e p n P R r bytes leaves g.found.row hs fs g.found.known g.whole grown t numbers long free
        (g.list ∙ usable_all e n P R) (omega (arith, m.taken, g.room))

    pub long_pool : (P' : List ℕ) → P' ≡ puts e.size (λ c. c.block) (over (grow_plans e grown t P R free hs fs (block e P r) r) 0 n) P
        → P' ≡ puts e.size (λ c. c.block) (resized_to e n P R r len) P
    long_pool P' q = q ∙ rw (← changes)

    pub long_records : (R' : List ℕ) → R' ≡ puts 12 (λ c. c.line) (over (grow_plans e grown t P R free hs fs (block e P r) r) 0 n) R
        → R' ≡ puts 12 (λ c. c.line) (resized_to e n P R r len) R
    long_records R' q = q ∙ rw (← changes)
