-- The loops over the slots: a slot's turn is planned from pool and records as they were, since from slot i on they still are.
use mathlib.Core.Path.{◌≡◌, refl, ◌∙◌}
use mathlib.Core.Logic.{inl}
use mathlib.Core.List.{List}
use Prim.Native.Nat.{ℕ, ◌+◌, ◌^◌, ◌≤◌, ◌<◌}
use native.Mathlib.Omega.{arith}
use lib.ListN.{length, get_or}
use Rattle.meaning.specs.declared.Edition.{Edition}
use Rattle.meaning.specs.Edition.{Proper}
use Rattle.meaning.specs.Bytes.{block, state, recorded, record_at, last_version}
use Rattle.meaning.specs.Change.{Change, puts, freed, renewed}
use Rattle.check_blob.proofs.visit.VisitAsDefined.{slot_fits}
use Rattle.check_gate.specs.Gate.{Whole}
use Rattle.plan_slot.specs.declared.turn.Turn.{Turn}
use Rattle.plan_slot.specs.turn.{turned, Rises}
use Rattle.plan_slot.specs.change.Places.{Places}
use Rattle.plan_slot.specs.change.Turns.{Turning}
use Rattle.plan_slot.proofs.change.SlotLoop.{block_left, record_left, turning_on}
use Rattle.plan_slot.specs.renewal.{renewal}
use Rattle.laws.proofs.Puts.{Single, pick_single, freed_single}
use Rattle.plan_slot.proofs.renewal.DrawnIsChanged.{renewal_single}
use Rattle.plan_tree.specs.declared.cuts.Cut.{Cut}
use Rattle.plan_shorter.specs.Plans.{Here, Rising, root_end, old_end, cut_plan}

-- a plan goes by the slot's own block and record
plan_same : (e : Edition) (c : Cut) (hs fs kept : List ℕ) (root : ℕ) (P R P₀ R₀ : List ℕ) (s : ℕ) → block e P s ≡ block e P₀ s
    → record_at R s ≡ record_at R₀ s → cut_plan e c hs fs kept root P R s ≡ cut_plan e c hs fs kept root P₀ R₀ s
unfolding cut_plan root_end old_end renewal renewed freed state recorded
plan_same e c hs fs kept root P R P₀ R₀ s eb er = rw (eb, er)

-- what is planned of a slot is nothing, or one change
plan_single : (e : Edition) (c : Cut) (hs fs kept : List ℕ) (root : ℕ) (P R : List ℕ) (s : ℕ) → Single e s (cut_plan e c hs fs kept root P R s)
unfolding cut_plan
plan_single e c hs fs kept root P R s =
    pick_single e s _ _ _ (inl refl)
    (pick_single e s _ _ _ (renewal_single e R s (block e P s) (root_end e c hs fs kept root P R))
    (pick_single e s _ _ _ (freed_single e R s)
    (pick_single e s _ _ _ (freed_single e R s) (renewal_single e R s (block e P s) (old_end e c hs fs kept root P R s)))))

-- before turn i
module _ (e : Edition) (n : ℕ) (c : Cut) (hs fs kept : List ℕ) (root : ℕ) (P₀ R₀ : List ℕ) (i : ℕ) (P R : List ℕ)
    (t : Turning e n (cut_plan e c hs fs kept root P₀ R₀) P₀ R₀ i P R) (less : i < n) where
  abbrev plan : ℕ → List Change
  plan = cut_plan e c hs fs kept root P₀ R₀

  same_block : block e P i ≡ block e P₀ i
  same_block = block_left e n plan P₀ R₀ i P R t

  same_record : record_at R i ≡ record_at R₀ i
  same_record = record_left e n plan P₀ R₀ i P R t

  -- the slot can be planned
  pub turn_here : ((s : ℕ) → s < n → Here e P₀ hs fs s) → Here e P hs fs i
  turn_here all =
      let here = all i less in
      record {
        place = omega (arith, here.place, t.pool_long);
        heights = here.heights;
        firsts = here.firsts;
        power = here.power;
        most = λ noted. rw same_block (here.most noted);
      }

  -- and its turn carried out
  pub turn_places : Whole e n P₀ R₀ → (scratch : List ℕ) → length scratch ≡ e.size → Places e P R scratch i
  turn_places w scratch size = record {
    block = slot_fits e.size n i P (t.pool_long ∙ w.pool) less;
    line = slot_fits 12 n i R (t.records_long ∙ w.records) less;
    scratch = size;
  }

  -- and its version may rise
  pub turn_fresh : ((s : ℕ) → s < n → (get_or hs s 0 ≡ 0 → ⊥) → recorded R₀ s < last_version) → (get_or hs i 0 ≡ 0 → ⊥) → recorded R i < last_version
  unfolding recorded
  turn_fresh fresh noted = rw same_record (fresh i less noted)

  -- after it one slot more is done
  pub turn_done : Whole e n P₀ R₀ → (P' R' : List ℕ) → P' ≡ puts e.size (λ c. c.block) (cut_plan e c hs fs kept root P R i) P
      → R' ≡ puts 12 (λ c. c.line) (cut_plan e c hs fs kept root P R i) R → Turning e n (cut_plan e c hs fs kept root P₀ R₀) P₀ R₀ (i + 1) P' R'
  turn_done w P' R' ep er =
      let now = plan_same e c hs fs kept root P R P₀ R₀ i same_block same_record in
      turning_on e n plan P₀ R₀ i P R t less w.pool w.records (plan_single e c hs fs kept root P₀ R₀ i) P' R' (rw now at ep) (rw now at er)

-- a slot has a number of four bytes
pub turn_small : (e : Edition) (n : ℕ) (P R : List ℕ) → Proper e → Whole e n P R → (i : ℕ) → i < n → i < 2 ^ 32
turn_small e n P R p w i less = omega (arith, w.few, p.small)

-- the drawn payload is as long as a payload, and a version may rise
pub carry_payload : (e : Edition) (x x' : List ℕ) → length x ≡ e.leaf → length x' ≡ length x → length x' ≤ e.leaf
carry_payload e x x' size same = omega arith

pub carry_rises : (hs R : List ℕ) (i : ℕ) (turn : Turn) → Rising hs i turn → ((get_or hs i 0 ≡ 0 → ⊥) → recorded R i < last_version)
    → Rises turn (recorded R i)
carry_rises hs R i turn rising fresh = rising.rises (recorded R i) fresh

-- carried out: what the turn changes is what is planned
module _ (e : Edition) (c : Cut) (hs fs kept : List ℕ) (root : ℕ) (P R : List ℕ) (i : ℕ) (turn : Turn) (x : List ℕ) where
  module _ (planned : (R : List ℕ) → turned e R i turn x ≡ cut_plan e c hs fs kept root P R i) where
    pub carry_pool : (P' : List ℕ) → P' ≡ puts e.size (λ c. c.block) (turned e R i turn x) P
        → P' ≡ puts e.size (λ c. c.block) (cut_plan e c hs fs kept root P R i) P
    carry_pool P' ep = rw (planned R) at ep

    pub carry_records : (R' : List ℕ) → R' ≡ puts 12 (λ c. c.line) (turned e R i turn x) R
        → R' ≡ puts 12 (λ c. c.line) (cut_plan e c hs fs kept root P R i) R
    carry_records R' er = rw (planned R) at er
