-- The loop over the slots, need by need: a slot whose height is noted goes, any other stays as it is.
use mathlib.Core.Path.{◌≡◌, refl, ◌∙◌}
use mathlib.Core.List.{List}
use mathlib.Core.Logic.{inl}
use Prim.Native.Nat.{ℕ, ◌+◌, ◌<◌}
use borrow.Author.Tests.{eq-eqb, ne_eqb}
use lib.ListN.{length, get_or, replicate}
use Rattle.meaning.specs.Lists.{pick}
use Rattle.meaning.specs.Bytes.{record_at, record_of, recorded_of, recorded}
use Rattle.meaning.specs.Change.{put, puts, freed}
use Rattle.meaning.specs.declared.Edition.{Edition}
use Rattle.laws.proofs.Codec.{version_is}
use Rattle.laws.proofs.Puts.{Single, pick_single, freed_single}
use Rattle.check_gate.specs.Gate.{Whole}
use Rattle.check_blob.proofs.visit.VisitAsDefined.{slot_fits}
use Rattle.plan_slot.specs.change.Places.{Places}
use Rattle.plan_slot.specs.change.Turns.{Turning}
use Rattle.plan_slot.proofs.change.SlotLoop.{record_left, turning_on}
use Rattle.call_delete.specs.free.{clear_plan}

-- one slot
module _ (e : Edition) (n : ℕ) (P R heights : List ℕ) (i : ℕ) where
  pub pool_stays : get_or heights i 0 ≡ 0 → P ≡ puts e.size (λ c. c.block) (clear_plan e R heights i) P
  unfolding clear_plan pick puts
  pool_stays z = simp (eq-eqb (get_or heights i 0) 0 z)

  pub records_stay : get_or heights i 0 ≡ 0 → R ≡ puts 12 (λ c. c.line) (clear_plan e R heights i) R
  unfolding clear_plan pick puts
  records_stay z = simp (eq-eqb (get_or heights i 0) 0 z)

  pub clear_places : Whole e n P R → i < n → (scratch : List ℕ) → length scratch ≡ e.size → Places e P R scratch i
  clear_places w l scratch ls = record { block = slot_fits e.size n i P w.pool l; line = slot_fits 12 n i R w.records l; scratch = ls }

  module _ (n' : get_or heights i 0 ≡ 0 → ⊥) (rb : List ℕ) (er : rb ≡ record_at R i) (v : ℕ) (ev : v ≡ recorded_of rb) where
    pub clear_pool : (P' : List ℕ) → P' ≡ put e.size i (replicate e.size 0) P → P' ≡ puts e.size (λ c. c.block) (clear_plan e R heights i) P
    unfolding clear_plan pick puts freed
    clear_pool P' ep = ep ∙ simp (ne_eqb (get_or heights i 0) 0 n')

    pub clear_records : (R' : List ℕ) → R' ≡ put 12 i (record_of 0 v) R → R' ≡ puts 12 (λ c. c.line) (clear_plan e R heights i) R
    unfolding clear_plan pick puts freed
    clear_records R' er' = er' ∙ rw (version_is R i rb er v ev) (simp (ne_eqb (get_or heights i 0) 0 n'))

-- the loop: what a slot becomes is planned from the records as they were
module _ (e : Edition) (n : ℕ) (heights P₀ R₀ : List ℕ) (i : ℕ) (P R : List ℕ) (t : Turning e n (clear_plan e R₀ heights) P₀ R₀ i P R) where
  planned : clear_plan e R heights i ≡ clear_plan e R₀ heights i
  unfolding clear_plan freed recorded
  planned = rw (record_left e n (clear_plan e R₀ heights) P₀ R₀ i P R t)

  plan_single : (s : ℕ) → Single e s (clear_plan e R₀ heights s)
  unfolding clear_plan
  plan_single s = pick_single e s _ _ _ (inl refl) (freed_single e R₀ s)

  pub clear_whole : Whole e n P₀ R₀ → Whole e n P R
  clear_whole w = record { pool = t.pool_long ∙ w.pool; records = t.records_long ∙ w.records; some = w.some; few = w.few }

  pub clear_turn : Whole e n P₀ R₀ → i < n → (P' R' : List ℕ) → P' ≡ puts e.size (λ c. c.block) (clear_plan e R heights i) P
      → R' ≡ puts 12 (λ c. c.line) (clear_plan e R heights i) R → Turning e n (clear_plan e R₀ heights) P₀ R₀ (i + 1) P' R'
  clear_turn w l P' R' ep er =
      turning_on e n (clear_plan e R₀ heights) P₀ R₀ i P R t l w.pool w.records (plan_single i) P' R' (rw planned at ep) (rw planned at er)
