-- Refusals 1 and 2 are the refusal of every call that changes one blob; behind them the survey decides, and behind that the blob is known.
-- The rows are lent up to place n only: what stands there after the survey is what the survey put there.
use Rattle.std.specs.Prelude.{Err, Ok, Result}
use mathlib.Core.Path.{◌≡◌, refl, ap, ◌∙◌, sym}
use mathlib.Core.List.{List, ◌++◌}
use Prim.Native.Nat.{ℕ, ◌-◌, ◌≤◌}
use native.Mathlib.Omega.{arith}
use borrow.Rule.Slice.PartMut.{put_mid}
use borrow.Table.Elements.{take-le}
use lib.ListN.{length, take, drop}
use lib.Seq.{take_at}
use Rattle.check_blob.specs.notes.{Walked}
use Rattle.meaning.specs.Tree.{Blob}
use Rattle.meaning.specs.Calls.{Outcome, refused, changing, slots_in, opened, after}
use Rattle.meaning.specs.Answers.{answer_of, Ends}
use Rattle.meaning.specs.declared.Edition.{Edition}
use Rattle.meaning.specs.declared.Refusal.{Refusal}
use Rattle.check_gate.specs.Gate.{gate, Opened}
use Rattle.check_gate.proofs.BehindTheGate.{gate_slots, gate_whole, gate_behind, gate_barred}
use Rattle.check_blob.proofs.Lending.{row_reaches, row_lent, flags_reach, flags_lent}
use Rattle.check_survey.specs.sites.Known.{Known}
use Rattle.check_survey.specs.declared.Reached.{Reached}
use Rattle.check_survey.specs.chart.{Room, Rooted}
use Rattle.check_survey.specs.Reached.{Rows, front, Behind, Reaches}

-- the front of a row
front_within : (n : ℕ) (l : List ℕ) → length (front n l) ≡ n → n ≤ length l
front_within n l h = let z : length (front n l) ≤ length l = take-le (n - 0) l in omega arith

front_put : (n : ℕ) (l ys : List ℕ) → length ys ≡ n → front n (put_mid 0 (n - 0) l ys) ≡ ys
front_put n l ys h = let z : n - 0 ≡ n = omega arith in ap (λ (j : ℕ). take j (ys ++ drop (n - 0) l)) z ∙ take_at ys (drop (n - 0) l) n h

-- refusals 1 and 2 and what is behind them
module _ (e : Edition) (P R : List ℕ) (x : Opened) (ex : x ≡ gate e P R) (r : ℕ) where
  pub reach_barred : (q : Refusal) → x ≡ Err q → (row hs fs : List ℕ) → Reaches e P R r (Err q) row hs fs
  unfolding Reaches
  reach_barred q eq row hs fs = λ f. gate_barred e P R x ex q eq (changing e (slots_in e P) P R r f)

  module _ (n : ℕ) (en : x ≡ Ok n) where
    -- the rows' first places are lent
    module _ (seen row hs fs : List ℕ) (g : Rows e P seen row hs fs) where
      pub reach_room : Room e n P R (front n seen) (front n row) (front n hs) (front n fs)
      reach_room =
          record {
            whole = gate_whole e P R x ex n en;
            unseen = flags_lent e P R x ex n en seen g.unseen;
            rows = row_lent e P R x ex n en row g.rows;
            flat = flags_lent e P R x ex n en hs g.flat;
            begins = row_lent e P R x ex n en fs g.begins;
          }

      pub seen_reaches : n ≤ length seen
      seen_reaches = flags_reach e P R x ex n en seen g.unseen

      pub places_reach : n ≤ length row
      places_reach = row_reaches e P R x ex n en row g.rows

      pub heights_reach : n ≤ length hs
      heights_reach = flags_reach e P R x ex n en hs g.flat

      pub firsts_reach : n ≤ length fs
      firsts_reach = row_reaches e P R x ex n en fs g.begins

    module _ (w : Walked) (row₁ hs₁ fs₁ : List ℕ) (s : Rooted e n P R r w row₁ hs₁ fs₁) where
      pub reach_fault : (q : Refusal) → w ≡ Err q → (row hs fs : List ℕ) → Reaches e P R r (Err q) row hs fs
      unfolding Reaches Rooted
      reach_fault q eq row hs fs =
          let u : (f : Blob → Outcome (Unit {0})) → changing e n P R r f ≡ refused q = rw eq at s in
          λ f. gate_behind e P R x ex n en (λ m. changing e m P R r f) ∙ u f

      pub reach_blob : (len k : ℕ) → w ≡ Ok (len, k) → (seen row hs fs : List ℕ) → Rows e P seen row hs fs → length row₁ ≡ length (front n row)
          → Reaches e P R r (Ok (record { slots = n; bytes = len; leaves = k })) (put_mid 0 (n - 0) row row₁) (put_mid 0 (n - 0) hs hs₁) (put_mid 0 (n - 0) fs fs₁)
      unfolding Reaches Rooted
      reach_blob len k ek seen row hs fs rows lr =
          let g : Known e n P R r len k row₁ hs₁ fs₁ = rw ek at s in
          record {
            gated = sym ex ∙ en;
            whole = gate_whole e P R x ex n en;
            known = rw (front_put n row row₁ (lr ∙ (reach_room seen row hs fs rows).rows), front_put n hs hs₁ g.heights, front_put n fs fs₁ g.firsts) g;
          }

-- what the callers learn
module _ (e : Edition) (P R : List ℕ) (r : ℕ) (y : Result Reached Refusal) (row hs fs : List ℕ) (h : Reaches e P R r y row hs fs) where
  -- a refusal, of any call, with nothing changed
  pub refused_so : (q : Refusal) → y ≡ Err q → (f : Blob → Outcome (Unit {0}))
      → Ends e answer_of (opened e P R (changing e (slots_in e P) P R r f)) P R (Err q) P R
  unfolding Reaches answer_of after
  refused_so q eq f =
      let u : (g : Blob → Outcome (Unit {0})) → opened e P R (changing e (slots_in e P) P R r g) ≡ refused q = rw eq at h in
      record { answer = rw (u f); pool = rw (u f); records = rw (u f) }

  -- or the blob
  module _ (b : Reached) (ey : y ≡ Ok b) where
    pub reached_blob : Behind e P R r b.slots b.bytes b.leaves row hs fs
    unfolding Reaches
    reached_blob = rw ey at h

    -- whose blocks are noted in the rows' first places
    pub noted_heights : b.slots ≤ length hs
    noted_heights = front_within b.slots hs reached_blob.known.heights

    pub noted_firsts : b.slots ≤ length fs
    noted_firsts = front_within b.slots fs reached_blob.known.firsts

    pub noted_row : (seen row₀ hs₀ fs₀ : List ℕ) → Rows e P seen row₀ hs₀ fs₀ → length row ≡ length row₀ → b.slots ≤ length row
    noted_row seen row₀ hs₀ fs₀ g l = omega (arith, l, g.rows, gate_slots e P R (gate e P R) refl b.slots reached_blob.gated)

    -- where the call is what it is behind refusals 1 and 2
    pub reached_opened : {A : Type 0} (f : ℕ → Outcome A) → opened e P R (f (slots_in e P)) ≡ f b.slots
    reached_opened f = gate_behind e P R (gate e P R) refl b.slots reached_blob.gated f
