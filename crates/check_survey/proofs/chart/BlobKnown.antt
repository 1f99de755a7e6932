-- Refusal 3 and the pool check's fault are the refusal of every call that changes one blob; behind them the blob is known.
use Rattle.std.specs.Prelude.{Err, Ok, Some}
use mathlib.Core.Path.{◌≡◌}
use mathlib.Core.Bool.{Bool, true, false, not}
use mathlib.Core.List.{List}
use Prim.Native.Nat.{ℕ}
use lib.Dec.{eqb, ltb}
use Rattle.meaning.specs.declared.Reason.TheVariants.{NotARoot}
use Rattle.meaning.specs.Lists.{both}
use Rattle.meaning.specs.Edition.{Proper}
use Rattle.meaning.specs.Bytes.{state}
use Rattle.meaning.specs.Refusals.{nowhere}
use Rattle.meaning.specs.Calls.{refuse_if, rooted, changing}
use Rattle.meaning.specs.declared.Edition.{Edition}
use Rattle.meaning.specs.declared.Refusal.{Refusal}
use Rattle.check_blob.specs.visit.{Sized}
use Rattle.check_blob.specs.notes.{met, Walked}
use Rattle.check_pool.specs.roots.{pool_noted}
use Rattle.laws_resize.specs.growth.Sites.{sites_of}
use Rattle.check_blob.proofs.Opening.{whole_sized, root_below, root_recorded}
use Rattle.check_survey.specs.sites.Spelt.{blob_at}
use Rattle.check_survey.specs.sites.Marks.{Marked, SitesStart}
use Rattle.check_survey.proofs.sites.Knowing.{fault_changing, sites_start, known}
use Rattle.check_survey.specs.chart.{Room, Rooted}

-- what the survey is lent
pub room_sized : (e : Edition) (n : ℕ) (P R seen row hs fs : List ℕ) → Room e n P R seen row hs fs → Sized e n P R seen
room_sized e n P R seen row hs fs g = whole_sized e n P R seen g.whole g.unseen

-- refusal 3 and what is behind it
module _ (e : Edition) (n : ℕ) (P R : List ℕ) (r : ℕ) (t : Bool) (et : t ≡ both (ltb r n) (eqb (state R r) 2)) where
  pub unrooted : not t ≡ true → (q : Refusal) → q ≡ nowhere NotARoot → (row hs fs : List ℕ) → Rooted e n P R r (Err q) row hs fs
  unfolding Rooted changing rooted refuse_if
  unrooted p q eq row hs fs = λ f. rw eq (simp (← et, p))

  -- the pool check's answer w: a fault, or the blob's sites may be noted, and then the blob is known
  module _ (p : not t ≡ false) (o : List ℕ) (w : Walked) (sx ox : List ℕ) (ew : met w sx ox ≡ pool_noted e n P R (Some r) o) where
    pub rooted_fault : (q : Refusal) → w ≡ Err q → (row hs fs : List ℕ) → Rooted e n P R r w row hs fs
    unfolding Rooted
    rooted_fault q eq row hs fs =
        rw eq (λ f. fault_changing e n P R r o w sx ox ew q eq (root_below R n r t et p) (root_recorded R n r t et p) f)

    module _ (len k : ℕ) (ek : w ≡ Ok (len, k)) (proper : Proper e) (seen hs fs : List ℕ) (g : Room e n P R seen o hs fs) where
      pub rooted_sites : SitesStart e n P hs fs r
      rooted_sites =
          sites_start e n P R r o w sx ox ew (root_below R n r t et p) (root_recorded R n r t et p) len k ek proper g.whole.pool g.whole.few hs fs
          g.flat g.begins

      pub rooted_known : (hs' fs' : List ℕ) → Marked (sites_of (blob_at e P r)) hs fs hs' fs' → Rooted e n P R r w ox hs' fs'
      unfolding Rooted
      rooted_known hs' fs' noted =
          rw ek
          (known e n P R r o w sx ox ew (root_below R n r t et p) (root_recorded R n r t et p) len k ek proper g.whole.pool g.whole.few hs fs
          g.flat g.begins g.rows hs' fs' noted)
