-- The root's block is kept before the loop: what is planned with it is planned with the block as it was.
use mathlib.Core.Path.{◌≡◌, ap, ◌∙◌}
use mathlib.Core.List.{List}
use Prim.Native.Nat.{ℕ, ◌+◌, ◌*◌, ◌≤◌, ◌<◌}
use lib.ListN.{length}
use Rattle.meaning.specs.declared.Edition.{Edition}
use Rattle.meaning.specs.Change.{Change, puts}
use Rattle.check_blob.proofs.visit.VisitAsDefined.{slot_fits}
use Rattle.check_gate.specs.Gate.{Whole}
use Rattle.plan_slot.specs.change.Turns.{over}
use Rattle.plan_longer.specs.declared.fresh.Growth.{Growth}
use Rattle.plan_longer.specs.declared.towers.Tower.{Tower}
use Rattle.plan_longer.specs.towers.{RootBlock}
use Rattle.plan_longer.specs.Plans.{grow_plans}

-- the root's block, kept
pub kept_root : (e : Edition) (g : Growth) (t : Tower) (b kept : List ℕ) → RootBlock e g t b → kept ≡ b → RootBlock e g t kept
kept_root e g t b kept r q = rw q r

pub root_place : (e : Edition) (n : ℕ) (P R : List ℕ) → Whole e n P R → (root : ℕ) → root < n → e.size * root + e.size ≤ length P
root_place e n P R w root l = slot_fits e.size n root P w.pool l

pub kept_puts : (e : Edition) (g : Growth) (t : Tower) (P R free hs fs kept b : List ℕ) (root n w : ℕ) (f : Change → List ℕ) (l l' : List ℕ)
    → kept ≡ b → l' ≡ puts w f (over (grow_plans e g t P R free hs fs kept root) 0 n) l
    → l' ≡ puts w f (over (grow_plans e g t P R free hs fs b root) 0 n) l
kept_puts e g t P R free hs fs kept b root n w f l l' q p =
    p ∙ ap (λ (k : List ℕ). puts w f (over (grow_plans e g t P R free hs fs k root) 0 n) l) q
