-- What the row of heights says of a blob is what refusal 12 asks of its slots: they are the slots whose height is noted.
use mathlib.Core.Path.{◌≡◌, refl, ap, ◌∙◌, sym}
use mathlib.Core.Logic.{◌⊎◌, inl, inr}
use mathlib.Core.Bool.{Bool, true, false, not}
use mathlib.Core.List.Memᴰ
use mathlib.Core.List.{List, [], ◌∷◌, map, Memᴰ}
use Prim.Native.Nat.{ℕ, ◌<◌}
use native.Mathlib.Omega.{arith}
use borrow.Author.Tests.{eq-eqb, ne_eqb, eqb-true, eqb-false, ltb-true, not-false}
use lib.Dec.{eqb, ltb}
use lib.ListN.{get_or}
use Rattle.meaning.specs.declared.Reason.TheVariants.{WornOut}
use Rattle.meaning.specs.declared.Edition.{Edition}
use Rattle.meaning.specs.Lists.{pick, range, all}
use Rattle.meaning.specs.Bytes.{recorded, last_version}
use Rattle.meaning.specs.Tree.{slots_of}
use Rattle.meaning.specs.Refusals.{nowhere}
use Rattle.meaning.specs.Calls.{Outcome, refused, refuse_if, refuse_worn}
use Rattle.laws.proofs.Inversions.{by_test, both_true, true_both}
use Rattle.laws.proofs.Ranges.{in_range}
use Rattle.laws_resize.specs.growth.Sites.{Site, sites_of, Sited, absent, at, sited}
use Rattle.laws_resize.proofs.growth.Sites.{site_slots}
use Rattle.check_survey.specs.sites.Spelt.{blob_at}
use Rattle.check_survey.specs.sites.Known.{Known}
use Rattle.check_survey.specs.worn.{fresh_slot, fresh_from, worn_among}

-- a test that all pass, each passes; and turned round
all_each : (p : ℕ → Bool) (l : List ℕ) → all p l ≡ true → (s : ℕ) → Memᴰ s l → p s ≡ true
unfolding all
all_each p [] q s m = absurd (Memᴰ.not-nil m)
all_each p (x ∷ l) q s m =
    let t = both_true (p x) (all p l) q in
    by t.0 (all_each p l t.1 s) (Memᴰ.cases_cons m)
  where
    by : p x ≡ true → (Memᴰ s l → p s ≡ true) → (s ≡ x) ⊎ Memᴰ s l → p s ≡ true
    by here later (inl r) = ap p r ∙ here
    by here later (inr i) = later i

each_all : (p : ℕ → Bool) (l : List ℕ) → ((s : ℕ) → Memᴰ s l → p s ≡ true) → all p l ≡ true
unfolding all
each_all p [] each = refl
each_all p (x ∷ l) each =
    true_both (p x) (all p l) (each x (Memᴰ.head refl)) (each_all p l (λ s m. each s (Memᴰ.tail m)))

-- tests that follow from each other are the same
same_test : (a b : Bool) → (a ≡ true → b ≡ true) → (b ≡ true → a ≡ true) → a ≡ b
same_test true b f g = sym (f refl)
same_test false true f g = g refl
same_test false false f g = refl

-- no slot is both absent and there
at_absent {ℓ} : {A : Type ℓ} {x : Site} {w : Sited} → w ≡ absent → w ≡ at x → A
at_absent p q = let z : ◌≡◌ {A = ℕ} 0 1 = cc in absurd (omega arith)

-- a slot of a list of sites has its site, and where a site is, there is its slot
slot_sited : (l : List (ℕ × Site)) (s : ℕ) → Memᴰ s (map (λ x. x.0) l) → (x : Site) × (sited l s ≡ at x)
unfolding sited pick
slot_sited [] s m = absurd (Memᴰ.not-nil m)
slot_sited (y ∷ l) s m = by_test (eqb y.0 s) (λ t. (y.1, rw t)) (λ t. later t (slot_sited l s) (Memᴰ.cases_cons m))
  where
    later : eqb y.0 s ≡ false → (Memᴰ s (map (λ x. x.0) l) → (x : Site) × (sited l s ≡ at x))
        → (s ≡ y.0) ⊎ Memᴰ s (map (λ x. x.0) l) → (x : Site) × (pick (eqb y.0 s) (at y.1) (sited l s) ≡ at x)
    later t rest (inl q) = absurd (eqb-false y.0 s t (sym q))
    later t rest (inr i) = let r = rest i in (r.0, (rw t r.1))

sited_slot : (l : List (ℕ × Site)) (s : ℕ) (x : Site) → sited l s ≡ at x → Memᴰ s (map (λ x. x.0) l)
unfolding sited pick
sited_slot [] s x q = at_absent refl q
sited_slot (y ∷ l) s x q =
    by_test (eqb y.0 s)
    (λ t. Memᴰ.head (sym (eqb-true y.0 s t)))
    (λ t. Memᴰ.tail (sited_slot l s x (rw t at q)))

-- a noted slot is fresh exactly if its version is below the last
fresh_other : (R hs : List ℕ) (s : ℕ) → get_or hs s 0 ≡ 0 → fresh_slot R hs s ≡ true
unfolding fresh_slot pick
fresh_other R hs s z = rw (eq-eqb (get_or hs s 0) 0 z)

fresh_noted : (R hs : List ℕ) (s : ℕ) → (get_or hs s 0 ≡ 0 → ⊥) → fresh_slot R hs s ≡ ltb (recorded R s) last_version
unfolding fresh_slot pick
fresh_noted R hs s o = rw (ne_eqb (get_or hs s 0) 0 o)

-- what is known of the blob
module _ (e : Edition) (n : ℕ) (P R : List ℕ) (r len k : ℕ) (row hs fs : List ℕ) (g : Known e n P R r len k row hs fs) where
  -- a block of the blob is noted, and below n
  site_noted : (s : ℕ) (x : Site) → sited (sites_of (blob_at e P r)) s ≡ at x → get_or hs s 0 ≡ 0 → ⊥
  site_noted s x q z = at_absent (g.sites.none s z) q

  site_within : (s : ℕ) (x : Site) → sited (sites_of (blob_at e P r)) s ≡ at x → s < n
  site_within s x q = (g.fit s x q).0.within

  -- all of n slots are fresh exactly if those of the blob are
  blob_fresh : fresh_from R hs 0 n ≡ true → all (λ s. ltb (recorded R s) last_version) (slots_of (blob_at e P r)) ≡ true
  unfolding fresh_from
  blob_fresh f =
      rw (← site_slots (blob_at e P r))
      (each_all (λ s. ltb (recorded R s) last_version) (map (λ x. x.0) (sites_of (blob_at e P r)))
      (λ s m. let x = slot_sited (sites_of (blob_at e P r)) s m in
      sym (fresh_noted R hs s (site_noted s x.0 x.1))
      ∙ all_each (fresh_slot R hs) (range 0 n) f s (in_range 0 n s (omega arith) (omega (arith, site_within s x.0 x.1)))))

  fresh_blob : all (λ s. ltb (recorded R s) last_version) (slots_of (blob_at e P r)) ≡ true → fresh_from R hs 0 n ≡ true
  unfolding fresh_from
  fresh_blob f =
      let a : all (λ s. ltb (recorded R s) last_version) (map (λ x. x.0) (sites_of (blob_at e P r))) ≡ true = rw (site_slots (blob_at e P r)) f in
      each_all (fresh_slot R hs) (range 0 n)
      (λ s m. by_test (eqb (get_or hs s 0) 0)
      (λ t. fresh_other R hs s (eqb-true (get_or hs s 0) 0 t))
      (λ t. let o = eqb-false (get_or hs s 0) 0 t in
      fresh_noted R hs s o
      ∙ all_each (λ s. ltb (recorded R s) last_version) (map (λ x. x.0) (sites_of (blob_at e P r))) a s
      (sited_slot (sites_of (blob_at e P r)) s _ (g.sites.some s o))))

  -- worn by the row of heights is worn by the definition
  pub worn_blob : worn_among R hs n ≡ not (all (λ s. ltb (recorded R s) last_version) (slots_of (blob_at e P r)))
  unfolding worn_among
  worn_blob = ap not (same_test (fresh_from R hs 0 n) (all (λ s. ltb (recorded R s) last_version) (slots_of (blob_at e P r))) blob_fresh fresh_blob)

  -- so a worn blob is refused, and any other is not
  pub worn_refused : worn_among R hs n ≡ true → {A : Type 0} (o : Outcome A) → refuse_worn e n P R (blob_at e P r) o ≡ refused (nowhere WornOut)
  unfolding refuse_worn refuse_if
  worn_refused w o = let t = sym worn_blob ∙ w in rw t

  pub worn_passed : worn_among R hs n ≡ false → {A : Type 0} (o : Outcome A) → refuse_worn e n P R (blob_at e P r) o ≡ o
  unfolding refuse_worn refuse_if
  worn_passed w o = let t = sym worn_blob ∙ w in rw t

  -- in a blob that is not worn a version plus one fits in 64 bits
  module _ (w : worn_among R hs n ≡ false) where
    pub unworn_slot : (s : ℕ) → s < n → (get_or hs s 0 ≡ 0 → ⊥) → recorded R s < last_version
    unfolding worn_among fresh_from
    unworn_slot s l o =
        let f : all (fresh_slot R hs) (range 0 n) ≡ true = not-false (all (fresh_slot R hs) (range 0 n)) w in
        ltb-true (recorded R s) last_version
        (sym (fresh_noted R hs s o) ∙ all_each (fresh_slot R hs) (range 0 n) f s (in_range 0 n s (omega arith) (omega arith)))

    pub unworn_site : (s : ℕ) (x : Site) → sited (sites_of (blob_at e P r)) s ≡ at x → recorded R s < last_version
    unworn_site s x q = unworn_slot s (site_within s x q) (site_noted s x q)
