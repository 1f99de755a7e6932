-- The branches of a slot's plan: for each way out one equation, and that the version may rise where a block is renewed.
use mathlib.Core.Path.{◌≡◌, refl, ◌∙◌, sym}
use mathlib.Core.Bool.{Bool, true, false}
use mathlib.Core.List.{List, [], ◌∷◌}
use Prim.Native.Nat.{ℕ, ◌-◌, ◌^◌, ◌≤◌, ◌<◌}
use native.Mathlib.Omega.{arith}
use lib.Dec.{leb, eqb}
use lib.ListN.{get_or}
use borrow.Author.Tests.{eq-eqb, ne_eqb}
use Rattle.meaning.specs.declared.Edition.{Edition}
use Rattle.meaning.specs.Lists.{pick, both}
use Rattle.meaning.specs.Bytes.{block, count_of, last_version}
use Rattle.meaning.specs.Change.{Change, freed}
use Rattle.meaning.specs.Shape.{most_count}
use Rattle.laws.proofs.Codec.{items_of}
use Rattle.laws_resize.specs.growth.Cuts.{cut_row}
use Rattle.plan_slot.specs.declared.turn.Turn.{Turn}
use Rattle.plan_slot.specs.declared.turn.Turn.TheVariants.{Stays, Goes}
use Rattle.plan_slot.specs.turn.{turned, Rises}
use Rattle.plan_slot.specs.renewal.{renewal}
use Rattle.plan_tree.specs.declared.cuts.Cut.{Cut}
use Rattle.plan_tree.specs.cuts.{gone_at}
use Rattle.plan_shorter.specs.Plans.{Here, Rising, root_end, old_end, cut_plan}

-- the same twice
twice : (a b : Bool) (f x : List Change) → pick a f (pick b f x) ≡ pick (pick a true b) f x
unfolding pick
twice true b f x = refl
twice false b f x = refl

-- numbers that are small enough
pub none_few : 0 ≤ 2 ^ 50
none_few = omega arith

module _ (e : Edition) (P hs fs : List ℕ) (s : ℕ) (here : Here e P hs fs s) (h : ℕ) (eh : h ≡ get_or hs s 0 - 1) where
  pub here_power : e.fan ^ h ≤ 2 ^ 50
  here_power = rw eh here.power

  pub here_most : (get_or hs s 0 ≡ 0 → ⊥) → (b : List ℕ) → b ≡ block e P s → count_of b ≤ most_count e h
  here_most noted b eb = rw (eh, eb) (here.most noted)

-- what is not stored may be at any version
module _ (hs : List ℕ) (s : ℕ) where
  pub stays_rising : Rising hs s Stays
  unfolding Rises
  stays_rising = record { rises = λ v less. tt }

  pub goes_rising : Rising hs s Goes
  unfolding Rises
  goes_rising = record { rises = λ v less. tt }

  -- the version of a slot that is noted can rise
  pub noted_rising : (get_or hs s 0 ≡ 0 → ⊥) → (t : Turn) → ((v : ℕ) → v < last_version → Rises t v) → Rising hs s t
  noted_rising noted t rise = record { rises = λ v less. rise v (less noted) }

-- a slot
module _ (e : Edition) (c : Cut) (hs fs kept : List ℕ) (root : ℕ) (P : List ℕ) (s : ℕ) (x : List ℕ) where
  -- of another blob, or of none
  pub plan_other : get_or hs s 0 ≡ 0 → (R : List ℕ) → turned e R s Stays x ≡ cut_plan e c hs fs kept root P R s
  unfolding cut_plan pick turned
  plan_other z R = rw (eq-eqb (get_or hs s 0) 0 z)

  module _ (noted : get_or hs s 0 ≡ 0 → ⊥) where
    -- the root's
    pub plan_root : s ≡ root → (b : List ℕ) → b ≡ block e P s → (t : Turn)
        → ((R : List ℕ) (u : ℕ) → turned e R u t x ≡ renewal e R u b (record { height = c.top; items = cut_row e c.length c.top 0 (items_of c.top kept) }))
        → (R : List ℕ) → turned e R s t x ≡ cut_plan e c hs fs kept root P R s
    unfolding cut_plan root_end pick
    plan_root is b eb t all R = rw (ne_eqb (get_or hs s 0) 0 noted, eq-eqb s root is) (all R s ∙ rw eb)

    module _ (other : s ≡ root → ⊥) (h first : ℕ) (eh : h ≡ get_or hs s 0 - 1) (ef : first ≡ get_or fs s 0) (g : Bool) (eg : g ≡ gone_at c h first) where
      -- another block of the blob, by whether it goes
      by_gone : (R : List ℕ) → cut_plan e c hs fs kept root P R s
          ≡ pick g (freed e R s ∷ []) (renewal e R s (block e P s) (old_end e c hs fs kept root P R s))
      unfolding cut_plan gone_at pick
      by_gone R =
          rw (ne_eqb (get_or hs s 0) 0 noted, ne_eqb s root other, eg, eh, ef)
          (twice (leb c.leaves (get_or fs s 0)) (both (eqb (get_or fs s 0) 0) (leb c.top (get_or hs s 0 - 1))) _ _)

      -- one that goes
      pub plan_gone : g ≡ true → (R : List ℕ) → turned e R s Goes x ≡ cut_plan e c hs fs kept root P R s
      unfolding turned pick
      plan_gone is R = sym (by_gone R ∙ rw is)

      -- one that stays
      pub plan_old : g ≡ false → (b : List ℕ) → b ≡ block e P s → (t : Turn)
          → ((R : List ℕ) (u : ℕ) → turned e R u t x ≡ renewal e R u b (record { height = h; items = cut_row e c.length h first (items_of h b) }))
          → (R : List ℕ) → turned e R s t x ≡ cut_plan e c hs fs kept root P R s
      unfolding old_end pick
      plan_old is b eb t all R = all R s ∙ sym (by_gone R ∙ rw (is, eb, eh, ef))
