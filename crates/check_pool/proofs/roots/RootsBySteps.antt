-- The walks from all roots in code: an equation for each way out. Each slot's walk is one step of the definition's walk over all roots.
use Rattle.std.specs.Prelude.{Err, Ok, Option, Some}
use Rattle.std.specs.Option.{option_eq}
use mathlib.Core.Path.{◌≡◌, refl, ap, ◌∙◌, sym}
use mathlib.Core.Bool.{Bool, true, false}
use mathlib.Core.List.{List, [], ◌∷◌, ◌++◌}
use Prim.Native.Nat.{ℕ, ◌+◌, ◌-◌, ◌≤◌, ◌<◌}
use native.Mathlib.Omega.{arith}
use borrow.Author.Tests.{eq-eqb, ne_eqb}
use lib.Dec.{eqb}
use lib.ListN.{length, drop}
use Rattle.meaning.specs.Lists.{pick, range}
use Rattle.meaning.specs.Bytes.{record_at, state_of, state}
use Rattle.meaning.specs.Tree.{Blob}
use Rattle.meaning.specs.Walk.{Found, fault, fine, and_then, from_root, roots}
use Rattle.meaning.specs.declared.Edition.{Edition}
use Rattle.meaning.specs.declared.Refusal.{Refusal}
use Rattle.laws.proofs.Roots.{walk_root}
use Rattle.laws.proofs.Ranges.{left_step, left_none}
use Rattle.laws.proofs.Codec.{state_is}
use Rattle.check_blob.specs.notes.{Noted, met, map_found, note_blob, note_root, Walked}
use Rattle.check_pool.specs.roots.{kept, is_named, note_if_named, note_named, root_step, roots_noted}

-- a blob that is walked from i is the named one exactly if i is
if_named : (e : Edition) (N : ℕ) (P R seen : List ℕ) (i : ℕ) (named : Option ℕ) (x : Noted) (F : Found Blob) → F ≡ from_root e N P R seen i
    → map_found (note_if_named named x) F ≡ map_found (λ b. pick (is_named named i) (note_blob x.row b) x) F
unfolding map_found note_if_named
if_named e N P R seen i named x (fault r) ef = refl
if_named e N P R seen i named x (fine b seen') ef =
    ap (λ (j : ℕ). fine (pick (is_named named j) (note_blob x.row b) x) seen') (walk_root e N P R seen i (sym ef))

-- a walk that faults or finds does so whatever is made of what it finds
map_fault : {A B C : Type 0} (g : A → B) (h : A → C) (f : Refusal) (F : Found A) → fault f ≡ map_found g F → map_found h F ≡ fault f
unfolding map_found
map_fault g h f (fault r) e = cc
map_fault g h f (fine a seen) e = absurd (let z : ◌≡◌ {A = ℕ} 0 1 = cc in omega arith)

map_fine : {A B C : Type 0} (g : A → B) (y : C) (b : B) (seen : List ℕ) (F : Found A) → fine b seen ≡ map_found g F → map_found (λ a. y) F ≡ fine y seen
unfolding map_found
map_fine g y b seen (fault r) e = absurd (let z : ◌≡◌ {A = ℕ} 0 1 = cc in omega arith)
map_fine g y b seen (fine a seen') e = cc

-- the walk from one slot: rb is its record, st its state
module _ (e : Edition) (N : ℕ) (P R : List ℕ) (named : Option ℕ) (i b k : ℕ) (o seen : List ℕ)
    (rb : List ℕ) (er : rb ≡ record_at R i) (st : ℕ) (es : st ≡ state_of rb) where
  of_state : state R i ≡ st
  of_state = sym (state_is R i rb er st es)

  abbrev step : Found Noted
  step = root_step e N P R named i (kept b k o) seen

  pub slot_no_root : (st ≡ 2 → ⊥) → met (Ok (b, k)) seen o ≡ step
  unfolding root_step met pick kept
  slot_no_root n = simp (of_state, ne_eqb st 2 n)

  module _ (z : st ≡ 2) where
    step_is : step ≡ map_found (λ c. pick (is_named named i) (note_blob o c) (kept b k o)) (from_root e N P R seen i)
    unfolding root_step pick kept
    step_is = simp (of_state, eq-eqb st 2 z) (if_named e N P R seen i named (kept b k o) (from_root e N P R seen i) refl)

    pub slot_named : (t : Bool) → t ≡ option_eq eqb named (Some i) → t ≡ true → (r : Walked) (sx ox : List ℕ) → met r sx ox ≡ note_root e N P R seen i o → met r sx ox ≡ step
    unfolding note_root pick is_named
    slot_named t et q r sx ox e' = e' ∙ sym (step_is ∙ simp (← et, q))

    module _ (t : Bool) (et : t ≡ option_eq eqb named (Some i)) (q : t ≡ false) (r : Walked) (sx ox or : List ℕ) (e' : met r sx ox ≡ note_root e N P R seen i or) where
      others : (F : Found Blob) → map_found (λ c. pick (is_named named i) (note_blob o c) (kept b k o)) F ≡ map_found (λ c. kept b k o) F
      unfolding pick is_named
      others F = simp (← et, q)

      pub slot_stop : (f : Refusal) → r ≡ Err f → (sy oy : List ℕ) → met r sy oy ≡ step
      unfolding met note_root
      slot_stop f ef sy oy =
          let w : fault f ≡ map_found (note_blob or) (from_root e N P R seen i) = rw ef at e' in
          rw ef (sym (step_is ∙ others (from_root e N P R seen i) ∙ map_fault (note_blob or) (λ c. kept b k o) f (from_root e N P R seen i) w))

      pub slot_other : (b' k' : ℕ) → r ≡ Ok (b', k') → (oy : List ℕ) → oy ≡ o → met (Ok (b, k)) sx oy ≡ step
      unfolding met note_root kept
      slot_other b' k' ef oy eo =
          let w : fine (record { bytes = b'; leaves = k'; row = ox }) sx ≡ map_found (note_blob or) (from_root e N P R seen i) = rw ef at e' in
          rw eo (sym (step_is ∙ others (from_root e N P R seen i) ∙ map_fine (note_blob or) (kept b k o) _ sx (from_root e N P R seen i) w))

-- a lent part with no element comes back as it was
pub lent_nothing : (l ys : List ℕ) → length ys ≡ 0 → ys ++ drop 0 l ≡ l
lent_nothing l [] h = refl
lent_nothing l (x ∷ ys) h = absurd (omega arith)

-- the walks from all roots are a step at each slot
rest_noted : (named : Option ℕ) (x : Noted) (b : Blob) (F : Found (List Blob))
    → map_found (note_named named x) (and_then F (λ bs seen. fine (b ∷ bs) seen)) ≡ map_found (note_named named (note_if_named named x b)) F
unfolding map_found and_then note_named
rest_noted named x b (fault r) = refl
rest_noted named x b (fine bs seen) = refl

first_noted : (named : Option ℕ) (x : Noted) (F : Found Blob) (G : List ℕ → Found (List Blob))
    → map_found (note_named named x) (and_then F (λ b seen'. and_then (G seen') (λ bs seen''. fine (b ∷ bs) seen'')))
    ≡ and_then (map_found (note_if_named named x) F) (λ y seen'. map_found (note_named named y) (G seen'))
unfolding map_found and_then
first_noted named x (fault r) G = refl
first_noted named x (fine b seen) G = rest_noted named x b (G seen)

pick_map : {A B : Type 0} (t : Bool) (g : A → B) (F G : Found A) → map_found g (pick t F G) ≡ pick t (map_found g F) (map_found g G)
unfolding pick
pick_map true g F G = refl
pick_map false g F G = refl

pick_then : {A B : Type 0} (t : Bool) (F G : Found A) (k : A → List ℕ → Found B) → and_then (pick t F G) k ≡ pick t (and_then F k) (and_then G k)
unfolding pick
pick_then true F G k = refl
pick_then false F G k = refl

module _ (e : Edition) (N : ℕ) (P R : List ℕ) (named : Option ℕ) where
  roots_step : (s : ℕ) (ss : List ℕ) (x : Noted) (seen : List ℕ) → roots_noted e N P R named (s ∷ ss) x seen
      ≡ and_then (root_step e N P R named s x seen) (λ y seen'. roots_noted e N P R named ss y seen')
  unfolding roots_noted root_step roots and_then
  roots_step s ss x seen =
      pick_map (eqb (state R s) 2) (note_named named x) _ _
      ∙ ap (λ (F : Found Noted). pick (eqb (state R s) 2) F (map_found (note_named named x) (roots e N P R ss seen)))
      (first_noted named x (from_root e N P R seen s) (λ seen'. roots e N P R ss seen'))
      ∙ sym (pick_then (eqb (state R s) 2) (map_found (note_if_named named x) (from_root e N P R seen s)) (fine x seen) (λ y seen'. roots_noted e N P R named ss y seen'))

  -- the loop over the slots: all from the start are all from i on
  module _ (x₀ : Noted) (seen₀ : List ℕ) (i b k : ℕ) (o seen : List ℕ)
      (inv : roots_noted e N P R named (range 0 N) x₀ seen₀ ≡ roots_noted e N P R named (range i (N - i)) (kept b k o) seen) where
    pub roots_end : N ≤ i → met (Ok (b, k)) seen o ≡ roots_noted e N P R named (range 0 N) x₀ seen₀
    unfolding roots_noted roots map_found note_named met kept
    roots_end l = sym (rw (inv, left_none i N l))

    module _ (l : i < N) (r : Walked) (sx ox : List ℕ) (e' : met r sx ox ≡ root_step e N P R named i (kept b k o) seen) where
      next : roots_noted e N P R named (range 0 N) x₀ seen₀ ≡ and_then (met r sx ox) (λ y seen'. roots_noted e N P R named (range (i + 1) (N - (i + 1))) y seen')
      next =
          let a = roots_step i (range (i + 1) (N - (i + 1))) (kept b k o) seen in
          rw (inv, left_step i N l) (rw (← e') at a)

      pub roots_stop : (f : Refusal) → r ≡ Err f → (sy oy : List ℕ) → met r sy oy ≡ roots_noted e N P R named (range 0 N) x₀ seen₀
      unfolding met and_then
      roots_stop f ef sy oy = rw (next, ef)

      pub roots_on : (b' k' : ℕ) → r ≡ Ok (b', k')
          → roots_noted e N P R named (range 0 N) x₀ seen₀ ≡ roots_noted e N P R named (range (i + 1) (N - (i + 1))) (kept b' k' ox) sx
      unfolding met and_then kept
      roots_on b' k' ef = rw (next, ef)
