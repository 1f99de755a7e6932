-- The checks of one block and of one record: an equation for each way out of a check, in the words that its code has at that place.
use Rattle.std.specs.Prelude.{Option, Some, None, Ok, Err}
use mathlib.Core.Path.{◌≡◌, refl, ap, ◌∙◌, sym}
use mathlib.Core.Bool.{Bool, true, false, not}
use mathlib.Core.List.{List, [], ◌∷◌}
use Prim.Native.Nat.{ℕ, zero, suc, ◌+◌, ◌-◌, ◌*◌, ◌≤◌, ◌<◌}
use native.Mathlib.Omega.{arith}
use borrow.Author.Tests.{eq-eqb, ne_eqb, le-leb, lt-leb, lt-ltb, le-ltb, not-true, not-false}
use lib.Dec.{leb}
use lib.ListN.{length, get_or, take, drop}
use Rattle.meaning.specs.declared.Reason.TheVariants.{Spoiled, Moved, RolledBack, Ahead, WrongShape}
use Rattle.meaning.specs.declared.Reason.{Reason}
use Rattle.meaning.specs.declared.Edition.{Edition}
use Rattle.meaning.specs.declared.Refusal.{Refusal}
use Rattle.meaning.specs.Lists.{pick, both, part, number, same_list, zeros}
use Rattle.meaning.specs.Edition.{Proper}
use Rattle.meaning.specs.Bytes.{height_of, count_of, own_slot, version_of, state_of, recorded_of, sound_record}
use Rattle.meaning.specs.Shape.{least_count, most_count}
use Rattle.meaning.specs.Refusals.{at, must, unless}
use Rattle.laws.proofs.Numbers.{part_front}
use Rattle.meaning.specs.Walk.{flaw, used, formed, block_check}

-- a mark is its two bytes
pub two_bytes : (m : List ℕ) → length m ≡ 2 → get_or m 0 0 ∷ get_or m 1 0 ∷ [] ≡ m
two_bytes [] h = absurd (omega arith)
two_bytes (x ∷ []) h = absurd (omega arith)
two_bytes (x ∷ y ∷ []) h = refl
two_bytes (x ∷ y ∷ z ∷ l) h = absurd (omega arith)

-- check 2, as far as the code has come: m says whether the mark is right, o is the slot and w the version found
module _ (e : Edition) (p : Proper e) (b : List ℕ) (v s : ℕ) (m : Bool)
    (em : m ≡ same_list (take 2 b) (get_or e.mark 0 0 ∷ get_or e.mark 1 0 ∷ [])) where
  mark_is : same_list (take 2 b) e.mark ≡ m
  mark_is = sym (em ∙ ap (λ (l : List ℕ). same_list (take 2 b) l) (two_bytes e.mark p.marked))

  pub flaw_mark : not m ≡ true → Some Spoiled ≡ flaw e v s b
  unfolding flaw pick
  flaw_mark t = simp (mark_is, t)

  module _ (t : not m ≡ false) (o : ℕ) (eo : o ≡ number (part 4 4 b)) where
    pub flaw_own : (o ≡ s → ⊥) → Some Moved ≡ flaw e v s b
    unfolding flaw pick own_slot
    flaw_own n = simp (mark_is, t, ← eo, ne_eqb o s n)

    module _ (q : o ≡ s) (w : ℕ) (ew : w ≡ number (part 8 8 b)) where
      pub flaw_old : w < v → Some RolledBack ≡ flaw e v s b
      unfolding flaw pick own_slot version_of
      flaw_old l = simp (mark_is, t, ← eo, eq-eqb o s q, ← ew, lt-ltb w v l)

      pub flaw_new : v < w → Some Ahead ≡ flaw e v s b
      unfolding flaw pick own_slot version_of
      flaw_new l =
          let k : v ≤ w = omega arith in
          simp (mark_is, t, ← eo, eq-eqb o s q, ← ew, le-ltb w v k, lt-ltb v w l)

      pub flaw_none : v ≤ w → w ≤ v → None ≡ flaw e v s b
      unfolding flaw pick own_slot version_of
      flaw_none l k = simp (mark_is, t, ← eo, eq-eqb o s q, ← ew, le-ltb w v l, le-ltb v w k)

-- the four ranges and the used payload, by height
module _ (e : Edition) (edge root : Bool) where
  pub least_leaf_root : (h : ℕ) → h ≡ 0 → edge ≡ true → root ≡ true → 0 ≡ least_count e h edge root
  unfolding least_count pick
  least_leaf_root h a b c = rw (a, b, c)

  pub least_leaf_edge : (h : ℕ) → h ≡ 0 → edge ≡ true → root ≡ false → 1 ≡ least_count e h edge root
  unfolding least_count pick
  least_leaf_edge h a b c = rw (a, b, c)

  pub least_leaf_off : (h : ℕ) → h ≡ 0 → edge ≡ false → e.leaf ≡ least_count e h edge root
  unfolding least_count pick
  least_leaf_off h a b = rw (a, b)

  pub least_inner_root : (h : ℕ) → (h ≡ 0 → ⊥) → edge ≡ true → root ≡ true → 2 ≡ least_count e h edge root
  unfolding least_count pick
  least_inner_root zero a b c = absurd (a refl)
  least_inner_root (suc h) a b c = rw (b, c)

  pub least_inner_edge : (h : ℕ) → (h ≡ 0 → ⊥) → edge ≡ true → root ≡ false → 1 ≡ least_count e h edge root
  unfolding least_count pick
  least_inner_edge zero a b c = absurd (a refl)
  least_inner_edge (suc h) a b c = rw (b, c)

  pub least_inner_off : (h : ℕ) → (h ≡ 0 → ⊥) → edge ≡ false → e.fan ≡ least_count e h edge root
  unfolding least_count pick
  least_inner_off zero a b = absurd (a refl)
  least_inner_off (suc h) a b = rw b

pub most_leaf : (e : Edition) (h : ℕ) → h ≡ 0 → e.leaf ≡ most_count e h
unfolding most_count
most_leaf e h z = rw z

pub most_inner : (e : Edition) (h : ℕ) → (h ≡ 0 → ⊥) → e.fan ≡ most_count e h
unfolding most_count
most_inner e zero n = absurd (n refl)
most_inner e (suc h) n = refl

pub used_leaf : (h c : ℕ) → h ≡ 0 → c ≡ used h c
unfolding used
used_leaf h c z = rw z

pub used_inner : (h c : ℕ) → (h ≡ 0 → ⊥) → 4 * c ≡ used h c
unfolding used
used_inner zero c n = absurd (n refl)
used_inner (suc h) c n = refl

-- what a count within its range uses lies in the payload
pub used_fits : (e : Edition) → Proper e → (h c : ℕ) → c ≤ most_count e h → used h c ≤ e.leaf
unfolding used most_count
used_fits e p zero c k = k
used_fits e p (suc h) c k = omega (arith, p.fills)

-- the same, as the code has it
pub leaf_fits : (e : Edition) → Proper e → (h c : ℕ) → h ≡ 0 → c ≤ most_count e h → c ≤ e.leaf
leaf_fits e p h c z k = omega (arith, used_leaf h c z, used_fits e p h c k)

pub inner_fits : (e : Edition) → Proper e → (h c : ℕ) → (h ≡ 0 → ⊥) → c ≤ most_count e h → 4 * c ≤ e.leaf
inner_fits e p h c n k = omega (arith, used_inner h c n, used_fits e p h c k)

pub inner_most : (e : Edition) (h c : ℕ) → (h ≡ 0 → ⊥) → c ≤ most_count e h → c ≤ e.fan
inner_most e h c n k = omega (arith, most_inner e h n)

-- check 3, as far as the code has come
module _ (e : Edition) (b : List ℕ) (h : ℕ) (root edge : Bool) (f : ℕ) (ef : f ≡ height_of b) where
  pub formed_height : (f ≡ h → ⊥) → false ≡ formed e h root edge b
  unfolding formed both
  formed_height n = simp (← ef, ne_eqb f h n)

  module _ (q : f ≡ h) (c : ℕ) (ec : c ≡ count_of b) (l : ℕ) (el : l ≡ least_count e h edge root) where
    pub formed_few : c < l → false ≡ formed e h root edge b
    unfolding formed both
    formed_few n = simp (← ef, eq-eqb f h q, ← ec, ← el, lt-leb l c n)

    module _ (k : l ≤ c) (m : ℕ) (em : m ≡ most_count e h) where
      pub formed_many : m < c → false ≡ formed e h root edge b
      unfolding formed both
      formed_many n = simp (← ef, eq-eqb f h q, ← ec, ← el, le-leb l c k, ← em, lt-leb c m n)

      -- within its range, what is left is the zeros after the used payload
      module _ (p : Proper e) (n : c ≤ m) (u : ℕ) (eu : u ≡ used h c) where
        pub formed_used : u ≤ e.leaf
        formed_used = rw eu (used_fits e p h c (rw (← em) n))

        pub formed_zeros : (z : Bool) → length b ≡ e.size → z ≡ zeros (take (16 + e.leaf - (16 + u)) (drop (16 + u) b)) → z ≡ formed e h root edge b
        unfolding formed both part
        formed_zeros z len ez =
            let i : u ≤ e.leaf = formed_used in
            let w : 16 + u + (16 + e.leaf - (16 + u)) ≡ 16 + e.leaf = omega arith in
            let t : drop (16 + u) (take (16 + e.leaf) b) ≡ take (16 + e.leaf - (16 + u)) (drop (16 + u) b) =
            ap (λ (j : ℕ). drop (16 + u) (take j b)) (sym w)
            ∙ part_front (16 + u) (16 + e.leaf - (16 + u)) b (omega (arith, p.fits)) in
            simp (← ef, eq-eqb f h q, ← ec, ← el, le-leb l c k, ← em, le-leb c m n, ← eu, t, ← ez)

-- checks 2 and 3: x is what check 2 finds
module _ (e : Edition) (h : ℕ) (root edge : Bool) (v s : ℕ) (b : List ℕ) (x : Option Reason) (ex : x ≡ flaw e v s b) where
  pub check_flaw : (why : Reason) → x ≡ Some why → (r : Refusal) → r ≡ at why s → Err r ≡ block_check e h root edge v s b
  unfolding block_check unless
  check_flaw why z r er = rw (← ex, z, er)

  module _ (z : x ≡ None) (f : Bool) (ef : f ≡ formed e h root edge b) where
    pub check_passed : f ≡ true → Ok tt ≡ block_check e h root edge v s b
    unfolding block_check unless must
    check_passed t = rw (← ex, z, ← ef, t)

    pub check_shape : f ≡ false → (r : Refusal) → r ≡ at WrongShape s → Err r ≡ block_check e h root edge v s b
    unfolding block_check unless must
    check_shape t r er = rw (← ex, z, ← ef, t, er)

-- the check of one record, as far as the code has come: m says whether the mark is right, st is the state
module _ (r : List ℕ) (m : Bool) (em : m ≡ same_list (take 2 r) (0x52 ∷ 0x31 ∷ [])) where
  pub sound_mark : not m ≡ true → false ≡ sound_record r
  unfolding sound_record both
  sound_mark t = simp (← em, not-true m t)

  module _ (t : not m ≡ false) (st : ℕ) (es : st ≡ state_of r) where
    pub sound_state : 2 < st → false ≡ sound_record r
    unfolding sound_record both
    sound_state n = simp (← em, not-false m t, ← es, lt-leb st 2 n)

    module _ (k : st ≤ 2) where
      pub sound_fourth : (get_or r 3 0 ≡ 0 → ⊥) → false ≡ sound_record r
      unfolding sound_record both
      sound_fourth n = simp (← em, not-false m t, ← es, le-leb st 2 k, ne_eqb (get_or r 3 0) 0 n)

      module _ (z : get_or r 3 0 ≡ 0) where
        pub sound_free : st ≡ 0 → true ≡ sound_record r
        unfolding sound_record both pick
        sound_free f = simp (← em, not-false m t, ← es, le-leb st 2 k, eq-eqb (get_or r 3 0) 0 z, eq-eqb st 0 f)

        pub sound_live : (st ≡ 0 → ⊥) → (v : ℕ) → v ≡ recorded_of r → leb 1 v ≡ sound_record r
        unfolding sound_record both pick
        sound_live f v ev =
            simp (← em, not-false m t, ← es, le-leb st 2 k, eq-eqb (get_or r 3 0) 0 z, ne_eqb st 0 f, ← ev)
