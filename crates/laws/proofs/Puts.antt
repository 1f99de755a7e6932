-- What stands at each slot after changes, blocks and records alike, since both are slots of one width. A put replaces one slot's part and leaves
-- the others; the changes of a call name each slot once at most, in rising order, so that after all of them each slot holds what its own change
-- puts there, or what it held.
use mathlib.Core.Path.{◌≡◌, refl, sym, ap, ◌∙◌}
use mathlib.Core.Bool.{Bool, true, false}
use mathlib.Core.Logic.{◌⊎◌, inl, inr}
use mathlib.Core.List.{List, [], ◌∷◌, ◌++◌}
use Prim.Native.Nat.{ℕ, zero, suc, ◌+◌, ◌*◌, ◌≤◌, ◌<◌}
use native.Mathlib.Omega.{arith}
use native.Mathlib.Nat.{mul-le-mul_left, mul-suc}
use borrow.Author.Tests.{ltb-true, ltb-false, eqb-true, eqb-false}
use lib.Dec.{eqb, ltb}
use lib.ListN.{length, length-replicate}
use Rattle.meaning.specs.declared.Edition.{Edition}
use Rattle.meaning.specs.Lists.{pick, part, range}
use Rattle.meaning.specs.Bytes.{Cell, block, record_at, state}
use Rattle.meaning.specs.Tree.{Held, nothing, just}
use Rattle.meaning.specs.Change.{Change, Store, put, puts, changed_by, freed, renewed, changed, changes}
use Rattle.laws.proofs.Parts.{pasted_length, part_pasted, part_pasted_before, part_pasted_after}
use Rattle.laws.proofs.Codec.{encoded_length, record_length}
use Rattle.laws.proofs.Inversions.{by_test}

-- new bytes, as wide as a slot, in the place of slot s of N
module _ (w N s : ℕ) (new l : List ℕ) (wide : length new ≡ w) (low : s < N) (long : length l ≡ w * N) where
  -- they lie within the list
  within : w * s + length new ≤ length l
  within = omega (arith, wide, mul-le-mul_left w low, mul-suc w s)

  -- are found there
  pub put_same : part (w * s) w (put w s new l) ≡ new
  unfolding put
  put_same = ap (λ (n : ℕ). part (w * s) n (put w s new l)) (sym wide) ∙ part_pasted (w * s) new l within

  -- leave the length
  pub put_length : length (put w s new l) ≡ length l
  unfolding put
  put_length = pasted_length (w * s) new l within

  -- and every other slot
  pub put_other : (x : ℕ) → (x ≡ s → ⊥) → part (w * x) w (put w s new l) ≡ part (w * x) w l
  unfolding put
  put_other x d =
      by_test (ltb x s)
      (λ t.
      let m : w * suc x ≤ w * s = mul-le-mul_left w (ltb-true x s t) in
      part_pasted_before (w * s) new l within (w * x) w (omega arith))
      (λ t.
      let o : s ≤ x = ltb-false x s t in
      let h : suc s ≤ x = omega arith in
      let m : w * suc s ≤ w * x = mul-le-mul_left w h in
      part_pasted_after (w * s) new l within (w * x) w (omega arith))

-- changes in two lists
pub puts_append : (w : ℕ) (f : Change → List ℕ) (a b : List Change) (l : List ℕ) → puts w f (a ++ b) l ≡ puts w f b (puts w f a l)
unfolding puts
puts_append w f [] b l = refl
puts_append w f (c ∷ a) b l = puts_append w f a b (put w c.slot (f c) l)

-- no change, or one: of slot s, with a whole block and a whole record
abbrev pub Single : Edition → ℕ → List Change → Type 0
Single e s cs =
    (cs ≡ []) ⊎ ((b : List ℕ) × (line : List ℕ) × (cs ≡ record { slot = s; block = b; line = line } ∷ []) × (length b ≡ e.size) × (length line ≡ 12))

-- so of each choice that changes are made of
pub pick_single : (e : Edition) (s : ℕ) (t : Bool) (a b : List Change) → Single e s a → Single e s b → Single e s (pick t a b)
unfolding pick
pick_single e s true a b x y = x
pick_single e s false a b x y = y

pub freed_single : (e : Edition) (R : List ℕ) (s : ℕ) → Single e s (freed e R s ∷ [])
unfolding freed
freed_single e R s = inr (_, _, refl, length-replicate e.size 0, record_length 0 _)

pub renewed_single : (e : Edition) (R : List ℕ) (st s : ℕ) (c : Cell) → Single e s (renewed e R st s c ∷ [])
unfolding renewed
renewed_single e R st s c = inr (_, _, refl, encoded_length e c s _, record_length st _)

-- what the first change makes of what was
unfoldable pub left_by : (Change → List ℕ) → List Change → List ℕ → List ℕ
left_by f [] was = was
left_by f (c ∷ cs) was = f c

-- a slot's changes are none or one
pub changed_single : (e : Edition) (R : List ℕ) (taken s : ℕ) (old new : Held) → Single e s (changed e R taken s old new)
unfolding changed
changed_single e R taken s nothing nothing = inl refl
changed_single e R taken s nothing (just c) = renewed_single e R taken s c
changed_single e R taken s (just b) nothing = freed_single e R s
changed_single e R taken s (just b) (just c) = pick_single e s _ _ _ (inl refl) (renewed_single e R (state R s) s c)

-- a list in parts of w, and a field of a change that is w long
module _ (e : Edition) (w N : ℕ) (f : Change → List ℕ)
    (wide : (c : Change) → length c.block ≡ e.size → length c.line ≡ 12 → length (f c) ≡ w) where
  -- after one slot's changes
  record OneStep (s : ℕ) (cs : List Change) (l : List ℕ) : Type 0 where
    long : length (puts w f cs l) ≡ length l
    here : part (w * s) w (puts w f cs l) ≡ left_by f cs (part (w * s) w l)
    there : (j : ℕ) → (j ≡ s → ⊥) → part (w * j) w (puts w f cs l) ≡ part (w * j) w l

  -- so it is
  one_step : (s : ℕ) (cs : List Change) (l : List ℕ) → Single e s cs → s < N → length l ≡ w * N → OneStep s cs l
  unfolding puts left_by
  one_step s cs l (inl q) low long = rw q (record { long = refl; here = refl; there = λ j h. refl })
  one_step s cs l (inr (b, line, q, whole, lined)) low long =
      let c : Change = record { slot = s; block = b; line = line } in
      let u : length (f c) ≡ w = wide c whole lined in
      rw q (record {
        long = put_length w N s (f c) l u low long;
        here = put_same w N s (f c) l u low long;
        there = put_other w N s (f c) l u low long;
      })

  module _ (R : List ℕ) (taken : ℕ) (old new : ℕ → Held) where
    -- after the changes of a range of slots
    pub record Ranged (from n : ℕ) (l : List ℕ) : Type 0 where
      pub long : length (puts w f (changes e R taken old new (range from n)) l) ≡ length l
      pub below : (j : ℕ) → j < from → part (w * j) w (puts w f (changes e R taken old new (range from n)) l) ≡ part (w * j) w l
      pub within : (j : ℕ) → from ≤ j → j < from + n
          → part (w * j) w (puts w f (changes e R taken old new (range from n)) l) ≡ left_by f (changed e R taken j (old j) (new j)) (part (w * j) w l)

    -- so it is
    pub ranged : (from n : ℕ) (l : List ℕ) → from + n ≤ N → length l ≡ w * N → Ranged from n l
    unfolding puts changes range
    ranged from zero l low long = record { long = refl; below = λ j h. refl; within = λ j h k. absurd (omega arith) }
    ranged from (suc n) l low long =
        let cs : List Change = changed e R taken from (old from) (new from) in
        let s : OneStep from cs l = one_step from cs l (changed_single e R taken from (old from) (new from)) (omega arith) long in
        let r : Ranged (suc from) n (puts w f cs l) = ranged (suc from) n (puts w f cs l) (omega arith) (s.long ∙ long) in
        let app = puts_append w f cs (changes e R taken old new (range (suc from) n)) l in
        record {
          long = ap length app ∙ r.long ∙ s.long;
          below = λ j h. ap (part (w * j) w) app ∙ r.below j (omega arith) ∙ s.there j (λ q. absurd (omega arith));
          within = λ j h k. ap (part (w * j) w) app ∙ by_test (eqb j from)
              (λ t. rw (eqb-true j from t) (r.below from (omega arith) ∙ s.here))
              (λ t. let other = eqb-false j from t in
              r.within j (omega arith) (omega arith) ∙ ap (left_by f (changed e R taken j (old j) (new j))) (s.there j other));
        }

-- a store of N slots after the changes of all slots
module _ (e : Edition) (N : ℕ) (S : Store) (taken : ℕ) (old new : ℕ → Held) (whole : length S.pool ≡ e.size * N)
    (lines : length S.records ≡ 12 * N) where
  -- the store after
  abbrev pub Then : Store
  Then = changed_by e (changes e S.records taken old new (range 0 N)) S

  -- what the changes make of the pool
  pools : Ranged e e.size N (λ c. c.block) (λ c b r. b) S.records taken old new 0 N S.pool
  pools = ranged e e.size N (λ c. c.block) (λ c b r. b) S.records taken old new 0 N S.pool (omega arith) whole

  -- and of the records
  records : Ranged e 12 N (λ c. c.line) (λ c b r. r) S.records taken old new 0 N S.records
  records = ranged e 12 N (λ c. c.line) (λ c b r. r) S.records taken old new 0 N S.records (omega arith) lines

  -- the pool's length is kept
  pub then_pool : length Then.pool ≡ length S.pool
  unfolding changed_by
  then_pool = pools.long

  -- and so is the records'
  pub then_records : length Then.records ≡ length S.records
  unfolding changed_by
  then_records = records.long

  -- each slot's block is its change's, or what it was
  pub then_block : (s : ℕ) → s < N
      → block e Then.pool s ≡ left_by (λ c. c.block) (changed e S.records taken s (old s) (new s)) (block e S.pool s)
  unfolding changed_by block
  then_block s low = pools.within s (omega arith) (omega arith)

  -- and so is its record
  pub then_record : (s : ℕ) → s < N
      → record_at Then.records s ≡ left_by (λ c. c.line) (changed e S.records taken s (old s) (new s)) (record_at S.records s)
  unfolding changed_by record_at
  then_record s low = records.within s (omega arith) (omega arith)
