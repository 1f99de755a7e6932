-- After a wipe: the pool is all zeros and every record is free, so the pool check passes and finds no blob.
use mathlib.Core.Path.{◌≡◌, refl, ap, ◌∙◌, sym}
use mathlib.Core.Bool.{true, false}
use mathlib.Core.List.{List, [], ◌∷◌}
use Prim.Native.Nat.{ℕ, zero, suc, ◌*◌, ◌%◌, ◌≤◌, ◌<◌}
use native.Mathlib.Nat.{mul-div_cancel_left, mul-mod_right}
use native.Mathlib.Omega.{arith}
use borrow.Author.Tests.{eq-eqb, le-leb}
use lib.Dec.{eqb, leb}
use lib.ListN.{length, take, drop, replicate, length-replicate}
use Rattle.meaning.specs.declared.Edition.{Edition}
use Rattle.meaning.specs.Lists.{pick, all, part, zeros}
use Rattle.meaning.specs.Edition.{Proper}
use Rattle.meaning.specs.Bytes.{block, state, state_of}
use Rattle.meaning.specs.Change.{Store}
use Rattle.meaning.specs.Calls.{slots_in, sized, free_records, wiped, after_wipe}
use Rattle.laws.proofs.Inversions.{both_true, true_both, list_zeros}
use Rattle.laws.proofs.Codec.{state_read}
use Rattle.laws.proofs.Free.{free_record, free_length}
use Rattle.laws_sound.proofs.sound.TimesListed.{times_none}
use Rattle.laws_sound.proofs.sound.Pools.{is_head, all_none, Pool}
use Rattle.laws_sound.proofs.sound.Replaced.{filter_same}
use Rattle.laws_sound.proofs.sound.After.{free_sound}
use Rattle.laws_sound.proofs.again.Counts.{filter_none}
use Rattle.laws_sound.proofs.again.Outcomes.{sized_lengths}
use Rattle.laws_sound.proofs.again.Done.{Good}

-- a front of zeros is zeros
zeros_take : (n : ℕ) (l : List ℕ) → zeros l ≡ true → zeros (take n l) ≡ true
unfolding zeros all
zeros_take zero l h = refl
zeros_take (suc n) [] h = refl
zeros_take (suc n) (x ∷ l) h =
    let b = both_true (eqb x 0) (zeros l) h in
    true_both (eqb x 0) (zeros (take n l)) b.0 (zeros_take n l b.1)

-- and a rest of them
zeros_drop : (n : ℕ) (l : List ℕ) → zeros l ≡ true → zeros (drop n l) ≡ true
unfolding zeros all
zeros_drop zero l h = h
zeros_drop (suc n) [] h = refl
zeros_drop (suc n) (x ∷ l) h = zeros_drop n l (both_true (eqb x 0) (zeros l) h).1

-- each of n free records is of state free
free_state : (n s : ℕ) → s < n → state (free_records n) s ≡ 0
unfolding state
free_state n s low = ap state_of (free_record n s low) ∙ state_read 0 0

module _ (e : Edition) (n : ℕ) (some : 1 ≤ e.size) where
  -- a wiped pool has as many slots
  wiped_slots : slots_in e (replicate (e.size * n) 0) ≡ n
  unfolding slots_in
  wiped_slots = rw (length-replicate {A = ℕ} (e.size * n) 0) (mul-div_cancel_left n some)

  -- and good lengths
  wiped_sized : 1 ≤ n → n ≤ e.most → sized e (replicate (e.size * n) 0) (free_records n) ≡ true
  unfolding sized
  wiped_sized low high =
      let m : ℕ = length {A = ℕ} (replicate (e.size * n) 0) % e.size in
      let k : m ≡ 0 = ap (λ (x : ℕ). x % e.size) (length-replicate {A = ℕ} (e.size * n) 0) ∙ mul-mod_right e.size n in
      true_both (eqb m 0) _ (eq-eqb m 0 k)
      (rw wiped_slots (true_both (leb 1 n) _ (le-leb 1 n low)
      (true_both (leb n e.most) _ (le-leb n e.most high) (eq-eqb (length (free_records n)) (12 * n) (free_length n)))))

  -- its pool check finds no blob
  wiped_pool : Pool e n (replicate (e.size * n) 0) (free_records n) []
  unfolding block part is_head
  wiped_pool = record {
    heads = sym (filter_same (is_head (free_records n)) (λ s. false) 0 n (λ s lo hi. ap (λ (x : ℕ). eqb x 2) (free_state n s (omega arith)))
        ∙ filter_none (λ s. false) 0 n (λ s. refl));
    lie = tt;
    once = λ s. rw all_none (omega (arith, times_none s));
    free = λ s low z. zeros_take e.size _ (zeros_drop (e.size * s) _ (list_zeros (e.size * n)));
    reached = λ s low is. absurd (omega (arith, free_state n s low));
  }

-- a wiped store of n slots
pub wiped_good : (e : Edition) → Proper e → (n : ℕ) → 1 ≤ n → n ≤ e.most → Good e (wiped e n) []
unfolding wiped
wiped_good e p n low high =
    let some : 1 ≤ e.size = omega (arith, p.fits) in
    let k = wiped_slots e n some in
    record {
      opens = record {
        sized = wiped_sized e n some low high;
        sound = λ s h. rw (free_record n s (rw k at h)) (free_sound 0);
      };
      pool = rw k (wiped_pool e n some);
    }

-- so is any store of good lengths, once it is wiped
pub wipe_good : (e : Edition) → Proper e → (S : Store) → sized e S.pool S.records ≡ true → Good e (after_wipe e S) []
unfolding after_wipe pick
wipe_good e p S h =
    let l = sized_lengths e S.pool S.records h in
    rw h (wiped_good e p (slots_in e S.pool) l.some l.most)
