-- A run starts with a wipe of a store of good lengths: every slot is then free, zeros, at version 0. So the laws of a history hold at every
-- moment of every run.
use Rattle.std.specs.Prelude.{Some}
use mathlib.Core.Path.{◌≡◌, refl, sym, ap, subst, ◌∙◌}
use mathlib.Core.Bool.{true}
use mathlib.Core.List.{List, Memᴰ}
use Prim.Native.Nat.{ℕ, suc, ◌+◌, ◌-◌, ◌*◌, ◌%◌, ◌≤◌, ◌<◌}
use native.Mathlib.Omega.{arith}
use native.Mathlib.Nat.{mul-le-mul_left, mul-mod_right, div-add-mod}
use borrow.Author.Tests.{eqb-true, leb-true, eq-eqb, le-leb}
use lib.Dec.{eqb, leb}
use lib.ListN.{length, take, drop, replicate, length-replicate, replicate-append-replicate}
use lib.Seq.{take_at, drop_at}
use Rattle.meaning.specs.declared.Edition.{Edition}
use Rattle.meaning.specs.Lists.{pick, part, same_list}
use Rattle.meaning.specs.Edition.{Proper}
use Rattle.meaning.specs.Bytes.{block, sound_record}
use Rattle.meaning.specs.Walk.{flaw}
use Rattle.meaning.specs.Change.{Store}
use Rattle.meaning.specs.Calls.{slots_in, sized, free_records, wiped, after_wipe}
use Rattle.meaning.specs.Run.{Call, run}
use Rattle.meaning.specs.declared.Reason.TheVariants.{Spoiled}
use Rattle.laws.proofs.Free.{free_record, free_length}
use Rattle.laws.proofs.Codec.{record_kept, state_of_lem, recorded_of_lem, blank_flaw}
use Rattle.laws.proofs.Inversions.{by_test, both_true, true_both, same_list_lem, some_not_none}
use Rattle.laws_history.proofs.Local.{unlike, Told}
use Rattle.laws_history.proofs.Stepped.{Settled}
use Rattle.laws.proofs.Walked.{slots_in_lem}
use Rattle.laws_history.proofs.History.{state_in, version_in, block_in, Kept, free, Misplaced, misplaced_some}
use Rattle.laws_history.proofs.History.{settled_at, free_blank, misplaced}

-- a part of zeros is zeros
part_zeros : (a w n : ℕ) → a + w ≤ n → part {A = ℕ} a w (replicate n 0) ≡ replicate w 0
unfolding part
part_zeros a w n h =
    ap (λ (l : List ℕ). take w (drop a l)) (split ∙ sym (replicate-append-replicate a (w + (n - (a + w))) 0))
    ∙ ap (take w) (drop_at (replicate a 0) _ a (length-replicate a 0) ∙ sym (replicate-append-replicate w (n - (a + w)) 0))
    ∙ take_at (replicate w 0) _ w (length-replicate w 0)
  where
    split : ◌≡◌ {A = List ℕ} (replicate n 0) (replicate (a + (w + (n - (a + w)))) 0)
    split = let z : n ≡ a + (w + (n - (a + w))) = omega arith in ap (λ (n : ℕ). replicate n 0) z

-- a wiped store is settled
pub wiped_settled : (e : Edition) (N : ℕ) → Settled e N (wiped e N)
unfolding wiped
wiped_settled e N =
    record {
      pools = length-replicate (e.size * N) 0;
      lines = free_length N;
      sound = λ x h. ap sound_record (free_record N x h) ∙ record_kept 0 0 (omega arith) (omega arith) (λ z. absurd (z refl));
      small = λ x h. omega (arith, recorded_of_lem (free_records N) x 0 0 (free_record N x h) (omega arith));
    }

-- and its slots are free and zeros
pub wiped_kept : (e : Edition) (N x : ℕ) → x < N → Kept e (wiped e N) x
unfolding wiped block
wiped_kept e N x h =
    let m : e.size * suc x ≤ e.size * N = mul-le-mul_left e.size h in
    free (state_of_lem (free_records N) x 0 0 (free_record N x h)) (part_zeros (e.size * x) e.size (e.size * N) (omega arith))

-- what good lengths are
pub record Sized (e : Edition) (N : ℕ) (P R : List ℕ) : Type 0 where
  pub some : 1 ≤ N
  pub few : N ≤ e.most
  pub pool : length P ≡ e.size * N
  pub lines : length R ≡ 12 * N

-- a pool of the same length has them too
pub other_sized : (e : Edition) (N : ℕ) (P P* R : List ℕ) → Sized e N P R → length P* ≡ length P → Sized e N P* R
other_sized e N P P* R s same = record { some = s.some; few = s.few; pool = same ∙ s.pool; lines = s.lines }

-- a store that is found of good lengths has them
pub sized_so : (e : Edition) (P R : List ℕ) → sized e P R ≡ true → Sized e (slots_in e P) P R
unfolding sized slots_in
sized_so e P R h =
    let x = both_true (eqb (length P % e.size) 0) _ h in
    let y = both_true (leb 1 (slots_in e P)) _ x.1 in
    let z = both_true (leb (slots_in e P) e.most) _ y.1 in
    record {
      some = leb-true 1 (slots_in e P) y.0;
      few = leb-true (slots_in e P) e.most z.0;
      pool = omega (arith, div-add-mod (length P) e.size, eqb-true (length P % e.size) 0 x.0);
      lines = eqb-true (length R) (12 * slots_in e P) z.1;
    }

-- one that has them is found so
pub so_sized : (e : Edition) → Proper e → (N : ℕ) (P R : List ℕ) → Sized e N P R → sized e P R ≡ true
unfolding sized
so_sized e p N P R s =
    let n : slots_in e P ≡ N = slots_in_lem e p N P s.pool in
    true_both (eqb (length P % e.size) 0) _ (eq-eqb (length P % e.size) 0 (ap (λ (k : ℕ). k % e.size) s.pool ∙ mul-mod_right e.size N))
    (true_both (leb 1 (slots_in e P)) _ (le-leb 1 (slots_in e P) (rw n s.some))
    (true_both (leb (slots_in e P) e.most) _ (le-leb (slots_in e P) e.most (rw n s.few))
    (eq-eqb (length R) (12 * slots_in e P) (s.lines ∙ ap (λ (k : ℕ). 12 * k) (sym n)))))

-- the wipe of a store of good lengths
pub wipe_starts : (e : Edition) (S : Store) → sized e S.pool S.records ≡ true → after_wipe e S ≡ wiped e (slots_in e S.pool)
unfolding after_wipe pick
wipe_starts e S h = rw h

-- what a slot of another pool may hold: zeros, or the bytes that some slot held at one of these moments
pub data Filling (e : Edition) (N : ℕ) (stores : List Store) (b : List ℕ) : Type 0 where
  blank : b ≡ replicate e.size 0 → Filling e N stores b
  held : (T : Store) (y : ℕ) → Memᴰ T stores → y < N → b ≡ block e T.pool y → Filling e N stores b

-- a pool of which each slot holds zeros, or what some slot held at some moment of the run
abbrev pub FromRun : Edition → Store → List Call → List ℕ → Type 0
FromRun e S₀ calls P* = (x : ℕ) → x < slots_in e S₀.pool → Filling e (slots_in e S₀.pool) (run e S₀ calls) (block e P* x)

-- any run, from any store of good lengths, by any calls
module _ (e : Edition) (p : Proper e) (S₀ : Store) (good : sized e S₀.pool S₀.records ≡ true) (calls : List Call) where
  abbrev N : ℕ
  N = slots_in e S₀.pool

  -- a run has no more slots than the edition allows
  few_slots : N ≤ e.most
  few_slots = (sized_so e S₀.pool S₀.records good).few

  -- its first moment is settled
  start_settled : Settled e N (after_wipe e S₀)
  start_settled = subst (Settled e N) (sym (wipe_starts e S₀ good)) (wiped_settled e N)

  -- and its slots are free and zeros
  start_kept : (x : ℕ) → x < N → Kept e (after_wipe e S₀) x
  start_kept x h = subst (λ (S : Store). Kept e S x) (sym (wipe_starts e S₀ good)) (wiped_kept e N x h)

  -- every moment is settled
  pub run_settled : (T : Store) → Memᴰ T (run e S₀ calls) → Settled e N T
  unfolding run
  run_settled T a = settled_at e p N few_slots (after_wipe e S₀) start_settled start_kept calls T a

  -- its pool has as many slots
  pub run_slots : (T : Store) → Memᴰ T (run e S₀ calls) → slots_in e T.pool ≡ N
  run_slots T a = slots_in_lem e p N T.pool (run_settled T a).pools

  -- and it is of good lengths
  pub run_sized : (T : Store) → Memᴰ T (run e S₀ calls) → Sized e N T.pool T.records
  run_sized T a =
      let s = run_settled T a in
      let g = sized_so e S₀.pool S₀.records good in
      record { some = g.some; few = g.few; pool = s.pools; lines = s.lines }

  -- a free slot is zeros
  pub run_blank : (T : Store) → Memᴰ T (run e S₀ calls) → (x : ℕ) → x < N → state_in T x ≡ 0 → block_in e T x ≡ replicate e.size 0
  unfolding run
  run_blank = free_blank e p N few_slots (after_wipe e S₀) start_settled start_kept calls

  -- a block of the history that is not the one that a live slot holds fails check 2 there, and by its number says why
  pub run_misplaced : (T U : Store) → Memᴰ T (run e S₀ calls) → Memᴰ U (run e S₀ calls) → (x y : ℕ) → x < N → y < N
      → 1 ≤ state_in U x → (block_in e T y ≡ block_in e U x → ⊥) → Misplaced T y (version_in U x) x (flaw e (version_in U x) x (block_in e T y))
  unfolding run
  run_misplaced = misplaced e p N few_slots (after_wipe e S₀) start_settled start_kept calls

  -- what passes check 2 at a slot of such a pool, where the record is that of a live slot at a moment, is what that slot held then
  pub run_told : (S : Store) → Memᴰ S (run e S₀ calls) → (P* : List ℕ) → FromRun e S₀ calls P* → (x : ℕ) → x < N → 1 ≤ state_in S x
      → Told e S.pool P* S.records x
  run_told S a P* fill x h l z = go (fill x h)
    where
      go : Filling e N (run e S₀ calls) (block e P* x) → block e P* x ≡ block_in e S x
      go (blank q) =
          let f : flaw e (version_in S x) x (block e P* x) ≡ Some Spoiled = ap (flaw e (version_in S x) x) q ∙ blank_flaw e p (version_in S x) x in
          some_not_none (sym f ∙ z)
      go (held T y b k q) =
          by_test (same_list (block_in e T y) (block_in e S x))
          (λ t. q ∙ same_list_lem (block_in e T y) (block_in e S x) t)
          (λ t.
          let d = unlike (block_in e T y) (block_in e S x) t in
          absurd (misplaced_some (run_misplaced T S b a x y h k l d) (ap (flaw e (version_in S x) x) (sym q) ∙ z)))
