-- What the reading calls give of a blob that the blob check finds, and stores that pass every check: the demands' words for them against those of the
-- laws, their blobs, and what the audit counts there.
use mathlib.Core.Path.{◌≡◌, refl, sym, ap, subst, ◌∙◌}
use mathlib.Core.Logic.{⊎_elim}
use mathlib.Core.Bool.{true}
use mathlib.Core.List.Memᴰ
use mathlib.Core.List.{List, [], ◌∷◌, ◌++◌, Memᴰ}
use Prim.Native.Nat.{ℕ, suc, ◌+◌, ◌*◌, ◌≤◌, ◌<◌}
use native.Mathlib.Omega.{arith}
use native.Mathlib.Nat.{mul-le-mul_left}
use borrow.Author.Tests.{le-ltb, lt-leb}
use lib.ListN.{length, get_or, drop, replicate}
use Rattle.meaning.specs.declared.Edition.{Edition}
use Rattle.meaning.specs.Lists.{part}
use Rattle.meaning.specs.Edition.{Proper}
use Rattle.meaning.specs.Bytes.{block, count_of, data_of}
use Rattle.meaning.specs.Tree.{Blob, root_of, content_of, leaves_of, slots_of, length_of}
use Rattle.meaning.specs.Walk.{fine, blob_check}
use Rattle.meaning.specs.Change.{Store}
use Rattle.meaning.specs.Calls.{Outcome, refuse_if, sized, opened, reading, refuse_past, live}
use Rattle.meaning.specs.Calls.{length_call, length_in, length_on, read_call, read_in, read_on, show_call, show_in, show_on, audit_call, audit_in, audit_on}
use Rattle.meaning.specs.Answers.{yields}
use Rattle.meaning.specs.Run.{Call, audit, tell_length, read, show_leaf, says, run, blocks_of}
use Rattle.laws.proofs.Numbers.{part_part}
use Rattle.laws.proofs.Walked.{mem_at, walk_here, LeafHere}
use Rattle.laws_resize.proofs.resizing.SlotCounts.{times_cons}
use Rattle.laws_sound.proofs.sound.TimesListed.{marked, times_same}
use Rattle.laws.proofs.Every.{every_mem}
use Rattle.laws_sound.proofs.sound.Blobs.{Lies, lies_within}
use Rattle.laws.proofs.TreeSlots.{slots_root}
use Rattle.laws_sound.proofs.sound.Pools.{Pool, pool_found, pool_passes}
use Rattle.laws_sound.proofs.again.Outcomes.{Opens, Lengths, sized_lengths, Among, blob_among, among_walk}
use Rattle.laws_sound.proofs.again.Counts.{entries, live_count, all_blocks}
use Rattle.laws_sound.proofs.again.Done.{Good, among_others}
use Rattle.laws_sound.proofs.again.Runs.{run_good, good_passes}
use Rattle.promises.proofs.Said.{said_by, one_number, all_bytes, leaf_shown, says_audit, says_length, says_read, says_show}
use Rattle.promises.proofs.Refused.{opened_passed, root_passed, check_passed}
use Rattle.promises.specs.Demands.{slots_at, blob_at, pool_at, Opened, Passes, Finds, as_book}

-- one of a list
pub in_middle : {A : Type 0} (before : List A) (x : A) (later : List A) → Memᴰ x (before ++ (x ∷ later))
in_middle [] x later = Memᴰ.head refl
in_middle (y ∷ before) x later = Memᴰ.tail (in_middle before x later)

-- the two words for a store that opens
pub is_opened : (e : Edition) (S : Store) → Opens e S.pool S.records → Opened e S
is_opened e S o = record { lengths = o.sized; layout = o.sound }

-- and for one that passes
pub good_is : (e : Edition) (S : Store) (bs : List Blob) → Good e S bs → Passes e S bs
good_is e S bs g = (is_opened e S g.opens, (_, good_passes e S bs g))

-- from its pool
pub pool_is : (e : Edition) (S : Store) (bs : List Blob) → Opens e S.pool S.records
    → Pool e (slots_at e S) S.pool S.records bs → Passes e S bs
pool_is e S bs o q = (is_opened e S o, (_, pool_passes e (slots_at e S) S.pool S.records bs q))

-- each moment of a run passes
pub moment_passes : (e : Edition) → Proper e → (S : Store) → sized e S.pool S.records ≡ true → (calls : List Call) (M : Store)
    → Memᴰ M (run e S calls) → (bs : List Blob) × Passes e M bs
moment_passes e p S h calls M m =
    let (bs, g) = every_mem (λ M. (bs : List Blob) × Good e M bs) (run_good e p S h calls) m in (bs, good_is e M bs g)

-- a blob's root is a slot of its pool
pub root_below : (e : Edition) (N : ℕ) (P R : List ℕ) (b : Blob) → Lies e N P R b → root_of b < N
root_below e N P R b l =
    lies_within e N P R b l (root_of b)
    (rw slots_root (omega (arith, times_cons (root_of b) (root_of b) (drop 1 (slots_of b)), times_same (root_of b) (root_of b) refl)))

module _ (e : Edition) (p : Proper e) (S : Store) where
  abbrev N : ℕ
  N = slots_at e S

  abbrev P : List ℕ
  P = S.pool

  abbrev R : List ℕ
  R = S.records

  -- a root whose blob the blob check finds
  module _ (r : ℕ) (b : Blob) (f : Finds e S r b) where
    -- its lengths
    size : Lengths e P R
    size = sized_lengths e P R f.0.lengths

    -- a reading call of that root is what it does on the blob
    pub reads : {A : Type 0} (k : Blob → Outcome A) → opened e P R (reading e N P R r k) ≡ k b
    unfolding reading
    reads k = opened_passed e S _ f.0 ∙ root_passed e S _ r f.1 ∙ check_passed (blob_at e S r) k b f.2.0 f.2.1

    -- length
    pub gives_length : says e S (tell_length r) ≡ yields (length_of b ∷ [])
    unfolding length_call length_in length_on said_by
    gives_length = says_length e S r ∙ ap (said_by one_number) (reads (length_on e N P R))

    -- read
    pub gives_bytes : (offset size : ℕ) → offset + size ≤ length_of b → says e S (read r offset size) ≡ yields (part offset size (content_of b))
    unfolding read_call read_in read_on refuse_past said_by refuse_if
    gives_bytes offset k h =
        says_read e S r offset k ∙ ap (said_by all_bytes) (reads (read_on e N P R offset k)) ∙ rw (le-ltb (length_of b) (offset + k) h)

    -- a leaf's bytes as they lie in the pool
    leaf_bytes : (s : ℕ) (d : List ℕ) → Memᴰ (s, d) (leaves_of b) → part (e.size * s + 16) (length d) P ≡ d
    unfolding blob_check data_of block
    leaf_bytes s d k =
        let here : LeafHere e N P (s, d) = walk_here e p N P R size.whole (replicate N 0) r f.2.1 f.1.0 (s, d) k in
        let is : data_of (block e P s) ≡ d = ap (λ (l : ℕ × List ℕ). l.1) here.bytes in
        let low : s < N = here.block.within in
        let count : length d ≡ count_of (block e P s) = ap length (sym is) ∙ sym here.block.count in
        let few : length d ≤ e.leaf = rw (sym (ap length is)) here.block.most in
        let fits : 16 + length d ≤ e.size = omega (arith, p.fits) in
        let m : e.size * suc s ≤ e.size * N = mul-le-mul_left e.size low in
        sym (part_part (e.size * s) e.size 16 (length d) P fits (omega (arith, size.whole)))
        ∙ ap (λ (n : ℕ). part 16 n (block e P s)) count ∙ is

    -- show a leaf
    pub gives_leaf : (k s : ℕ) (d : List ℕ) → k < length (leaves_of b) → get_or (leaves_of b) k (0, []) ≡ (s, d)
        → says e S (show_leaf r k) ≡ yields ((e.size * s + 16) ∷ length d ∷ d)
    unfolding show_call show_in show_on said_by refuse_if
    gives_leaf k s d h q =
        let bytes = leaf_bytes s d (subst (λ (l : ℕ × List ℕ). Memᴰ l (leaves_of b)) q (mem_at (leaves_of b) k (0, []) h)) in
        says_show e S r k ∙ ap (said_by (leaf_shown e P)) (reads (show_on e N P R k))
        ∙ rw (lt-leb (length (leaves_of b)) k h, q, bytes)

  -- a store that passes
  module _ (bs : List Blob) (g : Passes e S bs) where
    -- its pool
    pool : Pool e N P R bs
    pool = pool_found e p N P R (sized_lengths e P R g.0.lengths).whole g.1.1

    -- its audit counts the live slots
    audit_counts : says e S audit ≡ yields (length (live e N P R) ∷ [])
    unfolding audit_call audit_in audit_on said_by
    audit_counts =
        says_audit e S ∙ ap (said_by one_number) (opened_passed e S _ g.0 ∙ check_passed (pool_at e S) (audit_on e N P R) bs g.1.0 g.1.1)

    -- which are as many as the block totals of its blobs' lengths add up to
    live_blocks : length (live e N P R) ≡ blocks_of e (as_book bs)
    unfolding entries
    live_blocks = live_count e N P R bs pool g.0.layout ∙ all_blocks e p N P R bs pool.lie

    -- both
    pub gives_count : (says e S audit ≡ yields (length (live e N P R) ∷ [])) × (length (live e N P R) ≡ blocks_of e (as_book bs))
    gives_count = (audit_counts, live_blocks)

    -- a blob of it
    module _ (b : Blob) (m : Memᴰ b bs) where
      -- lies in its pool
      lies : Lies e N P R b
      lies = every_mem (Lies e N P R) pool.lie m

      -- between the others
      among : Among e N P R (root_of b) bs
      among = blob_among e N P R (root_of b) bs pool (root_below e N P R b lies) lies.root

      -- is the one of its root
      own : among.blob ≡ b
      own =
          let o = among_others e N P R (root_of b) bs among in
          ⊎_elim
          (λ k. absurd (every_mem (λ c. root_of c ≡ root_of b → ⊥) o.0 k refl))
          (λ k. ⊎_elim (λ q. sym q) (λ k. absurd (every_mem (λ c. root_of c ≡ root_of b → ⊥) o.1 k refl)) (Memᴰ.cases_cons k))
          (Memᴰ.append_cases among.before (subst (λ (l : List Blob). Memᴰ b l) among.all m))

      -- and is found from it
      pub is_alive : Finds e S (root_of b) b
      is_alive = (
        g.0,
        (root_below e N P R b lies, lies.root),
        (_, among_walk e N P R (root_of b) bs among ∙ ap (λ (c : Blob). fine c (marked (replicate N 0) (slots_of among.blob))) own),
      )
