-- What a create and a delete that are done make of the pool's blobs: an empty blob is there, the named blob is gone, and the other blobs stay.
-- Each time the store has good lengths again, records that keep their layout and a pool that passes.
use mathlib.Core.Path.{◌≡◌, refl, ap, ◌∙◌, subst}
use mathlib.Core.List.{List, [], ◌∷◌, ◌++◌}
use Prim.Native.Nat.{ℕ, suc, ◌+◌, ◌-◌, ◌/◌, ◌^◌, ◌≤◌, ◌<◌}
use native.Mathlib.Omega.{arith}
use borrow.Author.Tests.{ltb-false}
use lib.Dec.{ltb}
use lib.ListN.{length, drop}
use Rattle.meaning.specs.declared.Edition.{Edition}
use Rattle.meaning.specs.Lists.{pick}
use Rattle.meaning.specs.Edition.{Proper}
use Rattle.meaning.specs.Bytes.{Cell, state, recorded, last_version}
use Rattle.meaning.specs.Shape.{least_count, ShapedTree, Shaped}
use Rattle.meaning.specs.Tree.{Blob, cells, root_of, slot_of, cells_of, slots_of}
use Rattle.meaning.specs.Change.{Change, Store, changed_by}
use Rattle.meaning.specs.Resize.{lowest}
use Rattle.meaning.specs.Calls.{done, slots_in, sized, usable, create_call, create_in, create_on}
use Rattle.meaning.specs.Calls.{delete_call, delete_in, delete_on, refuse_full}
use Rattle.meaning.specs.Walk.{pool_check}
use Rattle.meaning.specs.declared.Reason.TheVariants.{NoRoom}
use Rattle.laws_resize.proofs.resizing.SlotCounts.{times}
use Rattle.laws_sound.proofs.sound.TimesListed.{by_slot, by_times, Each, each_none, each_more}
use Rattle.laws.proofs.Every.{Every}
use Rattle.laws_sound.proofs.sound.Cells.{cell_slots}
use Rattle.laws_sound.proofs.sound.Blobs.{blob_fits}
use Rattle.laws_sound.proofs.again.Usable.{Usable, usable_each, lowest_in}
use Rattle.laws_sound.proofs.sound.Pools.{Pool, pool_found}
use Rattle.laws_sound.proofs.sound.Replaced.{Parted}
use Rattle.laws_sound.proofs.sound.After.{Next}
use Rattle.laws_sound.proofs.sound.Steps.{Step, step_pool, step_records, step_sound, made_passes, gone_passes}
use Rattle.laws_sound.proofs.again.Parting.{apart_at, none_here, before_other, after_other}
use Rattle.laws_sound.proofs.again.Outcomes.{done_same, refuse_if_done, after_check_done, sized_lengths, Opens, opened_done, Among}
use Rattle.laws_sound.proofs.again.Outcomes.{among_lies, changing_done}

-- a store that passes every check, with its blobs
pub record Good (e : Edition) (S : Store) (bs : List Blob) : Type 0 where
  pub opens : Opens e S.pool S.records
  pub pool : Pool e (slots_in e S.pool) S.pool S.records bs

-- a pool of the same length has as many slots
same_slots : (e : Edition) (P P' : List ℕ) → length P' ≡ length P → slots_in e P' ≡ slots_in e P
unfolding slots_in
same_slots e P P' q = ap (λ (n : ℕ). n / e.size) q

-- and a store of the same lengths is sized as before
same_sized : (e : Edition) (P R P' R' : List ℕ) → length P' ≡ length P → length R' ≡ length R → sized e P' R' ≡ sized e P R
unfolding sized slots_in
same_sized e P R P' R' q r = rw (q, r)

-- after a step, a store whose pool passes does so
pub next_good : (e : Edition) (S : Store) (taken : ℕ) (old new : List (ℕ × Cell)) → Step e (slots_in e S.pool) S taken old new → taken ≤ 2
    → Opens e S.pool S.records → (bs : List Blob)
    → Pool e (slots_in e S.pool) (Next e (slots_in e S.pool) S taken old new).pool (Next e (slots_in e S.pool) S taken old new).records bs
    → Good e (Next e (slots_in e S.pool) S taken old new) bs
next_good e S taken old new d few o bs pool =
    let N : ℕ = slots_in e S.pool in
    let S' : Store = Next e N S taken old new in
    let P' : length S'.pool ≡ length S.pool = step_pool e N S taken old new d in
    let R' : length S'.records ≡ length S.records = step_records e N S taken old new d in
    let same = same_slots e S.pool S'.pool P' in
    record {
      opens = record {
        sized = same_sized e S.pool S.records S'.pool S'.records P' R' ∙ o.sized;
        sound = λ s low. step_sound e N S taken old new d few s (rw same at low) (o.sound s (rw same at low));
      };
      pool = rw same pool;
    }

-- an empty blob
unfoldable pub empty_blob : ℕ → Blob
empty_blob s = record { height = 0; tree = (s, []) }

-- a store with one blob more, an empty one of root s
pub record Made (e : Edition) (S S' : Store) (s : ℕ) : Type 0 where
  pub before : List Blob
  pub after : List Blob
  pub was : Pool e (slots_in e S.pool) S.pool S.records (before ++ after)
  pub good : Good e S' (before ++ (empty_blob s ∷ after))

-- its only slot
empty_slots : (s : ℕ) → cell_slots (cells_of (empty_blob s)) ≡ s ∷ []
unfolding cell_slots cells_of cells empty_blob
empty_slots s = refl

-- its shape
empty_shaped : (e : Edition) (s : ℕ) → Shaped e (empty_blob s)
unfolding Shaped ShapedTree least_count pick empty_blob
empty_shaped e s = (omega arith, omega arith)

-- an empty blob in a usable slot
create_made : (e : Edition) → Proper e → (S : Store) → Opens e S.pool S.records → (bs : List Blob) (s : ℕ)
    → Pool e (slots_in e S.pool) S.pool S.records bs → Usable (slots_in e S.pool) S.records s
    → Made e S (Next e (slots_in e S.pool) S 2 [] (cells_of (empty_blob s))) s
unfolding last_version slots_of cell_slots root_of slot_of empty_blob
create_made e p S o bs s was u =
    let N : ℕ = slots_in e S.pool in
    let P = S.pool in
    let R = S.records in
    let l = sized_lengths e P R o.sized in
    let b : Blob = empty_blob s in
    let q = apart_at R N s (N - suc s) bs (omega (arith, u.within)) was.heads in
    let none = none_here R s (N - suc s) q.before q.here q.after q.parted u.free in
    let slots = empty_slots s in
    let within : Each (λ x. x < N) (s ∷ []) = each_more (λ x. x < N) s [] u.within (each_none (λ x. x < N)) in
    let d : Step e N S 2 [] (cells_of b) = record {
      ready = record {
        proper = p;
        few = omega (arith, l.most, p.small);
        whole = l.whole;
        lines = l.lines;
        fits = blob_fits e N (omega (arith, l.most, p.small)) b (empty_shaped e s) (rw slots within);
      };
      lay = tt;
      once = rw slots (λ x. by_slot x s (λ k z. omega arith) (λ k z. omega arith));
      within = rw slots within;
      young = rw slots (each_more (λ x. recorded R x + 1 < 2 ^ 64) s [] (omega (arith, u.young)) (each_none (λ x. recorded R x + 1 < 2 ^ 64)));
      free = rw slots (λ x z. each_more (λ x. state R x ≡ 0) s [] u.free (each_none (λ x. state R x ≡ 0)) x);
    } in
    let now : Pool e N P R (q.before ++ q.after) =
    subst (Pool e N P R) (q.all ∙ ap (λ (l : List Blob). q.before ++ (l ++ q.after)) none) was in
    let parted : Parted R s (N - suc s) q.before [] q.after =
    subst (λ (l : List Blob). Parted R s (N - suc s) q.before l q.after) none q.parted in
    record {
      before = q.before;
      after = q.after;
      was = now;
      good = next_good e S 2 [] (cells_of b) d (omega arith) o (q.before ++ (b ∷ q.after))
          (made_passes e N S b d s (N - suc s) q.before q.after (omega (arith, u.within)) refl (omega arith) (empty_shaped e s)
          (ap (drop 1) slots) now parted);
    }

-- create
pub create_done : (e : Edition) → Proper e → (S : Store) {s : ℕ} {cs : List Change} → create_call e S.pool S.records ≡ done s cs
    → Made e S (changed_by e cs S) s
unfolding create_call create_in create_on refuse_full cells_of cells empty_blob
create_done e p S {s} {cs} h =
    let N : ℕ = slots_in e S.pool in
    let P = S.pool in
    let R = S.records in
    let o = opened_done e P R _ h in
    let l = sized_lengths e P R o.0.sized in
    let (bs, seen, w, k) = after_check_done (pool_check e N P R) _ o.1 in
    let f = refuse_if_done (ltb (length (usable e N P R)) 1) NoRoom _ k in
    let i = done_same f.1 in
    let free = usable e N P R in
    let u = usable_each e N P R (lowest free) (lowest_in free (ltb-false (length free) 1 f.0)) in
    let m = create_made e p S o.0 bs (lowest free) (pool_found e p N P R l.whole w) u in
    subst (λ (s : ℕ). Made e S (changed_by e cs S) s) i.0
    (subst (λ (cs : List Change). Made e S (changed_by e cs S) (lowest free)) i.1 m)

-- a store with one blob fewer
pub record Went (e : Edition) (S S' : Store) (r : ℕ) : Type 0 where
  pub before : List Blob
  pub blob : Blob
  pub after : List Blob
  pub was : Pool e (slots_in e S.pool) S.pool S.records (before ++ (blob ∷ after))
  pub at : root_of blob ≡ r
  pub others : Every (λ c. root_of c ≡ r → ⊥) before × Every (λ c. root_of c ≡ r → ⊥) after
  pub good : Good e S' (before ++ after)

-- the other blobs have other roots
pub among_others : (e : Edition) (N : ℕ) (P R : List ℕ) (r : ℕ) (bs : List Blob) → (m : Among e N P R r bs)
    → Every (λ c. root_of c ≡ r → ⊥) m.before × Every (λ c. root_of c ≡ r → ⊥) m.after
among_others e N P R r bs m = (
  before_other R r (N - suc r) m.before (m.blob ∷ []) m.after m.parted,
  after_other R r (N - suc r) m.before (m.blob ∷ []) m.after m.parted,
)

-- no cell, no slot
no_cell : (Q : ℕ → Type 0) → Each Q (cell_slots [])
unfolding cell_slots
no_cell Q = each_none Q

-- delete
pub delete_done : (e : Edition) → Proper e → (S : Store) (r : ℕ) {cs : List Change} → delete_call e S.pool S.records r ≡ done tt cs
    → Went e S (changed_by e cs S) r
unfolding delete_call delete_in delete_on
delete_done e p S r {cs} h =
    let N : ℕ = slots_in e S.pool in
    let P = S.pool in
    let R = S.records in
    let o = opened_done e P R _ h in
    let l = sized_lengths e P R o.0.sized in
    let c = changing_done e p N P R l.whole r (delete_on e N P R) o.1 in
    let m = c.among in
    let i = done_same c.then in
    let d : Step e N S 1 (cells_of m.blob) [] = record {
      ready = record { proper = p; few = omega (arith, l.most, p.small); whole = l.whole; lines = l.lines; fits = tt };
      lay = (among_lies e N P R m.before m.after m.blob m.was).reads;
      once = λ s. by_times s (cell_slots []) (no_cell (λ s. times s (cell_slots []) ≤ 1) s) (λ z. omega arith);
      within = no_cell (λ s. s < N);
      young = no_cell (λ s. recorded R s + 1 < 2 ^ 64);
      free = λ s z. no_cell (λ s. state R s ≡ 0) s;
    } in
    record {
      before = m.before;
      blob = m.blob;
      after = m.after;
      was = m.was;
      at = m.at;
      others = among_others e N P R r c.blobs m;
      good = subst (λ (cs : List Change). Good e (changed_by e cs S) (m.before ++ m.after)) i.1
          (next_good e S 1 (cells_of m.blob) [] d (omega arith) o.0 (m.before ++ m.after)
          (gone_passes e N S m.blob d r (N - suc r) m.before m.after (omega (arith, c.low)) m.at m.was m.parted));
    }
