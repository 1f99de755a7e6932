-- Write and resize: the named blob turns into another, of the same root, and the others stay. What either owes is said of the new blob only:
-- its shape, and that its slots are distinct, and old ones or usable ones.
use mathlib.Core.Path.{◌≡◌, refl, ap, ◌∙◌, subst}
use mathlib.Core.List.{List, ◌∷◌, ◌++◌}
use Prim.Native.Nat.{ℕ, suc, ◌+◌, ◌-◌, ◌^◌, ◌≤◌, ◌<◌}
use native.Mathlib.Omega.{arith}
use borrow.Author.Tests.{ltb-false}
use lib.Dec.{ltb}
use lib.ListN.{length}
use Rattle.meaning.specs.declared.Edition.{Edition}
use Rattle.meaning.specs.Lists.{pasted, padded}
use Rattle.meaning.specs.Edition.{Proper}
use Rattle.meaning.specs.Bytes.{recorded, last_version}
use Rattle.meaning.specs.Shape.{most_count, leaves_for, total}
use Rattle.meaning.specs.Tree.{Blob, root_of, content_of, cells_of, slots_of, length_of}
use Rattle.meaning.specs.Change.{Change, Store, changed_by}
use Rattle.meaning.specs.Resize.{refilled, resized}
use Rattle.meaning.specs.Calls.{done, slots_in, usable, write_call, write_in, write_on}
use Rattle.meaning.specs.Calls.{resize_call, resize_in, resize_on, new_blocks, refuse_full, refuse_past}
use Rattle.meaning.specs.declared.Reason.TheVariants.{OutOfRange, NoRoom}
use Rattle.laws.proofs.Parts.{pasted_length}
use Rattle.laws_resize.proofs.resizing.SlotCounts.{times, slots_for}
use Rattle.laws_resize.proofs.resizing.Refilled.{refilled_root, refilled_content, refilled_shaped, refilled_slots}
use Rattle.laws_resize.proofs.resizing.Resized.{resized_shaped, resized_padded, resized_length, resized_root, resized_slots, resized_low}
use Rattle.laws_sound.proofs.sound.TimesListed.{by_times, Each, times_take}
use Rattle.laws.proofs.Every.{Every}
use Rattle.laws_sound.proofs.sound.Blobs.{Lies, lies_within}
use Rattle.laws_sound.proofs.again.Usable.{Usable, usable_each, usable_once}
use Rattle.laws_sound.proofs.sound.Pools.{lies_live, Pool}
use Rattle.laws_sound.proofs.sound.After.{Next}
use Rattle.laws_sound.proofs.sound.Steps.{Turns, turns_step, turned_passes}
use Rattle.laws_sound.proofs.again.Counts.{slots_few}
use Rattle.laws_sound.proofs.again.Outcomes.{done_same, refuse_if_done, sized_lengths, Opens, opened_done, Among}
use Rattle.laws_sound.proofs.again.Outcomes.{among_lies, among_once, changing_done, worn_done}
use Rattle.laws_sound.proofs.again.Done.{Good, next_good, among_others}

-- a store in which the blob of root r has become another, of which and of the old one something is said
pub record Became (e : Edition) (S S' : Store) (r : ℕ) (Q : (old new : Blob) → Type 0) : Type 0 where
  pub before : List Blob
  pub blob : Blob
  pub after : List Blob
  pub made : Blob
  pub was : Pool e (slots_in e S.pool) S.pool S.records (before ++ (blob ∷ after))
  pub at : root_of blob ≡ r
  pub others : Every (λ c. root_of c ≡ r → ⊥) before × Every (λ c. root_of c ≡ r → ⊥) after
  pub stays : root_of made ≡ r
  pub bytes : Q blob made
  pub next : S' ≡ Next e (slots_in e S.pool) S 1 (cells_of blob) (cells_of made)
  pub good : Good e S' (before ++ (made ∷ after))

-- so it is where a blob of the pool turns into another
pub turned_became : (e : Edition) → Proper e → (S : Store) → Opens e S.pool S.records → (r : ℕ) (bs : List Blob) → r < slots_in e S.pool
    → (m : Among e (slots_in e S.pool) S.pool S.records r bs) → Each (λ s. recorded S.records s < last_version) (slots_of m.blob)
    → (made : Blob) → Turns e (slots_in e S.pool) S.records m.blob made
    → (Q : (old new : Blob) → Type 0) → Q m.blob made
    → Became e S (Next e (slots_in e S.pool) S 1 (cells_of m.blob) (cells_of made)) r Q
turned_became e p S o r bs low m young made t Q bytes =
    let N : ℕ = slots_in e S.pool in
    let P = S.pool in
    let R = S.records in
    let l = sized_lengths e P R o.sized in
    let few : N ≤ 2 ^ 32 = omega (arith, l.most, p.small) in
    let lay = among_lies e N P R m.before m.after m.blob m.was in
    record {
      before = m.before;
      blob = m.blob;
      after = m.after;
      made = made;
      was = m.was;
      at = m.at;
      others = among_others e N P R r bs m;
      stays = t.root ∙ m.at;
      bytes = bytes;
      next = refl;
      good = next_good e S 1 (cells_of m.blob) (cells_of made) (turns_step e p N few S m.blob made l.whole l.lines lay young t)
          (omega arith) o (m.before ++ (made ∷ m.after))
          (turned_passes e p N few S m.blob made l.whole l.lines lay young t r (N - suc r) m.before m.after (omega arith) m.at
          m.was m.parted);
    }

-- a blob refilled with as many bytes
refilled_turns : (e : Edition) (N : ℕ) (P R : List ℕ) (b : Blob) (d : List ℕ) → Lies e N P R b → ((s : ℕ) → times s (slots_of b) ≤ 1)
    → length d ≡ length_of b → Turns e N R b (refilled d b)
refilled_turns e N P R b d lay once long =
    let same = refilled_slots d b long in
    record {
      root = refilled_root d b;
      low = unfold refilled in lay.low;
      shape = refilled_shaped d b long e lay.shape;
      once = rw same once;
      taken = rw same (λ s z h. absurd (omega arith));
    }

-- a blob with d put in at the offset, inside its length, in the same slots
abbrev pub Wrote : (offset : ℕ) (d : List ℕ) (old new : Blob) → Type 0
Wrote offset d old new =
    (offset + length d ≤ length (content_of old)) × (content_of new ≡ pasted offset d (content_of old)) × (slots_of new ≡ slots_of old)

-- a blob resized with the free slots of a store
abbrev pub Sized : Edition → Store → (len : ℕ) (old new : Blob) → Type 0
Sized e S len old new =
    (content_of new ≡ padded len (content_of old)) × (new ≡ resized e len (usable e (slots_in e S.pool) S.pool S.records) old)
    × (new_blocks e (slots_in e S.pool) S.pool S.records len old ≤ length (usable e (slots_in e S.pool) S.pool S.records))

-- write
pub write_done : (e : Edition) → Proper e → (S : Store) (r offset : ℕ) (d : List ℕ) {cs : List Change}
    → write_call e S.pool S.records r offset d ≡ done tt cs → Became e S (changed_by e cs S) r (Wrote offset d)
unfolding write_call write_in write_on refuse_past length_of
write_done e p S r offset d {cs} h =
    let N : ℕ = slots_in e S.pool in
    let P = S.pool in
    let R = S.records in
    let o = opened_done e P R _ h in
    let l = sized_lengths e P R o.0.sized in
    let c = changing_done e p N P R l.whole r (write_on e N P R offset d) o.1 in
    let m = c.among in
    let b : Blob = m.blob in
    let w = worn_done e N P R b _ c.then in
    let f = refuse_if_done (ltb (length_of b) (offset + length d)) OutOfRange _ w.1 in
    let i = done_same f.1 in
    let fits : offset + length d ≤ length (content_of b) = ltb-false (length_of b) (offset + length d) f.0 in
    let bytes : List ℕ = pasted offset d (content_of b) in
    let long : length bytes ≡ length_of b = pasted_length offset d (content_of b) fits in
    let lay = among_lies e N P R m.before m.after b m.was in
    let t = refilled_turns e N P R b bytes lay (among_once e N P R m.before m.after b m.was) long in
    let done = turned_became e p S o.0 r c.blobs c.low m w.0 (refilled bytes b) t (Wrote offset d)
    (fits, refilled_content bytes b long, refilled_slots bytes b long) in
    subst (λ (cs : List Change). Became e S (changed_by e cs S) r (Wrote offset d)) i.1 done

-- a blob resized with the usable slots, if they are enough
resized_turns : (e : Edition) → Proper e → (N : ℕ) (P R : List ℕ) (b : Blob) (len : ℕ) → N ≤ e.most → Lies e N P R b
    → ((s : ℕ) → times s (slots_of b) ≤ 1)
    → new_blocks e N P R len b ≤ length (usable e N P R) → Turns e N R b (resized e len (usable e N P R) b)
resized_turns e p N P R b len most_count lay once enough =
    let free = usable e N P R in
    let b' = resized e len free b in
    let from : (s : ℕ) → times s (slots_of b') ≤ times s (slots_of b) + times s free = λ s.
    omega (arith, resized_slots e p.some p.two b lay.shape len free N P R enough s, times_take s (new_blocks e N P R len b) free) in
    let usable : (s : ℕ) → times s (slots_of b) ≡ 0 → 1 ≤ times s (slots_of b') → Usable N R s = λ s z h.
    usable_each e N P R s (omega (arith, from s)) in
    let within : Each (λ s. s < N) (slots_of b') = λ s h.
    by_times s (slots_of b) (lies_within e N P R b lay s) (λ z. (usable s z h).within) in
    let once' : (s : ℕ) → times s (slots_of b') ≤ 1 = λ s.
    by_times s (slots_of b)
    (λ h. by_times s free
    (λ k. absurd (lies_live e N P R b lay s h (usable_each e N P R s k).free))
    (λ k. omega (arith, from s, once s)))
    (λ z. omega (arith, from s, usable_once e N P R s)) in
    let few : total e.fan (leaves_for e.leaf len) ≤ e.most =
    omega (
      arith,
      slots_few N (slots_of b') within once',
      slots_for e p.some p.two b' (resized_shaped e p.some p.two b lay.shape len free),
      ap (λ (n : ℕ). total e.fan (leaves_for e.leaf n)) (resized_length e p.some p.two b lay.shape len free),
    ) in
    record {
      root = resized_root e p.some p.two b lay.shape len free;
      low = resized_low e p.some p.two b lay.shape len free few p.room;
      shape = resized_shaped e p.some p.two b lay.shape len free;
      once = once';
      taken = λ s z h. let u = usable s z h in (u.within, u.free, u.young);
    }

-- resize
pub resize_done : (e : Edition) → Proper e → (S : Store) (r len : ℕ) {cs : List Change} → resize_call e S.pool S.records r len ≡ done tt cs
    → Became e S (changed_by e cs S) r (Sized e S len)
unfolding resize_call resize_in resize_on refuse_full
resize_done e p S r len {cs} h =
    let N : ℕ = slots_in e S.pool in
    let P = S.pool in
    let R = S.records in
    let o = opened_done e P R _ h in
    let l = sized_lengths e P R o.0.sized in
    let c = changing_done e p N P R l.whole r (resize_on e N P R len) o.1 in
    let m = c.among in
    let b : Blob = m.blob in
    let w = worn_done e N P R b _ c.then in
    let f = refuse_if_done (ltb (length (usable e N P R)) (new_blocks e N P R len b)) NoRoom _ w.1 in
    let i = done_same f.1 in
    let lay = among_lies e N P R m.before m.after b m.was in
    let enough : new_blocks e N P R len b ≤ length (usable e N P R) = ltb-false (length (usable e N P R)) (new_blocks e N P R len b) f.0 in
    let t = resized_turns e p N P R b len l.most lay (among_once e N P R m.before m.after b m.was) enough in
    let done = turned_became e p S o.0 r c.blobs c.low m w.0 (resized e len (usable e N P R) b) t (Sized e S len)
    (resized_padded e p.some p.two b lay.shape len (usable e N P R), refl, enough) in
    subst (λ (cs : List Change). Became e S (changed_by e cs S) r (Sized e S len)) i.1 done
